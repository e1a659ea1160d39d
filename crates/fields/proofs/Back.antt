-- A field that is written is read back, and a field that is read is written back. Assumes nothing.
use Rattle.std.specs.Prelude.{None, Option, Some}
use Prim.Native.Nat.{ℕ, zero, suc, ◌+◌, ◌-◌, ◌*◌, ◌^◌, ◌/◌, ◌%◌, ◌≤◌, ◌<◌}
use mathlib.Core.Path.{◌≡◌, refl, sym, ap, ◌∙◌}
use mathlib.Core.Bool.{Bool, true, false, cond}
use mathlib.Core.List.{List, [], ◌∷◌, ◌++◌, tail, append_assoc}
use native.Mathlib.Nat.{pow-suc, pow-zero, div-add-mod', div-lt_iff_lt-mul, mod-lt}
use native.Mathlib.Omega.{arith}
use lib.Dec.{ltb, eqb}
use lib.Arith.{digits_div, digits_mod}
use borrow.Author.Tests.{lt-ltb, le-ltb, ltb-true, ltb-false, eq-eqb, ne_eqb, eqb-true}
use Rattle.fields.specs.Form.{Got, bad, got, then, digit, read_digits, next_is, ended, number_form, optional_form}
use Rattle.fields.specs.Text.{digit_byte, digits_of, number_text, optional_text}
use Rattle.fields.specs.Told.{Below}
use Rattle.fields.proofs.ReadDigits.{no_bad}
use Rattle.fields.proofs.Forms.{unthen, uncond, unended}

-- ---- a digit and its byte

pub digit-byte : (d : ℕ) → d < 16 → digit (digit_byte d) ≡ d
unfolding digit_byte
digit-byte d h = on (ltb d 10) refl
  where
    on : (t : Bool) → ltb d 10 ≡ t → digit (cond t (d + 48) (d + 55)) ≡ d
    on true e =
        let k : d < 10 = ltb-true d 10 e in
        let z : d + 48 - 48 ≡ d = omega arith in
        rw (le-ltb (d + 48) 48 (omega arith), lt-ltb (d + 48) 58 (omega arith), z)
    on false e =
        let k : 10 ≤ d = ltb-false d 10 e in
        let z : d + 55 - 55 ≡ d = omega arith in
        rw (le-ltb (d + 55) 48 (omega arith), le-ltb (d + 55) 58 (omega arith), le-ltb (d + 55) 65 (omega arith), lt-ltb (d + 55) 71 (omega arith), z)

pub byte_digit : (b : ℕ) → digit b < 16 → digit_byte (digit b) ≡ b
unfolding digit_byte
byte_digit b = on (ltb b 48) refl (ltb b 58) refl (ltb b 65) refl (ltb b 71) refl
  where
    on : (t : Bool) → ltb b 48 ≡ t → (u : Bool) → ltb b 58 ≡ u → (x : Bool) → ltb b 65 ≡ x → (y : Bool) → ltb b 71 ≡ y
        → cond t 16 (cond u (b - 48) (cond x 16 (cond y (b - 55) 16))) < 16 → digit_byte (cond t 16 (cond u (b - 48) (cond x 16 (cond y (b - 55) 16)))) ≡ b
    on true p u q x r y s h = absurd (omega arith)
    on false p true q x r y s h =
        let k : 48 ≤ b = ltb-false b 48 p in
        let l : b < 58 = ltb-true b 58 q in
        rw (lt-ltb (b - 48) 10 (omega arith)) (omega arith)
    on false p false q true r y s h = absurd (omega arith)
    on false p false q false r true s h =
        let k : 65 ≤ b = ltb-false b 65 r in
        rw (le-ltb (b - 55) 10 (omega arith)) (omega arith)
    on false p false q false r false s h = absurd (omega arith)

-- ---- digits: the last one read apart

pub digits_snoc : (base w v : ℕ) (l : List ℕ) → read_digits base (suc w) v l ≡ then (read_digits base w v l) (λ u m. read_digits base 1 u m)
unfolding read_digits
digits_snoc base zero v l = refl
digits_snoc base (suc w) v [] = refl
digits_snoc base (suc w) v (b ∷ l) = on (ltb (digit b) base) (digits_snoc base w (v * base + digit b) l)
  where
    on : (t : Bool) → read_digits base (suc w) (v * base + digit b) l ≡ then (read_digits base w (v * base + digit b) l) (λ u m. read_digits base 1 u m)
        → cond t (read_digits base (suc w) (v * base + digit b) l) bad ≡ then (cond t (read_digits base w (v * base + digit b) l) bad) (λ u m. read_digits base 1 u m)
    on true e = e
    on false e = refl

one_digit : (base u d : ℕ) (rest : List ℕ) → d < base → base ≤ 16 → read_digits base 1 u (digit_byte d ∷ rest) ≡ got (u * base + d) rest
unfolding read_digits
one_digit base u d rest h small = rw (digit-byte d (omega arith), lt-ltb d base h)

pub read-digits : (base w v : ℕ) (rest : List ℕ) → 0 < base → base ≤ 16 → v < base ^ w → read_digits base w 0 (digits_of base w v ++ rest) ≡ got v rest
unfolding digits_of read_digits
read-digits base zero v rest pos small h = let e : 0 ≡ v = omega (arith, pow-zero base) in rw e
read-digits base (suc w) v rest pos small h =
    let q : v / base < base ^ w = (div-lt_iff_lt-mul pos).1 (rw pow-suc at h) in
    ap (λ (l : List ℕ). read_digits base (suc w) 0 l) (append_assoc (digits_of base w (v / base)) (digit_byte (v % base) ∷ []) rest)
    ∙ digits_snoc base w 0 (digits_of base w (v / base) ++ (digit_byte (v % base) ∷ rest))
    ∙ ap (λ (x : Got ℕ). then x (λ u m. read_digits base 1 u m)) (read-digits base w (v / base) (digit_byte (v % base) ∷ rest) pos small q)
    ∙ one_digit base (v / base) (v % base) rest (mod-lt v pos) small
    ∙ ap (λ (n : ℕ). got n rest) (div-add-mod' v base)

-- ---- and back

one_back : (base u : ℕ) (m : List ℕ) (v : ℕ) (rest : List ℕ) → base ≤ 16 → read_digits base 1 u m ≡ got v rest
    → (m ≡ digit_byte (v % base) ∷ rest) × (v / base ≡ u)
unfolding read_digits
one_back base u [] v rest small e = no_bad e
one_back base u (b ∷ m) v rest small e =
    uncond (ltb (digit b) base) e
    (λ t q.
    let h : digit b < base = ltb-true _ _ t in
    let n : u * base + digit b ≡ v = cc in
    let same : m ≡ rest = cc in
    let d : v % base ≡ digit b = rw (← n) (digits_mod u h) in
    (rw (d, same, byte_digit b (omega arith)), rw (← n) (digits_div u h)))

pub write_digits : (base w : ℕ) (l : List ℕ) (v : ℕ) (rest : List ℕ) → base ≤ 16 → read_digits base w 0 l ≡ got v rest → l ≡ digits_of base w v ++ rest
unfolding digits_of read_digits
write_digits base zero l v rest small e = cc
write_digits base (suc w) l v rest small e =
    unthen (read_digits base w 0 l) (λ u m. read_digits base 1 u m) (sym (digits_snoc base w 0 l) ∙ e)
    (λ u m p q.
    let r = one_back base u m v rest small q in
    write_digits base w l u m small p ∙ rw (r.1, r.0, append_assoc))

-- ---- a number with the byte after it

eqb_self : (e : ℕ) → eqb e e ≡ true
eqb_self e = eq-eqb e e refl

pub read_number : (base w e v : ℕ) (rest : List ℕ) → 0 < base → base ≤ 16 → v < base ^ w → number_form base w e (number_text base w e v ++ rest) ≡ got v rest
unfolding number_form next_is
read_number base w e v rest pos small h =
    ap (λ (l : List ℕ). number_form base w e l) (append_assoc (digits_of base w v) (e ∷ []) rest)
    ∙ rw (read-digits base w v (e ∷ rest) pos small h, eqb_self e)

pub write_number : (base w e : ℕ) (l : List ℕ) (v : ℕ) (rest : List ℕ) → base ≤ 16 → number_form base w e l ≡ got v rest → l ≡ number_text base w e v ++ rest
unfolding number_form
write_number base w e l v rest small q =
    unthen (read_digits base w 0 l) (λ u m. ended e u m) q
    (λ u m p k.
    let z = unended e u m k in
    write_digits base w l u m small p ∙ rw (z.0, z.1, append_assoc))

-- ---- an optional number

-- a digit's byte is no '-'
byte_no_dash : (d : ℕ) → eqb (digit_byte d) 45 ≡ false
unfolding digit_byte
byte_no_dash d = on (ltb d 10)
  where
    on : (t : Bool) → eqb (cond t (d + 48) (d + 55)) 45 ≡ false
    on true = ne_eqb (d + 48) 45 (λ e. omega arith)
    on false = ne_eqb (d + 55) 45 (λ e. omega arith)

no_dash : (base w v : ℕ) (rest : List ℕ) → 0 < w → next_is 45 (digits_of base w v ++ rest) ≡ false
unfolding digits_of next_is
no_dash base zero v rest h = absurd (omega arith)
no_dash base (suc zero) v rest h = byte_no_dash (v % base)
no_dash base (suc (suc w)) v rest h =
    ap (λ (l : List ℕ). next_is 45 l) (append_assoc (digits_of base (suc w) (v / base)) (digit_byte (v % base) ∷ []) rest)
    ∙ no_dash base (suc w) (v / base) (digit_byte (v % base) ∷ rest) (omega arith)

pub read_optional : (w e : ℕ) (p : Option ℕ) (rest : List ℕ) → 0 < w → Below (16 ^ w) p → optional_form w e (optional_text w e p ++ rest) ≡ got p rest
unfolding optional_form optional_text next_is
read_optional w e None rest pos h = rw (eqb_self e)
read_optional w e (Some v) rest pos h =
    let s : next_is 45 (number_text 16 w e v ++ rest) ≡ false = ap (λ (l : List ℕ). next_is 45 l) (append_assoc (digits_of 16 w v) (e ∷ []) rest) ∙ no_dash 16 w v (e ∷ rest) pos in
    rw (s, read_number 16 w e v rest (omega arith) (omega arith) h)

next_cons : (b : ℕ) (l : List ℕ) → next_is b l ≡ true → l ≡ b ∷ tail l
unfolding next_is
next_cons b [] e = let z : ◌≡◌ {A = ℕ} 0 1 = cc in absurd (omega arith)
next_cons b (x ∷ l) e = ap (λ (y : ℕ). y ∷ l) (eqb-true x b e)

pub write_optional : (w e : ℕ) (l : List ℕ) (p : Option ℕ) (rest : List ℕ) → optional_form w e l ≡ got p rest → l ≡ optional_text w e p ++ rest
unfolding optional_form optional_text
write_optional w e l p rest q = on (next_is 45 l) refl q
  where
    on : (t : Bool) → next_is 45 l ≡ t → cond t (ended e None (tail l)) (then (number_form 16 w e l) (λ v m. got (Some v) m)) ≡ got p rest → l ≡ optional_text w e p ++ rest
    on true s k =
        let z = unended e None (tail l) k in
        next_cons 45 l s ∙ rw (z.1, ← z.0)
    on false s k =
        unthen (number_form 16 w e l) (λ v m. got (Some v) m) k
        (λ v m a b.
        let n : Some v ≡ p = cc in
        let o : m ≡ rest = cc in
        rw (← n, ← o) (write_number 16 w e l v m (omega arith) a))
