-- A target that is written is read back, and one that is read is written back. Assumes nothing.
use Prim.Native.Nat.{ℕ, zero, suc, ◌+◌, ◌*◌, ◌^◌, ◌/◌, ◌≤◌, ◌<◌}
use mathlib.Core.Path.{◌≡◌, refl, sym, ap, ◌∙◌}
use mathlib.Core.Bool.{Bool, true, false, cond}
use mathlib.Core.List.{List, [], ◌∷◌, ◌++◌, tail, append_assoc}
use native.Mathlib.Nat.{pow-suc, pow-zero, add-mul, mul_comm, mul_assoc, mul-one, one-mul, mul-le-mul_right, zero-add, div-lt_iff_lt-mul, le-div_iff_mul-le, pow-le-pow_right}
use native.Mathlib.Omega.{arith}
use lib.Dec.{ltb, eqb}
use borrow.Author.Tests.{lt-ltb, ltb-true, ltb-false, eqb-true, eqb-false, ne_eqb}
use Rattle.fields.specs.Form.{bad, got, then, digit, read_digits, next_is, ended, decimals, next_digit, target_form}
use Rattle.fields.specs.Text.{digit_byte, digits_of, places_of, decimal_text}
use Rattle.fields.proofs.ReadDigits.{no_bad, digits_lt}
use Rattle.fields.proofs.Decimal.{decimals_lt}
use Rattle.fields.proofs.Places.{ten, places_is}
use Rattle.fields.proofs.Forms.{unthen, uncond, unended}
use Rattle.fields.proofs.Back.{byte_digit, read-digits, write_digits}

-- ---- digits of a fixed width, and as far as they go

-- another digit makes at least ten times as much
pub grows : (v d p : ℕ) → v * (p * 10) ≤ (v * 10 + d) * p
grows v d p =
    let left : v * (p * 10) ≡ v * 10 * p = ap (λ (k : ℕ). v * k) (mul_comm p 10) ∙ sym (mul_assoc v 10 p) in
    let right : (v * 10 + d) * p ≡ v * 10 * p + d * p = add-mul (v * 10) d p in
    omega arith

-- the number does not fall
digits_ge : (w v : ℕ) (l : List ℕ) (u : ℕ) (m : List ℕ) → read_digits 10 w v l ≡ got u m → v * 10 ^ w ≤ u
unfolding read_digits
digits_ge zero v l u m e = let k : v ≡ u = cc in rw (pow-zero, mul-one) (omega arith)
digits_ge (suc w) v [] u m e = no_bad e
digits_ge (suc w) v (b ∷ l) u m e =
    uncond (ltb (digit b) 10) e (λ t q. let up : 10 ^ suc w ≡ 10 ^ w * 10 = pow-suc 10 w in rw up (omega (arith, grows v (digit b) (10 ^ w), digits_ge w (v * 10 + digit b) l u m q)))

digits_le : (w v : ℕ) (l : List ℕ) (u : ℕ) (m : List ℕ) → read_digits 10 w v l ≡ got u m → v ≤ u
unfolding read_digits
digits_le zero v l u m e = let k : v ≡ u = cc in omega arith
digits_le (suc w) v [] u m e = no_bad e
digits_le (suc w) v (b ∷ l) u m e = uncond (ltb (digit b) 10) e (λ t q. omega (arith, digits_le w (v * 10 + digit b) l u m q))

digits_decimals : (w v : ℕ) (l : List ℕ) (u : ℕ) (m : List ℕ) → read_digits 10 w v l ≡ got u m → u < 2 ^ 32 → decimals v l ≡ decimals u m
unfolding read_digits decimals
digits_decimals zero v l u m e h = let k : v ≡ u = cc in let n : l ≡ m = cc in cc
digits_decimals (suc w) v [] u m e h = no_bad e
digits_decimals (suc w) v (b ∷ l) u m e h =
    uncond (ltb (digit b) 10) e
    (λ t q.
    let s : ltb (v * 10 + digit b) 0x1_0000_0000 ≡ true = lt-ltb (v * 10 + digit b) 0x1_0000_0000 (omega (arith, digits_le w (v * 10 + digit b) l u m q)) in
    rw (t, s) (digits_decimals w (v * 10 + digit b) l u m q h))

decimals_digits : (v : ℕ) (l : List ℕ) (u : ℕ) (m : List ℕ) → decimals v l ≡ got u m → (w : ℕ) × (read_digits 10 w v l ≡ got u m)
unfolding read_digits decimals
decimals_digits v [] u m e = (0, e)
decimals_digits v (b ∷ l) u m e = on (ltb (digit b) 10) refl (ltb (v * 10 + digit b) 0x1_0000_0000) e (λ q. decimals_digits (v * 10 + digit b) l u m q)
  where
    on : (t : Bool) → ltb (digit b) 10 ≡ t → (x : Bool) → cond t (cond x (decimals (v * 10 + digit b) l) bad) (got v (b ∷ l)) ≡ got u m
        → (decimals (v * 10 + digit b) l ≡ got u m → (w : ℕ) × (read_digits 10 w (v * 10 + digit b) l ≡ got u m)) → (w : ℕ) × (read_digits 10 w v (b ∷ l) ≡ got u m)
    on true t true q f = let r = f q in (suc r.0, rw t r.1)
    on true t false q f = no_bad q
    on false t x q f = (0, q)

-- ---- the first digit

-- no 0 leads exactly where the number has all of its digits
first_not_zero : (j : ℕ) (l : List ℕ) (v : ℕ) (m : List ℕ) → read_digits 10 (suc j) 0 l ≡ got v m → 10 ^ j ≤ v → (next_digit l < 10) × (next_digit l ≡ 0 → ⊥)
unfolding read_digits next_digit
first_not_zero j [] v m e h = no_bad e
first_not_zero j (b ∷ l) v m e h =
    uncond (ltb (digit b) 10) e
    (λ t q. (
      ltb-true _ _ t,
      λ z.
          let s : read_digits 10 j 0 l ≡ got v m = rw z at q in
          let k : v < 10 ^ (0 + j) = digits_lt 10 j 0 l v m 0 (omega (arith, pow-zero 10)) s in
          let n : 0 + j ≡ j = zero-add j in
          absurd (omega (arith, rw n at k)),
    ))

all_digits : (j : ℕ) (l : List ℕ) (v : ℕ) (m : List ℕ) → read_digits 10 (suc j) 0 l ≡ got v m → (next_digit l ≡ 0 → ⊥) → 10 ^ j ≤ v
unfolding read_digits next_digit
all_digits j [] v m e h = no_bad e
all_digits j (b ∷ l) v m e h =
    uncond (ltb (digit b) 10) e
    (λ t q.
    let z : 0 * 10 + digit b ≡ digit b = omega arith in
    let k : digit b * 10 ^ j ≤ v = rw z at (digits_ge j (0 * 10 + digit b) l v m q) in
    let o : 1 * 10 ^ j ≤ digit b * 10 ^ j = mul-le-mul_right (10 ^ j) (omega (arith, h)) in
    omega (arith, one-mul (10 ^ j)))

-- ---- how many digits a number has

record Places (most v : ℕ) : Type 0 where
  before_last : ℕ
  is : places_of most v ≡ suc before_last
  low : 10 ^ before_last ≤ v
  high : v < 10 ^ suc before_last

places : (most v : ℕ) → v < 10 ^ most → 0 < v → Places most v
unfolding places_of
places zero v h p = absurd (omega (arith, pow-zero 10))
places (suc k) v h p = on (ltb v 10) refl (λ s q. places k (v / 10) s q)
  where
    on : (t : Bool) → ltb v 10 ≡ t → (v / 10 < 10 ^ k → 0 < v / 10 → Places k (v / 10)) → Places (suc k) v
    on true e f = record { before_last = 0; is = rw e; low = omega (arith, pow-zero 10); high = omega (arith, pow-suc 10 0, pow-zero 10, ltb-true v 10 e) }
    on false e f =
        let s : v < 10 ^ k * 10 = rw pow-suc at h in
        let many : 10 ≤ v = ltb-false v 10 e in
        let one : 1 ≤ v / 10 = (le-div_iff_mul-le ten).1 (omega arith) in
        let r = f ((div-lt_iff_lt-mul ten).1 s) one in
        record {
          before_last = suc r.before_last;
          is = rw e (ap suc r.is);
          low = rw pow-suc ((le-div_iff_mul-le ten).0 r.low);
          high = rw (pow-suc 10 (suc r.before_last)) ((div-lt_iff_lt-mul ten).0 r.high);
        }

-- ---- the target

read_positive : (v : ℕ) (rest : List ℕ) → v < 2 ^ 32 → 0 < v → target_form (digits_of 10 (places_of 10 v) v ++ (32 ∷ rest)) ≡ got v rest
unfolding target_form decimals next_is
read_positive v rest h p =
    let c = places 10 v (omega arith) p in
    let l = digits_of 10 (places_of 10 v) v ++ (32 ∷ rest) in
    let r : read_digits 10 (places_of 10 v) 0 l ≡ got v (32 ∷ rest) = read-digits 10 (places_of 10 v) v (32 ∷ rest) (omega arith) (omega arith) (rw c.is c.high) in
    let f = first_not_zero c.before_last l v (32 ∷ rest) (ap (λ (k : ℕ). read_digits 10 k 0 l) (sym c.is) ∙ r) c.low in
    rw (ne_eqb (next_digit l) 0 f.1, lt-ltb (next_digit l) 10 f.0, digits_decimals (places_of 10 v) 0 l v (32 ∷ rest) r h)

read_zero : (rest : List ℕ) → target_form (digits_of 10 (places_of 10 0) 0 ++ (32 ∷ rest)) ≡ got 0 rest
unfolding target_form places_of digits_of digit_byte next_digit next_is
read_zero rest = refl

pub read_target : (v : ℕ) (rest : List ℕ) → v < 2 ^ 32 → target_form (decimal_text 32 v ++ rest) ≡ got v rest
read_target v rest h = ap target_form (append_assoc (digits_of 10 (places_of 10 v) v) (32 ∷ []) rest) ∙ on v h
  where
    on : (v : ℕ) → v < 2 ^ 32 → target_form (digits_of 10 (places_of 10 v) v ++ (32 ∷ rest)) ≡ got v rest
    on zero h = read_zero rest
    on (suc v) h = read_positive (suc v) rest h (omega arith)

zero_text : (rest : List ℕ) → 48 ∷ (32 ∷ rest) ≡ decimal_text 32 0 ++ rest
unfolding places_of digits_of digit_byte
zero_text rest = refl

write_zero : (l : List ℕ) (v : ℕ) (rest : List ℕ) → next_digit l ≡ 0 → ended 32 0 (tail l) ≡ got v rest → l ≡ decimal_text 32 v ++ rest
unfolding next_digit digit_byte
write_zero [] v rest d e = absurd (omega arith)
write_zero (b ∷ l) v rest d e =
    let z = unended 32 0 l e in
    let k : 48 ≡ b = rw d at (byte_digit b (omega (arith, d))) in
    rw (← k, z.1, ← z.0) (zero_text rest)

write_positive : (l : List ℕ) (v : ℕ) (m rest : List ℕ) → (next_digit l ≡ 0 → ⊥) → next_digit l < 10 → decimals 0 l ≡ got v m → m ≡ 32 ∷ rest → l ≡ decimal_text 32 v ++ rest
unfolding read_digits next_digit
write_positive l v m rest n s e q = on (decimals_digits 0 l v m e)
  where
    on : (w : ℕ) × (read_digits 10 w 0 l ≡ got v m) → l ≡ decimal_text 32 v ++ rest
    on (zero, r) = let k : l ≡ 32 ∷ rest = cc in absurd (omega (arith, rw k at s))
    on (suc j, r) =
        let low : 10 ^ j ≤ v = all_digits j l v m r n in
        let high : v < 10 ^ (0 + suc j) = digits_lt 10 (suc j) 0 l v m 0 (omega (arith, pow-zero 10)) r in
        let z : 0 + suc j ≡ suc j = zero-add (suc j) in
        let few : suc j ≤ 10 = small (ltb j 10) refl in
        let p : places_of 10 v ≡ suc j = places_is 10 j v low (rw z at high) few in
        write_digits 10 (suc j) l v m (omega arith) r ∙ rw (p, q) (sym (append_assoc (digits_of 10 (suc j) v) (32 ∷ []) rest))
      where
        small : (t : Bool) → ltb j 10 ≡ t → suc j ≤ 10
        small true t = omega (arith, ltb-true j 10 t)
        small false t = absurd (omega (arith, all_digits j l v m r n, decimals_lt 0 l v m (omega arith) e, pow-le-pow_right {n = 10} ten {i = 10} {j = j} (ltb-false j 10 t)))

pub write_target : (l : List ℕ) (v : ℕ) (rest : List ℕ) → target_form l ≡ got v rest → l ≡ decimal_text 32 v ++ rest
unfolding target_form
write_target l v rest e = on (eqb (next_digit l) 0) refl e
  where
    on : (t : Bool) → eqb (next_digit l) 0 ≡ t → cond t (ended 32 0 (tail l)) (cond (ltb (next_digit l) 10) (then (decimals 0 l) (λ v rest. ended 32 v rest)) bad) ≡ got v rest
        → l ≡ decimal_text 32 v ++ rest
    on true t q = write_zero l v rest (eqb-true (next_digit l) 0 t) q
    on false t q =
        uncond (ltb (next_digit l) 10) q
        (λ s r.
        unthen (decimals 0 l) (λ v rest. ended 32 v rest) r
        (λ u m a b.
        let z = unended 32 u m b in
        write_positive l v m rest (eqb-false (next_digit l) 0 t) (ltb-true (next_digit l) 10 s) (rw z.0 at a) z.1))
