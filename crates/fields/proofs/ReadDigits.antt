-- Digits read one after the other: a step of the loop, a list that is too short, and that the number fits. Assumes nothing.
use Prim.Native.Nat.{ℕ, zero, suc, ◌+◌, ◌-◌, ◌*◌, ◌^◌, ◌≤◌, ◌<◌}
use mathlib.Core.Path.{◌≡◌, refl, sym, ap, ◌∙◌}
use mathlib.Core.Bool.{Bool, true, false, cond}
use mathlib.Core.List.{List, [], ◌∷◌, ◌++◌, tail, map}
use native.Mathlib.Nat.{pow-suc, pow-zero, add-zero, zero-add, add-mul, one-mul, mul-le-mul_right, pow-le-pow_right, le_of_suc-le-suc, not-suc-le-zero}
use native.Mathlib.Numerals.{add-one}
use native.Mathlib.Omega.{arith}
use lib.ListN.{length, drop, get_or, drop_of_length-le}
use lib.Seq.{drop-cons}
use lib.Dec.{ltb}
use borrow.Author.Tests.{lt-ltb, le-ltb, ltb-true}
use Rattle.fields.specs.Form.{Got, bad, got, then, digit, read_digits, next_is, ended, number_form}
use Rattle.std.specs.List.{range_with_len}
use Rattle.std.proofs.lemmas.List.FromFn.{get_or-map-range_with_len}

either_bad : {A : Type 0} (t : Bool) {x : Got A} → x ≡ bad → cond t x bad ≡ bad
either_bad true e = e
either_bad false e = refl

pub digits_short : (base w v : ℕ) (l : List ℕ) → length l < w → read_digits base w v l ≡ bad
unfolding read_digits
digits_short base zero v l h = absurd (not-suc-le-zero h)
digits_short base (suc w) v [] h = refl
digits_short base (suc w) v (b ∷ l) h = either_bad (ltb (digit b) base) (digits_short base w (v * base + digit b) l (le_of_suc-le-suc h))

-- the digits of a part of the bytes, one after the other: another one, one that is none, and the last
module _ (base v : ℕ) (s rest : List ℕ) (i d : ℕ) (h : i < length s) (e : d ≡ digit (get_or s i 0)) where
  opened : read_digits base (length s - i) v (drop i s ++ rest) ≡ read_digits base (suc (length s - (i + 1))) v (get_or s i 0 ∷ (drop (i + 1) s ++ rest))
  opened =
      let k : length s - i ≡ suc (length s - (i + 1)) = omega arith in
      rw (k, drop-cons s i 0 h, add-one i)

  pub digits_more : d < base → read_digits base (length s - i) v (drop i s ++ rest) ≡ read_digits base (length s - (i + 1)) (v * base + d) (drop (i + 1) s ++ rest)
  unfolding read_digits
  digits_more small =
      let t : ltb (digit (get_or s i 0)) base ≡ true = lt-ltb _ _ (rw e at small) in
      opened ∙ rw (t, ← e)

  pub digits_stop : base ≤ d → read_digits base (length s - i) v (drop i s ++ rest) ≡ bad
  unfolding read_digits
  digits_stop large =
      let t : ltb (digit (get_or s i 0)) base ≡ false = le-ltb _ _ (rw e at large) in
      opened ∙ rw t

pub digits_all : (base v : ℕ) (s rest : List ℕ) (i : ℕ) → length s ≤ i → read_digits base (length s - i) v (drop i s ++ rest) ≡ got v rest
unfolding read_digits
digits_all base v s rest i h = let k : length s - i ≡ 0 = omega arith in rw (k, drop_of_length-le s h)

-- the number after another digit is below the next power
pub horner : (base i v d : ℕ) → v < base ^ i → d < base → v * base + d < base ^ (i + 1)
horner base i v d h small =
    let e : base ^ (i + 1) ≡ base ^ i * base = ap (λ (k : ℕ). base ^ k) (add-one i) ∙ pow-suc base i in
    let m : suc v * base ≤ base ^ i * base = mul-le-mul_right base h in
    let n : suc v * base ≡ v * base + base = ap (λ (k : ℕ). k * base) (sym (add-one v)) ∙ add-mul v 1 base ∙ ap (λ (k : ℕ). v * base + k) (one-mul base) in
    omega arith

pub horner_fits : (base i w v d : ℕ) → v < base ^ i → d < base → i < w → base ^ w ≤ 2 ^ 64 → v * base + d < 2 ^ 64
horner_fits base i w v d h small less fit =
    let p : base ^ (i + 1) ≤ base ^ w = pow-le-pow_right (omega arith) (omega arith) in
    omega (arith, horner base i v d h small)

digit_le : (b : ℕ) → digit b ≤ 16
digit_le b = low (ltb b 48) (ltb b 58) refl (ltb b 65) (ltb b 71) refl
  where
    low : (t u : Bool) → ltb b 58 ≡ u → (x y : Bool) → ltb b 71 ≡ y → cond t 16 (cond u (b - 48) (cond x 16 (cond y (b - 55) 16))) ≤ 16
    low true u p x y q = omega arith
    low false true p x y q = omega (arith, ltb-true b 58 p)
    low false false p true y q = omega arith
    low false false p false true q = omega (arith, ltb-true b 71 q)
    low false false p false false q = omega arith

-- those of the digits of a part
pub ruleset part_laws = (digits_short, digits_more, digits_stop, digits_all, horner, horner_fits)

-- a table of all digits
pub entry : (t : List ℕ) → t ≡ map digit (range_with_len 0 256) → (b : ℕ) → b < 256 → get_or t b 0 ≡ digit b
entry t e b h = ap (λ (t : List ℕ). get_or t b 0) e ∙ get_or-map-range_with_len digit 0 256 b b 0 h (zero-add b)

-- ---- a number of so many digits is below the power
pub no_bad : {A B : Type 0} {a : A} {l : List ℕ} → bad ≡ got a l → B
no_bad e = let z : ◌≡◌ {A = ℕ} 0 1 = cc in absurd (omega arith)

pub digits_lt : (base w v : ℕ) (l : List ℕ) (u : ℕ) (rest : List ℕ) (i : ℕ) → v < base ^ i → read_digits base w v l ≡ got u rest → u < base ^ (i + w)
unfolding read_digits
digits_lt base zero v l u rest i h e = let q : v ≡ u = cc in rw (add-zero, ← q) h
digits_lt base (suc w) v [] u rest i h e = no_bad e
digits_lt base (suc w) v (b ∷ l) u rest i h e = on (ltb (digit b) base) refl e (λ p q. digits_lt base w (v * base + digit b) l u rest (i + 1) p q)
  where
    on : (t : Bool) → ltb (digit b) base ≡ t → cond t (read_digits base w (v * base + digit b) l) bad ≡ got u rest
        → (v * base + digit b < base ^ (i + 1) → read_digits base w (v * base + digit b) l ≡ got u rest → u < base ^ (i + 1 + w)) → u < base ^ (i + suc w)
    on true t q f =
        let k : i + 1 + w ≡ i + suc w = omega arith in
        rw k at (f (horner base i v (digit b) h (ltb-true _ _ t)) q)
    on false t q f = no_bad q

ended_is : (e a v : ℕ) (l rest : List ℕ) → ended e a l ≡ got v rest → a ≡ v
ended_is e a v l rest q = on (next_is e l) q
  where
    on : (t : Bool) → cond t (got a (tail l)) bad ≡ got v rest → a ≡ v
    on true q = cc
    on false q = no_bad q

pub number_lt : (base w e : ℕ) (l : List ℕ) (v : ℕ) (rest : List ℕ) → number_form base w e l ≡ got v rest → v < base ^ w
unfolding number_form
number_lt base w e l v rest q = on (read_digits base w 0 l) refl q
  where
    on : (x : Got ℕ) → read_digits base w 0 l ≡ x → then x (λ u m. ended e u m) ≡ got v rest → v < base ^ w
    on bad p q = no_bad q
    on (got u m) p q =
        let k : u ≡ v = ended_is e u v m rest q in
        rw (← k, ← zero-add w) (digits_lt base w 0 l u m 0 (omega (arith, pow-zero base)) p)
