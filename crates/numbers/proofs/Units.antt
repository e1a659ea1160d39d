-- Laws: a value that a format holds, in units of the format's smallest value, is a whole number. Assumes nothing.
use Rattle.std.proofs.Common.{◌≡◌, ℕ, zero, suc, ◌+◌, ◌-◌, ◌*◌, ◌/◌, ◌%◌, ◌^◌, ◌<◌, ◌≤◌, Bool, ◌&&◌, T, eqb, ltb, leb, ℤ, pos, negsuc, sym, refl, ap, ◌∙◌, subst, le_of_eq, lt_of_lt_of_le, le_of_suc-le-suc, lt_of_le_of_lt, lt_irrefl, mul_assoc, add_comm, lt_of_mul-lt-mul_right, mul-lt-mul_of_pos_right, mul-pos, one-mul, lt_of_not-le, mul-one, mul_right_comm, mul-div_cancel, arith, eqb→eq, ltb→lt, leb→le, pow_pos, pow-add}
use native.Mathlib.Nat.{pow-succ'}
use lib.Pow.{pow-lt}
use lib.Ieee.{fin, Format, prec, emax, low, up, down, fits}
use lib.Ieee.Fits.{and_l, and_r, down_pos}
use lib.Ieee.Scale.{overflow}

-- ---- what `fits` says of a finite value

-- 2 ^ e is 1
pub flat : (e : ℤ) → up e * down e ≡ 1 → e ≡ pos 0
flat (pos zero) h = refl
flat (pos (suc k)) h = absurd (two_up (2 ^ k) (sym (pow-succ' 2 k) ∙ sym (mul-one (2 ^ suc k)) ∙ h))
  where
    two_up : (p : ℕ) → 2 * p ≡ 1 → ⊥
    two_up p e = omega arith
flat (negsuc k) h = absurd (two_up (2 ^ k) (sym (pow-succ' 2 k) ∙ sym (one-mul (2 ^ suc k)) ∙ h))
  where
    two_up : (p : ℕ) → 2 * p ≡ 1 → ⊥
    two_up p e = omega arith

-- at most prec digits, at most low places after the point, and below the infinity
abbrev Held : Format → ℕ → ℤ → Type 0
Held f m e = (m < 2 ^ prec f) × (down e ≤ 2 ^ low f) × (m * up e < 2 ^ suc (emax f) * down e)

pub says : (f : Format) (s : Bool) (m : ℕ) (e : ℤ) → T (fits f (fin s m e)) → (m < 2 ^ prec f) × (down e ≤ 2 ^ low f) × (m * up e < 2 ^ suc (emax f) * down e)
unfolding fits
says f s zero e t = subst (λ (z : ℤ). Held f 0 z) (sym (flat e (eqb→eq (up e * down e) 1 t))) (pow_pos (prec f), pow_pos (low f), mul-pos (pow_pos (suc (emax f))) (omega arith))
says f s (suc m) e t =
    let A = eqb (suc m % 2) 1 in
    let B = ltb (suc m) (2 ^ prec f) in
    let C = leb (down e) (2 ^ low f) in
    let D = ltb (suc m * up e) (2 ^ suc (emax f) * down e) in (
      ltb→lt (suc m) (2 ^ prec f) (and_r A B (and_l (A && B) C (and_l (A && B && C) D t))),
      leb→le (down e) (2 ^ low f) (and_r (A && B) C (and_l (A && B && C) D t)),
      ltb→lt (suc m * up e) (2 ^ suc (emax f) * down e) (and_r (A && B && C) D t),
    )

-- ---- the size in units

pub pow_le_back : (a b : ℕ) → 2 ^ a ≤ 2 ^ b → a ≤ b
pow_le_back a b h = le_of_suc-le-suc (lt_of_not-le (λ (g : suc b ≤ a). lt_irrefl (2 ^ b) (lt_of_lt_of_le (pow-lt g) h)))

-- 2 ^ e is 2 ^ j / 2 ^ l
pub place : (l : ℕ) (e : ℤ) → down e ≤ 2 ^ l → (j : ℕ) × (up e * 2 ^ l ≡ 2 ^ j * down e)
place l (pos a) h = (a + l, sym (pow-add 2 a l) ∙ sym (mul-one (2 ^ (a + l))))
place l (negsuc a) h = (l - suc a, one-mul (2 ^ l) ∙ ap (λ (x : ℕ). 2 ^ x) (sym (back l (suc a) (pow_le_back (suc a) l h))) ∙ pow-add 2 (l - suc a) (suc a))
  where
    back : (l b : ℕ) → b ≤ l → l - b + b ≡ l
    back l b h = omega arith

abbrev pub units_of : Format → ℕ → ℤ → ℕ
units_of f m e = m * up e * 2 ^ low f / down e

-- it is m times a power of two, and nothing is lost
pub units_whole : (f : Format) (m : ℕ) (e : ℤ) → down e ≤ 2 ^ low f → (j : ℕ) × (units_of f m e ≡ m * 2 ^ j) × (m * up e * 2 ^ low f ≡ units_of f m e * down e)
units_whole f m e h =
    let p = place (low f) e h in
    let j = p.0 in
    let at : m * up e * 2 ^ low f ≡ m * 2 ^ j * down e = mul_assoc m (up e) (2 ^ low f) ∙ ap (λ (x : ℕ). m * x) p.1 ∙ sym (mul_assoc m (2 ^ j) (down e)) in
    let is : units_of f m e ≡ m * 2 ^ j = ap (λ (x : ℕ). x / down e) at ∙ mul-div_cancel (m * 2 ^ j) (down_pos e) in
    (j, is, at ∙ ap (λ (x : ℕ). x * down e) (sym is))

pub units_under : (f : Format) (s : Bool) (m : ℕ) (e : ℤ) → T (fits f (fin s m e)) → units_of f m e < overflow f
units_under f s m e F =
    let k = says f s m e F in
    lt_of_mul-lt-mul_right (down e)
    (lt_of_le_of_lt (le_of_eq (sym (units_whole f m e k.1).2))
    (lt_of_lt_of_le (mul-lt-mul_of_pos_right k.2 (pow_pos (low f)))
    (le_of_eq
    (mul_right_comm (2 ^ suc (emax f)) (down e) (2 ^ low f)
    ∙ ap (λ (x : ℕ). x * down e) (sym (pow-add 2 (suc (emax f)) (low f)) ∙ ap (λ (x : ℕ). 2 ^ x) (add_comm (suc (emax f)) (low f)))))))
