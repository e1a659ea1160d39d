-- Squares of whole numbers, and the square root cut to a whole number. Assumes nothing.
use Rattle.std.proofs.Common.{◌≡◌, ℕ, zero, suc, ◌+◌, ◌*◌, ◌/◌, ◌^◌, ◌<◌, ◌≤◌, Bool, true, false, cond, not, T, leb, sym, refl, ap, ◌∙◌, subst, le_trans, le_of_eq, lt_of_lt_of_le, mul_assoc, mul_comm, div-lt_iff_lt-mul, add-mul, mul-le-mul, one-mul, lt_of_not-le, mul-one, mul-add, not-le_of_lt, mul_left_comm, arith, leb→le}
use native.Mathlib.Nat.{pow-succ'}
use lib.Dec.{nleb→lt}
use lib.Ieee.{size}
use lib.Ieee.Digits.{size-lt}
use Rattle.numbers.specs.Root.{root_in, root}

-- of two squares, the smaller has the smaller root
pub root_lt : (a b : ℕ) → a * a < b * b → a < b
root_lt a b h = lt_of_not-le (λ (g : b ≤ a). not-le_of_lt h (mul-le-mul g g))

-- r is the root of n, cut
abbrev pub Cut : ℕ → ℕ → Type 0
Cut n r = (r * r ≤ n) × (n < (r + 1) * (r + 1))

-- (x + 1) * (x + 1), written out
pub square_next : (x : ℕ) → (x + 1) * (x + 1) ≡ x * x + 2 * x + 1
square_next x = mul-add (x + 1) x 1 ∙ ap (λ (y : ℕ). y + (x + 1) * 1) (add-mul x 1 x) ∙ go (x * x) x (1 * x) ((x + 1) * 1) (one-mul x) (mul-one (x + 1))
  where
    go : (s x a b : ℕ) → a ≡ x → b ≡ x + 1 → s + a + b ≡ s + 2 * x + 1
    go s x a b p q = omega arith

pub square_twice : (x : ℕ) → 2 * x * (2 * x) ≡ 4 * (x * x)
square_twice x = mul_assoc 2 x (2 * x) ∙ ap (λ (y : ℕ). 2 * y) (mul_left_comm x 2 x) ∙ go (x * x)
  where
    go : (s : ℕ) → 2 * (2 * s) ≡ 4 * s
    go s = omega arith

-- ---- `root_in`
step : (n s : ℕ) → Cut (n / 4) s → Cut n (cond (leb ((2 * s + 1) * (2 * s + 1)) n) (2 * s + 1) (2 * s))
step n s h = go (leb ((2 * s + 1) * (2 * s + 1)) n) (leb→le ((2 * s + 1) * (2 * s + 1)) n) (nleb→lt ((2 * s + 1) * (2 * s + 1)) n)
  where
    low : (n s q : ℕ) → q ≡ 4 * s → s ≤ n / 4 → q ≤ n
    low n s q e h = omega arith

    -- s ^ 2 as a, (s + 1) ^ 2 as b, (2 * s + 2) ^ 2 as c
    high : (n s a b c t : ℕ) → b ≡ a + 2 * s + 1 → t ≡ 4 * a → c ≡ t + 2 * (2 * s) + 1 + 2 * (2 * s + 1) + 1 → n / 4 < b → n < c
    high n s a b c t p q r h = omega arith

    go : (b : Bool) → (T b → (2 * s + 1) * (2 * s + 1) ≤ n) → (T (not b) → n < (2 * s + 1) * (2 * s + 1)) → Cut n (cond b (2 * s + 1) (2 * s))
    go true p q = (
      p tt,
      high n s (s * s) ((s + 1) * (s + 1)) ((2 * s + 1 + 1) * (2 * s + 1 + 1)) (2 * s * (2 * s)) (square_next s) (square_twice s)
          (square_next (2 * s + 1) ∙ ap (λ (x : ℕ). x + 2 * (2 * s + 1) + 1) (square_next (2 * s))) h.1,
    )
    go false p q = (low n (s * s) (2 * s * (2 * s)) (square_twice s) h.0, q tt)

root_in-cut : (k n : ℕ) → n < 4 ^ k → Cut n (root_in k n)
unfolding root_in
root_in-cut zero n h = none n h
  where
    none : (n : ℕ) → n < 1 → (0 ≤ n) × (n < 1)
    none n h = omega arith
root_in-cut (suc k) n h = step n (root_in k (n / 4)) (root_in-cut k (n / 4) ((div-lt_iff_lt-mul (omega arith)).1 (subst (λ (x : ℕ). n < x) (pow-succ' 4 k ∙ mul_comm 4 (4 ^ k)) h)))

two_le_four : (k : ℕ) → 2 ^ k ≤ 4 ^ k
two_le_four zero = le_of_eq refl
two_le_four (suc k) = le_trans (le_of_eq (pow-succ' 2 k)) (le_trans (go (2 ^ k) (4 ^ k) (two_le_four k)) (le_of_eq (sym (pow-succ' 4 k))))
  where
    go : (a b : ℕ) → a ≤ b → 2 * a ≤ 4 * b
    go a b h = omega arith

pub root_cut : (n : ℕ) → Cut n (root n)
unfolding root
root_cut n = root_in-cut (size n) n (lt_of_lt_of_le (size-lt n) (two_le_four (size n)))
