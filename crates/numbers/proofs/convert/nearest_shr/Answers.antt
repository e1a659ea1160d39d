-- `numbers::convert::nearest_shr` meets its contract: `carried` of `Closest.antt` at half of 2 ^ k.
-- Assumes nothing.
use Rattle.std.proofs.Common.{◌≡◌, ℕ, suc, ◌+◌, ◌-◌, ◌*◌, ◌/◌, ◌%◌, ◌^◌, ◌<◌, ◌≤◌, sym, ap, ◌∙◌, subst, le_trans, mod-lt, zero-lt-suc, mul_comm, mul-le-mul_left, le-div_iff_mul-le, div-mul-le_self, arith, pow_pos, pow_mono}
use native.Mathlib.Nat.{pow-succ'}
use lib.Ieee.Nearest.{closest}
use Rattle.numbers.proofs.Closest.{one_shl, carried}
use Rattle.numbers.proofs.convert.nearest_shr.Goals as goal

-- half of 2 ^ k as the machine has it
abbrev h : goal.Start → ℕ
h c = (1 * 2 ^ (c.args.k - 1)) % 2 ^ 64

is : (c : goal.Start) → h c ≡ 2 ^ (c.args.k - 1)
is c = one_shl (c.args.k - 1) (omega arith)

positive : (c : goal.Start) → 0 < h c
positive c = subst (λ (x : ℕ). 0 < x) (sym (is c)) (pow_pos (c.args.k - 1))

small : (c : goal.Start) → h c ≤ 2 ^ 62
small c = subst (λ (x : ℕ). x ≤ 2 ^ 62) (sym (is c)) (pow_mono (less c.args.k c.requires.1))
  where
    less : (k : ℕ) → k < 64 → k - 1 ≤ 62
    less k h = omega arith

twice : (c : goal.Start) → 2 ^ c.args.k ≡ 2 * h c
twice c = ap (λ (x : ℕ). 2 ^ x) (next c.args.k c.requires.0) ∙ pow-succ' 2 (c.args.k - 1) ∙ ap (λ (x : ℕ). 2 * x) (sym (is c))
  where
    next : (k : ℕ) → 0 < k → k ≡ suc (k - 1)
    next k h = omega arith

rest : (c : goal.Start) → c.args.n % (h c * 2) < h c * 2
rest c = mod-lt c.args.n (double (h c) (positive c))
  where
    double : (h : ℕ) → 0 < h → 0 < h * 2
    double h p = omega arith

returned : (c : goal.Start) → c.args.n / 2 ^ c.args.k + (c.args.n % (h c * 2) + (h c - 1) + c.args.n / 2 ^ c.args.k % 2) / 2 ^ c.args.k ≡ closest c.args.n (2 ^ c.args.k)
returned c =
    let n = c.args.n in
    subst (λ (v : ℕ). n / v + (n % (h c * 2) + (h c - 1) + n / v % 2) / v ≡ closest n v) (sym (twice c))
    (ap (λ (w : ℕ). n / (2 * h c) + (n % w + (h c - 1) + n / (2 * h c) % 2) / (2 * h c)) (mul_comm (h c) 2) ∙ carried n (h c) (positive c))

-- two quotients of words by 2 or more make a word
quotient_half : (x v : ℕ) → 2 ≤ v → x / v ≤ x / 2
quotient_half x v h = (le-div_iff_mul-le {k = 2} {x = x / v} {y = x} (zero-lt-suc 1)).1 (le_trans (mul-le-mul_left (x / v) h) (div-mul-le_self x v))

both_fit : (x y v : ℕ) → 2 ≤ v → x < 2 ^ 64 → y < 2 ^ 64 → x / v + y / v < 2 ^ 64
both_fit x y v h p q = omega (arith, quotient_half x v h, quotient_half y v h)

two : (c : goal.Start) → 2 ≤ 2 ^ c.args.k
two c = pow_mono {i = 1} {j = c.args.k} c.requires.0

pub overflow_mul-r : goal.overflow_mul-r
overflow_mul-r c = omega (arith, small c)

pub nonzero_rem-r : goal.nonzero_rem-r
nonzero_rem-r c = omega (arith, positive c)

pub overflow_sub-result : goal.overflow_sub-result
overflow_sub-result c = positive c

pub overflow_add-result : goal.overflow_add-result
overflow_add-result c = omega (arith, small c, rest c)

pub overflow_add-result-2 : goal.overflow_add-result-2
overflow_add-result-2 c = omega (arith, small c, rest c)

pub overflow_add-result-3 : goal.overflow_add-result-3
overflow_add-result-3 c = record { fits = both_fit _ _ _ (two c) c.ranges.n.fits (overflow_add-result-2 c).fits }

pub returns : goal.returns
returns c = returned c
