-- `numbers::convert::narrow_bits` meets its contract. The three fields of b are those that `of_bits` reads, and `Narrowing.antt` has the result's pattern for each of the code's four cases.
-- Assumes nothing.
use Rattle.std.proofs.Common.{◌≡◌, ℕ, ◌+◌, ◌-◌, ◌*◌, ◌/◌, ◌^◌, ◌<◌, ◌≤◌, Bool, true, false, cond, not, T, sym, refl, ap, ◌∙◌, subst, le_trans, le_of_eq, lt_of_lt_of_le, le-add_right, mod-lt, zero-lt-suc, arith, pow_pos, pow_mono, pow-add}
use lib.Ieee.{Float, binary32, binary64, of_fields, of_bits, to_bits, is_nan}
use lib.Ieee.Nearest.{closest}
use Rattle.numbers.specs.Narrow.{narrow}
use Rattle.numbers.proofs.Closest.{closest_le}
use Rattle.numbers.proofs.Narrowing.{bit, sign, s, e, t, read, t_lt, huge, medium, little, tiny}
use Rattle.numbers.proofs.convert.narrow_bits.Goals as goal

sign_is : (b : ℕ) → b < 2 ^ 64 → b / 2 ^ 63 * 2147483648 ≡ sign (s b)
sign_is b h = ap (λ (x : ℕ). x * 2147483648) (bit b h) ∙ go (s b)
  where
    go : (a : Bool) → cond a 1 0 * 2147483648 ≡ cond a (2 ^ 31) 0
    go true = refl
    go false = refl

-- what `nearest_shr` gives is small
kept : (b d r : ℕ) → r ≡ closest (2 ^ 52 + t b) (2 ^ d) → r ≤ 2 ^ 53
kept b d r h =
    subst (λ (x : ℕ). x ≤ 2 ^ 53) (sym h)
    (closest_le (2 ^ 52 + t b) (2 ^ d) (2 ^ 53) (pow_pos d) (lt_of_lt_of_le (go (t b) (t_lt b)) (le_trans (pow_mono (le-add_right 53 d)) (le_of_eq (pow-add 2 53 d)))))
  where
    go : (n : ℕ) → n < 4503599627370496 → 4503599627370496 + n < 9007199254740992
    go n h = omega arith

-- a result from the fields
by : (b r : ℕ) → b < 2 ^ 64 → sign (s b) + r ≡ to_bits binary32 (narrow (of_fields binary64 (s b) (e b) (t b))) → b / 2 ^ 63 * 2147483648 + r ≡ to_bits binary32 (narrow (of_bits binary64 b))
by b r h k = ap (λ (x : ℕ). x + r) (sign_is b h) ∙ k ∙ ap (λ (x : Float). to_bits binary32 (narrow x)) (read b)

pub returns-then-e-lt-FLUSHED_BELOW : goal.returns-then-e-lt-FLUSHED_BELOW
returns-then-e-lt-FLUSHED_BELOW c =
    let b = c.args.b in
    sign_is b c.ranges.b.fits ∙ tiny (s b) (t b) (t_lt b) (e b) c.if-e-lt-FLUSHED_BELOW.true ∙ ap (λ (x : Float). to_bits binary32 (narrow x)) (read b)

pub overflow_add-result : goal.overflow_add-result
overflow_add-result c =
    let args = c.args in
    omega (arith, kept args.b _ c.nearest_shr.result c.nearest_shr.ensures)

pub returns-then-e-lt897 : goal.returns-then-e-lt897
returns-then-e-lt897 c =
    let args = c.args in
    let if1 = c.if-e-lt-FLUSHED_BELOW in
    let b = args.b in
    ap (λ (x : ℕ). b / 2 ^ 63 * 2147483648 + x) c.nearest_shr.ensures
    ∙ by b (closest (2 ^ 52 + t b) (2 ^ (926 - e b))) c.ranges.b.fits (little (s b) (t b) (t_lt b) (e b) if1.false c.if-e-lt897.true)

pub overflow_add-result-then-e-lt-INFINITE_FROM : goal.overflow_add-result-then-e-lt-INFINITE_FROM
overflow_add-result-then-e-lt-INFINITE_FROM c =
    let args = c.args in
    omega (arith, kept args.b 29 c.nearest_shr-then-e-lt-INFINITE_FROM.result c.nearest_shr-then-e-lt-INFINITE_FROM.ensures)

pub overflow_add-result-then-e-lt-INFINITE_FROM-2 : goal.overflow_add-result-then-e-lt-INFINITE_FROM-2
overflow_add-result-then-e-lt-INFINITE_FROM-2 c =
    let args = c.args in
    omega (arith, kept args.b 29 c.nearest_shr-then-e-lt-INFINITE_FROM.result c.nearest_shr-then-e-lt-INFINITE_FROM.ensures)

pub returns-then-e-lt-INFINITE_FROM : goal.returns-then-e-lt-INFINITE_FROM
returns-then-e-lt-INFINITE_FROM c =
    let args = c.args in
    let if2 = c.if-e-lt897 in
    let b = args.b in
    ap (λ (x : ℕ). b / 2 ^ 63 * 2147483648 + ((e b - 897) * 8388608 + x)) c.nearest_shr-then-e-lt-INFINITE_FROM.ensures
    ∙ by b ((e b - 897) * 2 ^ 23 + closest (2 ^ 52 + t b) (2 ^ 29)) c.ranges.b.fits (medium (s b) (t b) (t_lt b) (e b) if2.false c.if-e-lt-INFINITE_FROM.true)

pub returns : goal.returns
returns c =
    let b = c.args.b in
    by b 2139095040 c.ranges.b.fits
    (huge (s b) (t b) (t_lt b) (e b) c.if-e-lt-INFINITE_FROM.false (mod-lt (b / 2 ^ 52) (zero-lt-suc 2047)) (subst (λ (x : Float). T (not (is_nan x))) (sym (read b)) c.requires))
