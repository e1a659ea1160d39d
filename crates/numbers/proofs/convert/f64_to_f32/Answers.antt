-- `numbers::convert::f64_to_f32` meets its contract. Between the two bounds the pattern is rounded where it stands (`plain` of `Narrowing.antt`); a NaN gives
-- 0.0 / 0.0; any other value is read back from the pattern that `narrow_bits` gives.
-- Assumes nothing.
use Rattle.std.proofs.Common.{◌≡◌, ℕ, ◌+◌, ◌-◌, ◌*◌, ◌/◌, ◌%◌, ◌^◌, ◌<◌, ◌≤◌, Bool, true, false, cond, not, T, ltb, sym, refl, ap, ◌∙◌, subst, arith, ltb-false}
use lib.Ieee.{Float, nan, binary32, binary64, lt, fits, is_nan, nan_bits, of_bits, to_bits}
use lib.Ieee.Bits.{of_bits-to_bits, of_bits-fits}
use lib.Ieee.Compare.{differs_from_itself}
use Rattle.numbers.specs.Narrow.{narrow}
use Rattle.numbers.specs.Order.{order_key}
use Rattle.numbers.proofs.Tests.{yes, no, equals_itself}
use Rattle.numbers.proofs.BitLaws.{zero_by_zero, number_read}
use Rattle.numbers.proofs.Compare.{lt_left, lt_key}
use Rattle.numbers.proofs.Narrowing.{narrow_fits, narrow_number, plain}
use Rattle.numbers.proofs.Rounded.{bits_lt, bits_back, bits_no_nan}
use Rattle.numbers.proofs.convert.f64_to_f32.Goals as goal

-- ---- from the pattern n of `narrow x` back to it
module _ (x : Float) (n : ℕ) (number : T (not (is_nan x))) (is : n ≡ to_bits binary32 (narrow x)) where
  narrow_lt : n < 2 ^ 32
  narrow_lt = bits_lt binary32 (narrow x) n (narrow_fits x) (narrow_number x number) is

  narrow_no_nan : T (not (nan_bits binary32 n))
  narrow_no_nan = bits_no_nan binary32 (narrow x) n (narrow_fits x) (narrow_number x number) is

  narrow_back : of_bits binary32 n ≡ narrow x
  narrow_back = bits_back binary32 (narrow x) n (narrow_fits x) (narrow_number x number) is

-- ---- between the bounds
abbrev lo : Float
lo = of_bits binary64 0x3810_0000_0000_0000

abbrev hi : Float
hi = of_bits binary64 0x47F0_0000_0000_0000

key_lo : order_key lo ≡ 0xB810_0000_0000_0000
unfolding order_key to_bits of_bits
key_lo = refl

key_hi : order_key hi ≡ 0xC7F0_0000_0000_0000
unfolding order_key to_bits of_bits
key_hi = refl

key_is : (x : Float) → order_key x ≡ cond (ltb (to_bits binary64 x) 0x8000_0000_0000_0000) (to_bits binary64 x + 0x8000_0000_0000_0000) (0xFFFF_FFFF_FFFF_FFFF - to_bits binary64 x)
unfolding order_key
key_is x = refl

between : (x : Float) → T (fits binary64 x) → lt lo x ≡ true → lt x hi ≡ true → (897 * 2 ^ 52 ≤ to_bits binary64 x) × (to_bits binary64 x < 1151 * 2 ^ 52)
between x F p q =
    go (order_key x) (to_bits binary64 x) (ltb (to_bits binary64 x) 0x8000_0000_0000_0000) refl (key_is x) (rw key_lo at (lt_key lo x (of_bits-fits binary64 _) F p))
    (rw key_hi at (lt_key x hi F (of_bits-fits binary64 _) q))
  where
    go : (k b : ℕ) (t : Bool) → ltb b 0x8000_0000_0000_0000 ≡ t → k ≡ cond t (b + 0x8000_0000_0000_0000) (0xFFFF_FFFF_FFFF_FFFF - b) → 0xB810_0000_0000_0000 < k
        → k < 0xC7F0_0000_0000_0000 → (4039728865751334912 ≤ b) × (b < 5183643171103440896)
    go k b true e h l r = (omega arith, omega arith)
    go k b false e h l r = absurd (omega (arith, ltb-false b 0x8000_0000_0000_0000 e))

-- ---- a NaN stays
narrow_nan : nan ≡ narrow nan
unfolding narrow
narrow_nan = refl

back : (x : Float) → T (fits binary64 x) → of_bits binary64 (to_bits binary64 x) ≡ x
back x F = of_bits-to_bits binary64 x F

module _ (c : goal.Then-x-2) where
  abbrev x : Float
  x = c.args.x

  abbrev b : ℕ
  b = to_bits binary64 x

  held : T (fits binary64 x)
  held = yes c.well_formed.0.1

  inside : (897 * 2 ^ 52 ≤ b) × (b < 1151 * 2 ^ 52)
  inside = between x held c.if-x.true c.if-x-2.true

  number : T (not (is_nan x))
  number = no (lt_left x hi c.if-x-2.true)

  rounded : (b + 268435455 + b / 536870912 % 2) / 536870912 - 7516192768 ≡ to_bits binary32 (narrow x)
  rounded = plain b inside.0 inside.1 ∙ ap (λ (v : Float). to_bits binary32 (narrow v)) (back x held)

-- up to the infinity's pattern there is no NaN
no_nan : (n : ℕ) → n ≤ 2139095040 → T (not (nan_bits binary32 n))
no_nan n h = let m : n % 2147483648 ≤ 2139095040 = omega arith in number_read binary32 n m

-- ---- the general way
module _ (c : goal.Else-x-3) where
  abbrev v : Float
  v = c.args.x

  v_number : T (not (is_nan v))
  v_number = equals_itself v c.if-x-3.false

  v_back : of_bits binary64 (to_bits binary64 v) ≡ v
  v_back = back v (yes c.well_formed.0.1)

is : (c : goal.After-narrow_bits) → c.narrow_bits.result ≡ to_bits binary32 (narrow (v c.before))
is c = c.narrow_bits.ensures ∙ ap (λ (x : Float). to_bits binary32 (narrow x)) (v_back c.before)

pub float_to_bits-b : goal.float_to_bits-b
float_to_bits-b c = number c

pub overflow_add-result : goal.overflow_add-result
overflow_add-result c = omega (arith, (inside c).1)

pub overflow_add-result-then-x-2 : goal.overflow_add-result-then-x-2
overflow_add-result-then-x-2 c = omega (arith, (inside c).1)

pub overflow_sub-result : goal.overflow_sub-result
overflow_sub-result c = omega (arith, (inside c).0)

pub overflow_cast-result : goal.overflow_cast-result
overflow_cast-result c = omega (arith, (inside c).1)

pub float_from_bits-result : goal.float_from_bits-result
float_from_bits-result c = no_nan _ (omega (arith, (inside c).1))

pub returns-then-x-2 : goal.returns-then-x-2
returns-then-x-2 c = narrow_back (x c) _ (number c) (rounded c)

pub returns-then-x-3 : goal.returns-then-x-3
returns-then-x-3 c =
    let args = c.args in
    zero_by_zero binary32 ∙ narrow_nan ∙ ap narrow (sym (differs_from_itself args.x (yes c.if-x-3.true)))

pub float_to_bits-x : goal.float_to_bits-x
float_to_bits-x c = v_number c

pub narrow_bits-requires : goal.narrow_bits-requires
narrow_bits-requires c = subst (λ (x : Float). T (not (is_nan x))) (sym (v_back c)) (v_number c)

pub overflow_cast-result-2 : goal.overflow_cast-result-2
overflow_cast-result-2 c = record { fits = narrow_lt (v c.before) _ (v_number c.before) (is c) }

pub float_from_bits-result-2 : goal.float_from_bits-result-2
float_from_bits-result-2 c = narrow_no_nan (v c.before) _ (v_number c.before) (is c)

pub returns : goal.returns
returns c = narrow_back (v c.before) _ (v_number c.before) (is c)
