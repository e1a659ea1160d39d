-- `numbers::convert::u64_to_f32` meets its contract. Up to 2 ^ 24 the cast is exact. Above, `Rounded.antt` has the pattern of n rounded, at a width of 64 digits.
-- Assumes nothing.
use Rattle.std.proofs.Common.{◌≡◌, ℕ, suc, ◌+◌, ◌-◌, ◌*◌, ◌%◌, ◌^◌, ◌<◌, ◌≤◌, false, not, T, pos, sym, ap, ◌∙◌, subst, zero-le, le_trans, le_of_eq, lt_of_lt_of_le, lt_of_le_of_lt, le_of_lt, mul-le-mul_right, mod-eq_of_lt, zero-lt-suc, add_comm, mul-le-mul_left, zero-add, mul-one, arith, lit≤, le→leb, pow_pos, pow-add, shl_lt}
use native.Mathlib.Nat.{pow-succ'}
use lib.Count.{count_leading_zeros, leading_top}
use lib.Ieee.{Float, binary32, round, of_int, to_bits, in_float, is_nan, fits}
use lib.Ieee.Fits.{of_int-fits}
use lib.Ieee.Scale.{round_same}
use lib.Ieee.Nearest.{closest}
use Rattle.numbers.proofs.Rounded.{pow_lt_back, round_bits, round_no_nan, bits_lt, bits_back, bits_no_nan}
use Rattle.numbers.proofs.convert.u64_to_f32.Goals as goal

abbrev zeros : ℕ → ℕ
zeros n = count_leading_zeros 64 n

-- n with its digits moved to the top of the word: all 64 are in use
record Topped (n : ℕ) : Type 0 where
  few : zeros n < 40
  is : (n * 2 ^ zeros n) % 2 ^ 64 ≡ n * 2 ^ zeros n
  under : n * 2 ^ zeros n < 2 ^ 64
  reaches : 2 ^ 64 ≤ 2 * (n * 2 ^ zeros n)

topped : (n : ℕ) → 2 ^ 24 < n → n < 2 ^ 64 → Topped n
topped n lo hi =
    let z = zeros n in
    let t = leading_top 64 n (lt_of_le_of_lt zero-le lo) hi in
    let j = t.0 in
    let below : n * 2 ^ z < 2 ^ 64 = subst (λ (x : ℕ). n * 2 ^ z < 2 ^ x) (add_comm (suc j) z ∙ t.1) (shl_lt (suc j) z t.3) in
    record {
      few = less z j t.1 (pow_lt_back 24 (suc j) (lt_of_lt_of_le lo (le_of_lt t.3)));
      is = mod-eq_of_lt below;
      under = below;
      reaches = subst (λ (x : ℕ). 2 ^ x ≤ 2 * (n * 2 ^ z)) (next z j t.1)
          (le_trans (le_of_eq (pow-succ' 2 (j + z) ∙ ap (λ (x : ℕ). 2 * x) (pow-add 2 j z))) (mul-le-mul_left 2 (mul-le-mul_right (2 ^ z) t.2)));
    }
  where
    less : (z j : ℕ) → z + suc j ≡ 64 → 24 < suc j → z < 40
    less z j e h = omega arith

    next : (z j : ℕ) → z + suc j ≡ 64 → suc (j + z) ≡ 64
    next z j e = omega arith

-- n is that, divided by 2 ^ z
of_int_is : (n z : ℕ) → of_int binary32 (pos n) ≡ round binary32 false (n * 2 ^ z * 2 ^ 0) (2 ^ z)
unfolding of_int
of_int_is n z = round_same binary32 false n 1 (n * 2 ^ z * 2 ^ 0) (2 ^ z) (zero-lt-suc 0) (pow_pos z) (sym (mul-one (n * 2 ^ z * 2 ^ 0) ∙ mul-one (n * 2 ^ z)))

pattern : (n : ℕ) → Topped n → (189 - zeros n) * 8388608 + closest (n * 2 ^ zeros n) (2 ^ 40) ≡ to_bits binary32 (of_int binary32 (pos n))
pattern n t =
    let z = zeros n in
    sym (ap (to_bits binary32) (of_int_is n z)
    ∙ round_bits binary32 false 64 (n * 2 ^ z) 0 z 40 (189 - z) t.under (dropped z) (λ g. t.reaches) (kept z t.few) (room z)
    ∙ zero-add ((189 - z) * 8388608 + closest (n * 2 ^ z) (2 ^ 40)))
  where
    dropped : (z : ℕ) → 189 - z ≡ 64 + (0 + 149) - (z + 24)
    dropped z = omega arith

    kept : (z : ℕ) → z < 40 → 40 + (0 + 149) ≡ z + (189 - z)
    kept z h = omega arith

    room : (z : ℕ) → suc (189 - z) < 255
    room z = omega arith

-- what the callee returns there
abbrev n : goal.Else-n-le16777216 → ℕ
n c = c.args.n

at : (c : goal.Else-n-le16777216) → Topped (n c)
at c = topped (n c) c.if-n-le16777216.false c.ranges.n.fits

bits : (c : goal.After-nearest_shr-q) → (189 - zeros (n c.before)) * 8388608 + c.nearest_shr-q.result ≡ to_bits binary32 (of_int binary32 (pos (n c.before)))
bits c =
    let z = zeros (n c.before) in
    ap (λ (x : ℕ). (189 - z) * 8388608 + x) (c.nearest_shr-q.ensures ∙ ap (λ (x : ℕ). closest x (2 ^ 40)) (at c.before).is) ∙ pattern (n c.before) (at c.before)

module _ (c : goal.After-nearest_shr-q) where
  abbrev is : Float
  is = of_int binary32 (pos (n c.before))

  abbrev is_fits : T (fits binary32 is)
  is_fits = of_int-fits binary32 (pos (n c.before))

  is_number : T (not (is_nan is))
  is_number = subst (λ (v : Float). T (not (is_nan v))) (sym (of_int_is (n c.before) 0)) (round_no_nan binary32 false (n c.before * 2 ^ 0 * 2 ^ 0) (2 ^ 0))

pub int_to_float-result : goal.int_to_float-result
unfolding in_float
int_to_float-result c = le→leb c.args.n (2 ^ 24) c.if-n-le16777216.true

pub overflow_cast-z : goal.overflow_cast-z
overflow_cast-z c = omega (arith, (at c).few)

pub overflow_shl-n : goal.overflow_shl-n
overflow_shl-n c = omega (arith, (at c).few)

pub overflow_sub-result : goal.overflow_sub-result
overflow_sub-result c = omega (arith, (at c.before).few)

pub overflow_add-result : goal.overflow_add-result
overflow_add-result c = record { fits = lt_of_lt_of_le (bits_lt binary32 (is c) _ (is_fits c) (is_number c) (bits c)) (lit≤ tt) }

pub overflow_cast-result : goal.overflow_cast-result
overflow_cast-result c = record { fits = bits_lt binary32 (is c) _ (is_fits c) (is_number c) (bits c) }

pub float_from_bits-result : goal.float_from_bits-result
float_from_bits-result c = bits_no_nan binary32 (is c) _ (is_fits c) (is_number c) (bits c)

pub returns : goal.returns
returns c = bits_back binary32 (is c) _ (is_fits c) (is_number c) (bits c)
