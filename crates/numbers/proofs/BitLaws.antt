-- Bit patterns, at any format: which are a NaN's, which a finite number's, and that a pattern tells two values apart. Assumes nothing.
use Rattle.std.proofs.Common.{◌≡◌, ℕ, zero, suc, ◌+◌, ◌*◌, ◌/◌, ◌%◌, ◌<◌, ◌≤◌, Bool, true, false, cond, not, T, eqb, leb, pos, sym, refl, ap, ◌∙◌, subst, arith, le-ltb, lt-ltb, eq-eqb, ne_eqb, eqb-true}
use lib.Ieee.{Float, Format, nan, inf, fin, binary32, binary64, of_bits, of_fields, to_bits, is_nan, nan_bits, odd, prec, low, hid, ones, top, fits, ne, div}
use lib.Ieee.Bits.{of_bits-to_bits, to_bits-of_bits, nan_bits_is, nan_bits_above}
use lib.Ieee.Compare.{differs_from_itself}
use Rattle.numbers.specs.Bounds.{finite}
use Rattle.numbers.proofs.Tests.{yes, no, nan_test}
use Rattle.numbers.proofs.Compare.{finite_number}

-- ---- the NaN's patterns

-- there is one NaN
pub nan_is : (x : Float) → is_nan x ≡ true → x ≡ nan
nan_is x h = differs_from_itself x (yes (sym (nan_test x) ∙ h))

pub zero_by_zero : (f : Format) → div f (of_bits f 0) (of_bits f 0) ≡ nan
unfolding div of_bits
zero_by_zero binary32 = refl
zero_by_zero binary64 = refl

-- writing: what differs from itself is the NaN
pub nan_bits_lem : (f : Format) (x : Float) → ne x x ≡ true → to_bits f nan ≡ to_bits f x
nan_bits_lem f x h = ap (to_bits f) (sym (differs_from_itself x (yes h)))

-- reading: above the patterns of the infinities there are only NaNs
pub nan_read : (f : Format) (n : ℕ) → ones f * hid f < n % top f → div f (of_bits f 0) (of_bits f 0) ≡ of_bits f n
nan_read f n h = zero_by_zero f ∙ sym (nan_is (of_bits f n) (sym (nan_bits_is f n) ∙ nan_bits_above f n ∙ lt-ltb (ones f * hid f) (n % top f) h))

-- and up to them there is none
pub number_read : (f : Format) (n : ℕ) → n % top f ≤ ones f * hid f → T (not (nan_bits f n))
number_read f n h = no (nan_bits_above f n ∙ le-ltb (ones f * hid f) (n % top f) h)

-- ---- the finite numbers' patterns: the exponent is not the largest

odd_finite : (d : ℕ) (s : Bool) (q k l : ℕ) → finite (odd d s q k l) ≡ true
unfolding odd finite
odd_finite d s zero k l = refl
odd_finite d s (suc q) k l = refl

fields : (a b : Bool) (s : Bool) (v : Float) → finite v ≡ true → finite (cond a (cond b (inf s) nan) v) ≡ not a
unfolding finite
fields true true s v h = refl
fields true false s v h = refl
fields false b s v h = h

fields_finite : (f : Format) (s : Bool) (x t : ℕ) → finite (of_fields f s x t) ≡ not (eqb x (ones f))
unfolding of_fields
fields_finite f s zero t = odd_finite (prec f) s t 0 (low f) ∙ sym (ap not (ne_eqb 0 (ones f) (λ e. omega arith)))
fields_finite f s (suc x) t = fields (eqb (suc x) (ones f)) (eqb t 0) s (odd (prec f) s (hid f + t) x (low f)) (odd_finite (prec f) s (hid f + t) x (low f))

pub finite-bits : (f : Format) (n : ℕ) → finite (of_bits f n) ≡ not (eqb (n % top f / hid f) (ones f))
unfolding of_bits
finite-bits f n = fields_finite f (leb (top f) n) (n % top f / hid f) (n % hid f)

pub finite_no_nan : (f : Format) (n : ℕ) → finite (of_bits f n) ≡ true → T (not (nan_bits f n))
finite_no_nan f n h = no (nan_bits_is f n ∙ finite_number (of_bits f n) h)

-- ---- a pattern and its value

-- the pattern 0 is 0.0's
pub zero_bits : (f : Format) → of_bits f 0 ≡ fin false 0 (pos 0)
unfolding of_bits
zero_bits binary32 = refl
zero_bits binary64 = refl

-- what reads as a finite number was written so
pub pattern_back : (f : Format) (n : ℕ) → n < 2 * top f → finite (of_bits f n) ≡ true → to_bits f (of_bits f n) ≡ n
pattern_back f n h k = to_bits-of_bits f n h (subst (λ (t : Bool). T (not t)) (nan_bits_is f n) (finite_no_nan f n k))

-- two values are the same exactly where their patterns are
pub same_bits_lem : (f : Format) (x y : Float) → T (fits f x) → T (fits f y) → (eqb (to_bits f x) (to_bits f y) ≡ true → x ≡ y) × (x ≡ y → eqb (to_bits f x) (to_bits f y) ≡ true)
same_bits_lem f x y F G = (
  (λ h. sym (of_bits-to_bits f x F) ∙ ap (of_bits f) (eqb-true _ _ h) ∙ of_bits-to_bits f y G),
  (λ e. eq-eqb _ _ (ap (to_bits f) e)),
)
