-- What follows of the curves' numbers and controls. Assumes nothing.
use Prim.Native.Nat.{ℕ, zero, suc, ◌<◌}
use mathlib.Core.Path.{◌≡◌, refl, sym, ap, ◌∙◌}
use mathlib.Core.Bool.{Bool, true, false, not, cond, ◌&&◌, ◌||◌}
use lib.Dec.{T, eqb, ltb, eqb→eq}
use lib.Ieee.{Float}
use borrow.Author.Tests.{ltb-true, eqb-true, eqb-false, ne_eqb}
use native.Mathlib.Omega.{arith}
use lib.Ieee.Fits.{and_l, and_r}
use lib.Ieee.Bits.{is_true}
use Rattle.curve.specs.Curve.{code, is_linear, controls, no_controls, curve_of, known}
use Rattle.curve.specs.declared.CurveType.{CurveType}
use Rattle.curve.specs.declared.CurveType.TheVariants.{Linear, Exponential, Logarithmic, SCurve, Stepped, Bezier, Bounce, Back, Circular, QuadIn, QuadOut, QuadInOut, CubicIn, CubicOut}
use Rattle.curve.specs.declared.CurveType.TheVariants.{CubicInOut, QuartIn, QuartOut, QuartInOut, QuintIn, QuintOut, QuintInOut}

-- what each case shows by computing
record Numbered (c : CurveType) : Type 0 where
  back : curve_of (code c) (controls c).cp1 (controls c).cp2 ≡ c
  is_known : known (code c) ≡ true
  below : ltb (code c) 22 ≡ true
  uncontrolled : cond (eqb (code c) 5) (controls c) no_controls ≡ controls c

numbered : (c : CurveType) → Numbered c
unfolding code controls curve_of
numbered Linear = record { back = refl; is_known = refl; below = refl; uncontrolled = refl }
numbered Exponential = record { back = refl; is_known = refl; below = refl; uncontrolled = refl }
numbered Logarithmic = record { back = refl; is_known = refl; below = refl; uncontrolled = refl }
numbered SCurve = record { back = refl; is_known = refl; below = refl; uncontrolled = refl }
numbered Stepped = record { back = refl; is_known = refl; below = refl; uncontrolled = refl }
numbered (Bezier cp1 cp2) = record { back = refl; is_known = refl; below = refl; uncontrolled = refl }
numbered Bounce = record { back = refl; is_known = refl; below = refl; uncontrolled = refl }
numbered Back = record { back = refl; is_known = refl; below = refl; uncontrolled = refl }
numbered Circular = record { back = refl; is_known = refl; below = refl; uncontrolled = refl }
numbered QuadIn = record { back = refl; is_known = refl; below = refl; uncontrolled = refl }
numbered QuadOut = record { back = refl; is_known = refl; below = refl; uncontrolled = refl }
numbered QuadInOut = record { back = refl; is_known = refl; below = refl; uncontrolled = refl }
numbered CubicIn = record { back = refl; is_known = refl; below = refl; uncontrolled = refl }
numbered CubicOut = record { back = refl; is_known = refl; below = refl; uncontrolled = refl }
numbered CubicInOut = record { back = refl; is_known = refl; below = refl; uncontrolled = refl }
numbered QuartIn = record { back = refl; is_known = refl; below = refl; uncontrolled = refl }
numbered QuartOut = record { back = refl; is_known = refl; below = refl; uncontrolled = refl }
numbered QuartInOut = record { back = refl; is_known = refl; below = refl; uncontrolled = refl }
numbered QuintIn = record { back = refl; is_known = refl; below = refl; uncontrolled = refl }
numbered QuintOut = record { back = refl; is_known = refl; below = refl; uncontrolled = refl }
numbered QuintInOut = record { back = refl; is_known = refl; below = refl; uncontrolled = refl }

pub code_lt : (c : CurveType) → code c < 22
code_lt c = ltb-true (code c) 22 (numbered c).below

pub code_known : (c : CurveType) → known (code c) ≡ true
code_known c = (numbered c).is_known

-- a curve is its number and its controls
pub curve_of-code : (c : CurveType) → curve_of (code c) (controls c).cp1 (controls c).cp2 ≡ c
curve_of-code c = (numbered c).back

-- a curve that is not Bezier has no controls, so that its number alone says which it is
pub plain_controls : (c : CurveType) → (code c ≡ 5 → ⊥) → controls c ≡ no_controls
plain_controls c h = sym (rw (ne_eqb (code c) 5 h) at (numbered c).uncontrolled)

pub linear_is : (c : CurveType) → is_linear c ≡ true → c ≡ Linear
unfolding curve_of
linear_is c h = sym (curve_of-code c) ∙ ap (λ n. curve_of n (controls c).cp1 (controls c).cp2) (eqb-true (code c) 0 h)

-- the test p passes at each number below k
abbrev pub passes : (ℕ → Bool) → ℕ → Bool
passes p zero = true
passes p (suc k) = p k && passes p k

pub passes_at : (p : ℕ → Bool) (k n : ℕ) → T (passes p k) → n < k → T (p n)
passes_at p zero n h l = absurd (omega arith)
passes_at p (suc k) n h l = on (eqb n k) refl (passes_at p k n (and_r (p k) (passes p k) h))
  where
    on : (b : Bool) → eqb n k ≡ b → (n < k → T (p n)) → T (p n)
    on true e below = rw (eqb-true n k e) (and_l (p k) (passes p k) h)
    on false e below = below (omega (arith, eqb-false n k e))

-- from a number that is a curve's the same number comes back
abbrev returning : Float → Float → ℕ → Bool
returning cp1 cp2 n = not (known n) || eqb (code (curve_of n cp1 cp2)) n

pub code_curve_of : (n : ℕ) (cp1 cp2 : Float) → known n ≡ true → code (curve_of n cp1 cp2) ≡ n
unfolding code curve_of
code_curve_of n cp1 cp2 k =
    let below : ltb n 22 ≡ true = is_true (ltb n 22) (and_r (not (eqb n 6)) (ltb n 22) (rw k tt)) in
    let back : T (returning cp1 cp2 n) = passes_at (returning cp1 cp2) 22 n tt (ltb-true n 22 below) in
    eqb→eq (code (curve_of n cp1 cp2)) n (rw k at back)
