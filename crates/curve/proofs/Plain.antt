-- A curve that is not Bezier has no controls. Assumes nothing.
use mathlib.Core.Path.{◌≡◌, refl}
use lib.Ieee.{Float}
use Rattle.curve.specs.declared.CurveType.{CurveType}
use Rattle.curve.specs.declared.CurveType.TheVariants.{Linear, Exponential, Logarithmic, SCurve, Stepped, Bezier, Bounce, Back, Circular, QuadIn, QuadOut, QuadInOut, CubicIn, CubicOut}
use Rattle.curve.specs.declared.CurveType.TheVariants.{CubicInOut, QuartIn, QuartOut, QuartInOut, QuintIn, QuintOut, QuintInOut}
use Rattle.curve.specs.Curve.{controls, no_controls}

pub no-controls : (c : CurveType) → ((cp1 cp2 : Float) → c ≡ Bezier cp1 cp2 → ⊥) → controls c ≡ no_controls
unfolding controls
no-controls Linear k = refl
no-controls Exponential k = refl
no-controls Logarithmic k = refl
no-controls SCurve k = refl
no-controls Stepped k = refl
no-controls (Bezier cp1 cp2) k = absurd (k cp1 cp2 refl)
no-controls Bounce k = refl
no-controls Back k = refl
no-controls Circular k = refl
no-controls QuadIn k = refl
no-controls QuadOut k = refl
no-controls QuadInOut k = refl
no-controls CubicIn k = refl
no-controls CubicOut k = refl
no-controls CubicInOut k = refl
no-controls QuartIn k = refl
no-controls QuartOut k = refl
no-controls QuartInOut k = refl
no-controls QuintIn k = refl
no-controls QuintOut k = refl
no-controls QuintInOut k = refl
