-- The point: 01, "Points and search", and the equalities of 000.
use Rattle.std.specs.Prelude.{Bool, false, cond, not, ◌&&◌, eqb, ℤ, pos, negsuc, Float, None, is_none}
use Rattle.std.specs.Float.{nan, inf, fin, binary32, binary64}
use Rattle.std.specs.Float.Ieee.{sub, lt, of_bits}
use Rattle.numbers.specs.Bounds.{zero64, finite}
use Rattle.curve.specs.F32.{f0}
use Rattle.curve.specs.Curve.{is_linear, finite_controls, same_curve}
use Rattle.curve.specs.declared.CurveType.{CurveType}
use Rattle.curve.specs.declared.CurveType.TheVariants.{Linear}
use Rattle.points.specs.Refusal.{Said, refuses, gives}
use Rattle.points.specs.declared.AutomationPoint.{AutomationPoint}

-- "all times, values, controls .. are finite"
abbrev pub finite_point : AutomationPoint → Bool
finite_point p = finite p.time && finite p.value && finite_controls p.curve

-- "places past the count hold time 0, no position, value 0, Linear"
abbrev pub unused : AutomationPoint
unused = record { time = zero64; sample_position = None; value = f0; curve = Linear }

-- 000's `AutomationPoint::with_curve`
abbrev pub point_with : Float → Float → CurveType → AutomationPoint
point_with time value c = record { time = time; sample_position = None; value = value; curve = c }

-- what a place that does not exist would hold: no answer turns on it
abbrev pub any_point : AutomationPoint
any_point = record { time = nan; sample_position = None; value = nan; curve = Linear }

-- a point's time
abbrev pub time_of : AutomationPoint → Float
time_of p = p.time

-- the exponent that a zero has
abbrev pub is_zero_exponent : ℤ → Bool
is_zero_exponent (pos n) = eqb n 0
is_zero_exponent (negsuc n) = false

-- whether a number is 0.0
abbrev pub is_plus_zero : Float → Bool
is_plus_zero nan = false
is_plus_zero (inf s) = false
is_plus_zero (fin s m e) = not s && eqb m 0 && is_zero_exponent e

-- the test for such a place
abbrev pub is_unused : AutomationPoint → Bool
is_unused p = is_plus_zero p.time && is_none p.sample_position && is_plus_zero p.value && is_linear p.curve

-- the size of a number, without its sign
abbrev pub abs : Float → Float
abs nan = nan
abs (inf s) = inf false
abs (fin s m e) = fin false m e

-- 000's `eq`: times closer than 2^-52 and values closer than 2^-23, the curve aside
abbrev pub same_point : AutomationPoint → AutomationPoint → Bool
same_point p q = lt (abs (sub binary64 p.time q.time)) (of_bits binary64 0x3CB0_0000_0000_0000) && lt (abs (sub binary32 p.value q.value)) (of_bits binary32 0x3400_0000)

-- 000's `eq_exact`: the curve too, and not the position
abbrev pub same_point_exact : AutomationPoint → AutomationPoint → Bool
same_point_exact p q = same_point p q && same_curve p.curve q.curve

-- 000's `eq_exact` of two points, or its `eq`
abbrev pub matching : Bool → AutomationPoint → AutomationPoint → Bool
matching exact p q = cond exact (same_point_exact p q) (same_point p q)

-- an equality of two points, with refusal 3: "an argument .. not finite"
unfoldable pub points_equal : (AutomationPoint → AutomationPoint → Bool) → AutomationPoint → AutomationPoint → Said Bool
points_equal same p q = cond (finite_point p && finite_point q) (gives (same p q)) (refuses 3)
