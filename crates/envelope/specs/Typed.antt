-- Numbers in range of their types. Every value that a program holds is so, and no code tests it; the laws that go to words or to text and back ask for it.
use Rattle.std.specs.Prelude.{ℕ, Bool, true, ◌&&◌, ltb, eqb, length, Float, None, Option, Some}
use Rattle.std.specs.Float.{binary32, binary64}
use Rattle.std.specs.Float.Ieee.{fits}
use Rattle.curve.specs.Curve.{controls}
use Rattle.curve.specs.declared.CurveType.{CurveType}
use Rattle.points.specs.Points.{every}
use Rattle.points.specs.declared.AutomationPoint.{AutomationPoint}
use Rattle.points.specs.declared.Points.{Points}
use Rattle.envelope.specs.declared.AutomationEnvelope.{AutomationEnvelope}
use Rattle.envelope.specs.declared.edit.PointsEdit.{PointsEdit}
use Rattle.envelope.specs.declared.edit.PointsEdit.TheVariants.{AddPoint, RemovePointAt, ShiftPoints, ScaleTime, Trim, Reverse, InvertValues, QuantizeTime, Simplify, Normalize, Scale}
use Rattle.envelope.specs.declared.edit.PointsEdit.TheVariants.{Offset, ClampValues, ApplyFadeIn, ApplyFadeOut, ApplyFades, ApplyGate, ApplyCompression}
use Rattle.envelope.specs.declared.edit.Replacement.{Replacement}
use Rattle.envelope.specs.declared.edit.Replacement.TheVariants.{FadeIn, FadeOut, Pulse, Ramp}
use Rattle.envelope.specs.declared.edit.Edit.{Edit}
use Rattle.envelope.specs.declared.edit.Edit.TheVariants.{OfPoints, Replace, SetEnabled, SetMin, SetMax, SetStep, SetHard}

-- the controls are f32
abbrev pub typed_curve : CurveType → Bool
typed_curve c = fits binary32 (controls c).cp1 && fits binary32 (controls c).cp2

-- a position is a u64
abbrev pub typed_position : Option ℕ → Bool
typed_position None = true
typed_position (Some n) = ltb n 0x1_0000_0000_0000_0000

-- the time is an f64, the value an f32
abbrev pub typed_point : AutomationPoint → Bool
typed_point p = fits binary64 p.time && typed_position p.sample_position && fits binary32 p.value && typed_curve p.curve

-- there are 256 places, all of them so
abbrev pub typed_points : Points → Bool
typed_points ps = eqb (length ps.places) 256 && every typed_point ps.places

-- a limit is an f32
abbrev pub typed_limit : Option Float → Bool
typed_limit None = true
typed_limit (Some x) = fits binary32 x

-- the target is a u32, and all of the above
unfoldable pub typed : AutomationEnvelope → Bool
typed e = ltb e.target 0x1_0000_0000 && typed_limit e.min_value && typed_limit e.max_value && typed_limit e.step_size && typed_points e.points

-- ---- an edit's arguments

-- those of an edit of the points: times are f64, values f32
unfoldable pub typed_points_edit : PointsEdit → Bool
typed_points_edit (AddPoint p) = typed_point p
typed_points_edit (RemovePointAt time) = fits binary64 time
typed_points_edit (ShiftPoints offset) = fits binary64 offset
typed_points_edit (ScaleTime factor) = fits binary64 factor
typed_points_edit (Trim start end) = fits binary64 start && fits binary64 end
typed_points_edit Reverse = true
typed_points_edit (InvertValues min max) = fits binary32 min && fits binary32 max
typed_points_edit (QuantizeTime grid) = fits binary64 grid
typed_points_edit (Simplify tolerance) = fits binary32 tolerance
typed_points_edit (Normalize min max) = fits binary32 min && fits binary32 max
typed_points_edit (Scale factor) = fits binary32 factor
typed_points_edit (Offset amount) = fits binary32 amount
typed_points_edit (ClampValues min max) = fits binary32 min && fits binary32 max
typed_points_edit (ApplyFadeIn duration c) = fits binary64 duration && typed_curve c
typed_points_edit (ApplyFadeOut duration c) = fits binary64 duration && typed_curve c
typed_points_edit (ApplyFades fade_in fade_out c) = fits binary64 fade_in && fits binary64 fade_out && typed_curve c
typed_points_edit (ApplyGate threshold) = fits binary32 threshold
typed_points_edit (ApplyCompression threshold ratio) = fits binary32 threshold && fits binary32 ratio

-- the same of a replacement's arguments
unfoldable pub typed_replacement : Replacement → Bool
typed_replacement (FadeIn duration c) = fits binary64 duration && typed_curve c
typed_replacement (FadeOut duration c) = fits binary64 duration && typed_curve c
typed_replacement (Pulse fade_in sustain fade_out c) = fits binary64 fade_in && fits binary64 sustain && fits binary64 fade_out && typed_curve c
typed_replacement (Ramp duration start end c) = fits binary64 duration && fits binary32 start && fits binary32 end && typed_curve c

-- the same of an edit's arguments
unfoldable pub typed_edit : Edit → Bool
unfolding typed_points_edit typed_replacement
typed_edit (OfPoints d) = typed_points_edit d
typed_edit (Replace d) = typed_replacement d
typed_edit (SetEnabled on) = true
typed_edit (SetMin l) = typed_limit l
typed_edit (SetMax l) = typed_limit l
typed_edit (SetStep l) = typed_limit l
typed_edit (SetHard on) = true
