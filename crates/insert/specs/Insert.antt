-- The edits that put points in, as 000 has them.
use Rattle.std.specs.Prelude.{cond, ◌&&◌, ltb, eqb, Float, Result}
use mathlib.Core.List.{List, [], ◌∷◌, map, foldl}
use Rattle.std.specs.Float.{binary64}
use Rattle.std.specs.Float.Ieee.{add}
use Rattle.numbers.specs.Bounds.{finite, zero64}
use Rattle.curve.specs.F32.{f0, f1}
use Rattle.curve.specs.declared.CurveType.{CurveType}
use Rattle.curve.specs.declared.CurveType.TheVariants.{Linear}
use Rattle.points.specs.Points.{time_key, list_of, valid_points}
use Rattle.points.specs.declared.AutomationPoint.{AutomationPoint}
use Rattle.points.specs.declared.Points.{Points}
use Rattle.points.specs.declared.refusal.Refusal.{Refusal}
use Rattle.settle.specs.Settle.{plain, judged}
use Rattle.points.specs.Point.{point_with}
use Rattle.pointwise.specs.declared.Change.TheVariants.{Shift}
use Rattle.pointwise.specs.Each.{changed}

-- "`add_point` replaces only at bit-equal time; otherwise it inserts"
unfoldable pub insert_point : AutomationPoint → List AutomationPoint → List AutomationPoint
insert_point p [] = p ∷ []
insert_point p (q ∷ l) =
    cond (ltb (time_key q) (time_key p)) (q ∷ insert_point p l)
    (cond (eqb (time_key q) (time_key p)) (p ∷ l) (p ∷ (q ∷ l)))

-- each in turn
abbrev pub insert_all : List AutomationPoint → List AutomationPoint → List AutomationPoint
insert_all l new = foldl (λ made p. insert_point p made) l new

-- merge: the other's points, each at its time plus the offset, in order; positions stay
abbrev pub merged : List AutomationPoint → List AutomationPoint → Float → List AutomationPoint
merged l other offset = insert_all l (map (changed (Shift offset)) other)

-- an edit that makes this list, given the other's points too
unfoldable pub merged_points : Points → Points → Float → Result Points Refusal
unfolding judged
merged_points ps other offset = judged (valid_points ps && valid_points other) (plain (finite offset) (merged (list_of ps) (list_of other) offset))

-- fade_in, fade_out and ramp: from one value at 0 to another at the duration
abbrev pub ramp_list : Float → Float → Float → CurveType → List AutomationPoint
ramp_list duration start end c = insert_all [] (point_with zero64 start Linear ∷ (point_with duration end c ∷ []))

-- pulse: attack, sustain, release
abbrev pub pulse_list : Float → Float → Float → CurveType → List AutomationPoint
pulse_list fade_in sustain fade_out c =
    insert_all [] (
    point_with zero64 f0 Linear ∷ (
    point_with fade_in f1 c ∷ (
    point_with (add binary64 fade_in sustain) f1 Linear ∷ (
    point_with (add binary64 (add binary64 fade_in sustain) fade_out) f0 c ∷ []))))
