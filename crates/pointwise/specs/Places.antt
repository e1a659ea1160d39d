-- For the code's own use: what its loops make of the points in their places. `Each.antt` has what an edit is held to.
use Rattle.std.specs.Prelude.{cond, map, ◌++◌, take, drop, Float}
use Rattle.std.specs.Float.{binary64}
use Rattle.std.specs.Float.Ieee.{le, sub}
use Rattle.numbers.specs.Bounds.{zero64}
use Rattle.curve.specs.declared.CurveType.{CurveType}
use Rattle.points.specs.Points.{list_of}
use Rattle.points.specs.declared.AutomationPoint.{AutomationPoint}
use Rattle.points.specs.declared.Points.{Points}
use Rattle.pointwise.specs.Each.{changed, first_time, last_time}
use Rattle.pointwise.specs.declared.Change.TheVariants.{FadeIn, FadeOut}

-- the points changed in their places
unfoldable pub mapped_in : (AutomationPoint → AutomationPoint) → Points → Points
mapped_in f ps = record { count = ps.count; places = map f (take ps.count ps.places) ++ drop ps.count ps.places }

-- the points faded in, in their places
abbrev pub faded_in_places : Float → CurveType → Points → Points
faded_in_places duration c ps = cond (le duration zero64) ps (mapped_in (changed (FadeIn (first_time (list_of ps)) duration c)) ps)

-- and out
abbrev pub faded_out_places : Float → CurveType → Points → Points
faded_out_places duration c ps = cond (le duration zero64) ps (mapped_in (changed (FadeOut (sub binary64 (last_time (list_of ps)) duration) duration c)) ps)
