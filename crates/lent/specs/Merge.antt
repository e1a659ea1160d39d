-- 01, "Edits": "Merge can also take the other points as a lent list. One that isn't a valid envelope's points gives 1."
use Rattle.std.specs.Prelude.{Bool, cond, ◌&&◌, List, length, leb, Float}
use Rattle.points.specs.Point.{finite_point}
use Rattle.points.specs.Points.{every, rising, holding}
use Rattle.points.specs.declared.AutomationPoint.{AutomationPoint}
use Rattle.envelope.specs.Envelope.{new}
use Rattle.envelope.specs.Edit.{EditTold, with_points, join_of, declined}
use Rattle.envelope.specs.declared.AutomationEnvelope.{AutomationEnvelope}
use Rattle.envelope.specs.declared.edit.Join.TheVariants.{Merge}

-- the points of a valid envelope
unfoldable pub valid_list : List AutomationPoint → Bool
valid_list l = leb (length l) 256 && every finite_point l && rising l

-- the merge with an envelope that has these points, or 1
unfoldable pub merge_list_of : AutomationEnvelope → List AutomationPoint → Float → EditTold
unfolding new
merge_list_of e l offset = cond (valid_list l) (join_of (Merge offset) e (with_points (new 0) (holding l))) (declined e 1)
