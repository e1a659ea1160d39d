-- Of a list that is finite and rises only its length decides. Assumes nothing.
use mathlib.Core.Path.{◌≡◌}
use mathlib.Core.Bool.{Bool, true}
use mathlib.Core.List.{List}
use native.Mathlib.Omega.{arith}
use Rattle.points.specs.Checks.{first_failing}
use Rattle.points.specs.Fitted.{fitted}
use Rattle.points.specs.Point.{finite_point}
use Rattle.points.specs.Points.{every, rising, valid_points}
use Rattle.points.specs.declared.AutomationPoint.{AutomationPoint}
use Rattle.points.specs.declared.Points.{Points}
use Rattle.settle.specs.Settle.{judged, edit_points, settle}

pub fitted_settles : (l : List AutomationPoint) → every finite_point l ≡ true → rising l ≡ true → fitted l ≡ settle l
unfolding settle judged first_failing
fitted_settles l f r = grind arith

-- the end of an edit of valid points by finite arguments
pub settled : (ps : Points) (ok : Bool) (l : List AutomationPoint) → valid_points ps ≡ true → ok ≡ true → settle l ≡ edit_points ps ok l
unfolding settle edit_points
settled ps ok l v o = rw (v, o)
