-- `Points::from_slice`: the points taken so far are held.
use mathlib.Core.Path.{◌≡◌}
use lib.ListN.{take}
use Rattle.points.specs.Points.{holding, fitting}
use Rattle.points.proofs.Points.from_slice.Given as goal

abbrev pub invariant-loop-p : goal.invariant-loop-p
invariant-loop-p l = l.made ≡ holding (fitting (take l.p-index l.points))
