use mathlib.Core.Path.{◌≡◌}
use Rattle.points.specs.Points.{holding, fitting}
use Rattle.shape.proofs.collected.Given as goal

abbrev pub invariant-loop-p : goal.invariant-loop-p
invariant-loop-p g l = l.out ≡ holding (fitting l.yielded)
