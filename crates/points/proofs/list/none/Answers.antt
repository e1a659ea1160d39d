use mathlib.Core.Path.{ap}
use lib.ListN.{replicate}
use Rattle.points.specs.declared.AutomationPoint.{AutomationPoint}
use Rattle.points.specs.declared.Points.{Points}
use Rattle.points.proofs.list.none.Goals as goal

pub returns : goal.returns
returns c = ap {B = Points} (λ (p : AutomationPoint). record { count = 0; places = replicate 256 p }) c.unused.ensures
