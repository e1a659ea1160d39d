use Prim.Native.Nat.{◌+◌}
use mathlib.Core.Path.{◌≡◌}
use lib.ListN.{length}
use Rattle.points.specs.Points.{list_of}
use Rattle.combine.proofs.Combining.{Walked}
use Rattle.combine.proofs.walk.Given as goal

abbrev pub invariant-loop-time : goal.invariant-loop-time
invariant-loop-time l =
    (l.firsts ≡ list_of l.first.points) × (l.seconds ≡ list_of l.other.points) × Walked l.operation l.first l.other l.points l.others l.made l.fits

abbrev pub decreases-loop-time : goal.decreases-loop-time
decreases-loop-time l = length l.points + length l.others
