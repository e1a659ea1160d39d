use Prim.Native.Nat.{◌-◌}
use Rattle.lines.proofs.Reading.{Reading}
use Rattle.lines.proofs.point_lines.point_lines.Given as goal

abbrev pub invariant-loop-line : goal.invariant-loop-line
invariant-loop-line l = Reading l.program l.s l.rest l.points

abbrev pub decreases-loop-line : goal.decreases-loop-line
decreases-loop-line l = 256 - l.points.count
