use mathlib.Core.Path.{◌∙◌}
use Rattle.lines.specs.PointLines.{cut_short}
use Rattle.lines.proofs.Ends.{whole}
use Rattle.lines.proofs.point_lines.cut_short.Goals as goal

pub returns-then-program : goal.returns-then-program
unfolding cut_short
returns-then-program c = c.eq.ensures ∙ rw (c.as_slice.ensures, c.if-program.true) (whole _ c.args.s.now)
