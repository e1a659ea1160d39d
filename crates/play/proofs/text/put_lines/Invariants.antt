use lib.ListN.{take}
use Rattle.fields.specs.Told.{Put}
use Rattle.play.specs.Play.{sample_lines}
use Rattle.play.proofs.text.put_lines.Given as goal

-- the lines so far are put
abbrev pub invariant-loop-i : goal.invariant-loop-i
invariant-loop-i l = Put l.initial.out 0 (sample_lines l.first (take l.i l.samples)) l.out l.at
