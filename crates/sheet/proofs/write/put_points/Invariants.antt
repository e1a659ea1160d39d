use lib.ListN.{take}
use Rattle.fields.specs.Told.{Put}
use Rattle.sheet.specs.Text.{point_texts}
use Rattle.sheet.proofs.write.put_points.Given as goal

-- the lines so far are put
abbrev pub invariant-loop-p : goal.invariant-loop-p
invariant-loop-p l = Put l.initial.out l.start (point_texts (take l.p-index l.points)) l.out l.at
