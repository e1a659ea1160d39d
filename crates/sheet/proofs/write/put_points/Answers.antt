use native.Mathlib.Omega.{arith}
use Rattle.sheet.proofs.Texts.{no_texts, text_fits, text_put}
use Rattle.sheet.proofs.write.put_points.Goals as goal

pub loop-p-init : goal.loop-p-init
loop-p-init c = no_texts _ _

pub put_point-at-requires : goal.put_point-at-requires
put_point-at-requires c = rw c.raw_point.ensures (text_fits c.args.points.now c.loop-p.p-index _ (omega arith) c.loop-p.invariant c.requires)

pub loop-p-preserved : goal.loop-p-preserved
loop-p-preserved c = text_put c.args.points.now c.loop-p.p-index _ (omega arith) c.loop-p.invariant (rw c.raw_point.ensures at c.put_point-at.ensures)
