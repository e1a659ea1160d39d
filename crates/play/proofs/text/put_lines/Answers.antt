use mathlib.Core.Path.{refl}
use native.Mathlib.Omega.{arith}
use lib.Ieee.{nan}
use Rattle.play.specs.Play.{sample_lines}
use Rattle.play.proofs.Texts.{line_room, line_put}
use Rattle.play.proofs.text.put_lines.Goals as goal

pub loop-i-init : goal.loop-i-init
unfolding sample_lines
loop-i-init c = record { next = refl; bytes = refl }

pub put_line-at-requires : goal.put_line-at-requires
put_line-at-requires c = line_room c.args.first c.loop-i.i c.args.samples.now nan (omega arith) c.loop-i.invariant c.requires.room

pub loop-i-preserved : goal.loop-i-preserved
loop-i-preserved c = line_put c.args.first c.loop-i.i c.args.samples.now _ (omega arith) c.loop-i.invariant c.put_line-at.ensures
