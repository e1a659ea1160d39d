-- `state::write::put_state` meets its contract: the settings' words begin it (`put_none`), each turn adds a point's (`put_more`), and at 256 points that is all (`put_all`).
use Rattle.std.proofs.Common.{arith}
use Rattle.state.proofs.Words.{put_none, put_more, put_all}
use Rattle.state.proofs.write.put_state.Goals as goal

pub loop-i-init : goal.loop-i-init
loop-i-init c = put_none c.args.envelope.now c.args.words.now (cc)

pub loop-i-preserved : goal.loop-i-preserved
loop-i-preserved c = put_more c.args.envelope.now c.args.words.now c.loop-i.i _ c.loop-i.invariant (omega arith) (omega arith) (cc)

pub returns : goal.returns
returns c = put_all c.args.envelope.now c.args.words.now c.loop-i.i c.loop-i.invariant (omega arith) (omega arith)
