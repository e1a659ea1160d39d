-- `state::write::put_state`: behind the settings stand the words of the first i points, and then the words that were there.
use Rattle.state.proofs.Words.{Put}
use Rattle.state.proofs.write.put_state.Given as goal

abbrev pub invariant-loop-i : goal.invariant-loop-i
invariant-loop-i l = Put l.envelope l.fn.words l.i l.words
