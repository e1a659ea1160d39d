-- `state::read::read_places`: the places below the chunk's number are read, and the iterator has the words of the others left.
use Rattle.std.proofs.Common.{◌≡◌}
use Rattle.std.specs.Slice.Iter.{chunks_exact_rest, chunks_exact_size}
use Rattle.state.proofs.Words.{Reading}
use Rattle.state.proofs.read.read_places.Given as goal

abbrev pub invariant-loop-i : goal.invariant-loop-i
invariant-loop-i l = (chunks_exact_size l.i-iterator.iter ≡ 4) × Reading l.words l.i-iterator.count (chunks_exact_rest l.i-iterator.iter) l.places
