-- `listing::bytes::bytes_of`: less text is left after each byte, and no more bytes are put than there is room.
use Rattle.std.proofs.Common.{◌≤◌, length}
use Rattle.listing.proofs.bytes.bytes_of.Given as goal

abbrev pub invariant-loop-rest : goal.invariant-loop-rest
invariant-loop-rest l = l.n ≤ length l.out

abbrev pub decreases-loop-rest : goal.decreases-loop-rest
decreases-loop-rest l = length l.rest
