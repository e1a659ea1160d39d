use Rattle.std.proofs.Common.{◌-◌, ◌≤◌, length}
use Rattle.player.proofs.read_full.Given as goal

abbrev pub invariant-loop-held : goal.invariant-loop-held
invariant-loop-held g l = l.held ≤ length l.buf

-- each read that gives something leaves less room
abbrev pub decreases-loop-held : goal.decreases-loop-held
decreases-loop-held g l = length l.buf - l.held
