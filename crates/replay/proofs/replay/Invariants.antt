-- `replay::replay`: the calls that came have run, and their answers stand in as many places.
use Rattle.std.proofs.Common.{length}
use Rattle.replay.proofs.ReplayLaws.{Replaying}
use Rattle.replay.proofs.replay.Given as goal

abbrev pub invariant-loop-i : goal.invariant-loop-i
invariant-loop-i l =
    (goal.iterator-loop-i).can_next l.i-iterator × (goal.iterator-loop-i).is_finite l.i-iterator
    × Replaying l.target l.fn.memory l.commands l.fn.answers l.answers (length l.yielded) l.session l.memory
