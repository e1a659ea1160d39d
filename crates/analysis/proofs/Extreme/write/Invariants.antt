-- `analysis::Extreme::write` meets its contract: the middle ones so far are written.
use mathlib.Core.Path.{◌≡◌}
use mathlib.Core.List.{◌++◌, map}
use lib.ListN.{length, drop}
use Rattle.points.specs.Point.{time_of}
use Rattle.analysis.specs.Ranges.{value_of}
use Rattle.analysis.proofs.Middles.{seen}
use Rattle.analysis.proofs.Extreme.write.Given as goal

abbrev pub invariant-loop-k : goal.invariant-loop-k
invariant-loop-k l =
    (goal.iterator-loop-k).can_next l.k-iterator × (goal.iterator-loop-k).is_finite l.k-iterator
    × (l.times ≡ map time_of (seen l.yielded) ++ drop (length l.yielded) l.initial.times)
    × (l.values ≡ map value_of (seen l.yielded) ++ drop (length l.yielded) l.initial.values)
