-- `analysis::Bounds::of` meets its contract: the bounds are those of the first k lookups (`lookup_turn`).
use Prim.Native.Nat.{ℕ, ◌<◌}
use mathlib.Core.Path.{◌≡◌}
use lib.Ieee.{Float}
use Rattle.std.specs.Prelude.{Option}
use Rattle.std.specs.List.{fold}
use Rattle.lookup.specs.Runs.{run}
use Rattle.analysis.specs.Analysis.{given_values}
use Rattle.analysis.specs.Ranges.{no_values, widen}
use Rattle.analysis.proofs.Bounds.of.Given as goal

abbrev pub invariant-loop-k : goal.invariant-loop-k
invariant-loop-k g l =
    (f : ℕ → Option Float) → ((k : ℕ) (v : Option Float) → k < l.stops → goal.F-post g l.value k v → v ≡ f k) → l.bounds ≡ fold widen no_values (given_values (run f 0 l.k))
