-- `lookup::place::halve` meets its contract: the key before low is below the one sought and the key at high is not (`Halving`), and a turn brings the two nearer.
use Prim.Native.Nat.{ℕ, ◌-◌, ◌≤◌, ◌<◌}
use mathlib.Core.Path.{◌≡◌}
use mathlib.Core.List.{List}
use lib.ListN.{get_or}
use Rattle.points.proofs.SearchLaws.{Halving}
use Rattle.lookup.proofs.KeyLaws.{itself}
use Rattle.lookup.proofs.place.halve.Given as goal

abbrev pub invariant-loop-low : goal.invariant-loop-low
invariant-loop-low g l =
    (l.low ≤ l.high) × (l.high ≤ l.n) × ((keys : List ℕ) → ((i k : ℕ) → i < l.n → goal.F-post g l.key_at i k → k ≡ get_or keys i 0) → Halving itself 0 l.key keys l.n l.low l.high)

abbrev pub decreases-loop-low : goal.decreases-loop-low
decreases-loop-low g l = l.high - l.low
