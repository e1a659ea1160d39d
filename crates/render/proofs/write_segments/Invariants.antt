-- `render::write_segments` meets its contract: the samples before i are written, and fewer are left each turn.
use Prim.Native.Nat.{ℕ, ◌+◌, ◌-◌, ◌≤◌, ◌<◌}
use mathlib.Core.Path.{◌≡◌}
use lib.ListN.{length, get_or}
use lib.Ieee.{Float}
use Rattle.render.specs.Render.{sample_or}
use Rattle.render.proofs.write_segments.Given as goal

abbrev pub invariant-loop-i : goal.invariant-loop-i
invariant-loop-i l =
    (length l.out ≡ length l.initial.out)
    × (l.i ≤ length l.initial.out)
    × ((k : ℕ) (d : Float) → k < l.i → get_or l.out k d ≡ sample_or l.silent l.valid.points l.valid.enabled l.valid.limits l.rate (l.first + k))

abbrev pub decreases-loop-i : goal.decreases-loop-i
decreases-loop-i l = length l.initial.out - l.i
