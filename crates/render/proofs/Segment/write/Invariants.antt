-- `render::Segment::write` meets its contract: from the place on up to i the samples are the segment's, and those before are as they were.
use Prim.Native.Nat.{ℕ, ◌+◌, ◌≤◌, ◌<◌}
use mathlib.Core.Path.{◌≡◌}
use mathlib.Core.Bool.{true}
use lib.ListN.{length, get_or}
use lib.Ieee.{Float}
use Rattle.render.specs.Render.{sample_time}
use Rattle.render.specs.Writer.{inside, segment_at}
use Rattle.render.proofs.Segment.write.Given as goal

abbrev pub invariant-loop-i : goal.invariant-loop-i
invariant-loop-i l =
    (length l.out ≡ length l.initial.out)
    × (l.place ≤ l.i)
    × ((k : ℕ) (d : Float) → k < l.place → get_or l.out k d ≡ get_or l.initial.out k d)
    × ((k : ℕ) (d : Float) → l.place ≤ k → k < l.i
    → (inside l.self (sample_time l.rate (l.first + k)) ≡ true) × (get_or l.out k d ≡ segment_at l.limits l.self (sample_time l.rate (l.first + k))))
