-- The program's output is what its blocks have, one after the other, and the first bytes of its input decide it: specs/Promised.
use Prim.Native.Nat.{ℕ, zero, suc, ◌+◌, ◌*◌, ◌≤◌, ◌<◌}
use mathlib.Core.Path.{◌≡◌, refl, sym, ap, ap₂, ◌∙◌}
use mathlib.Core.Bool.{Bool, true, false, cond}
use mathlib.Core.List.{List, [], ◌++◌}
use native.Mathlib.Omega.{arith}
use lib.Dec.{ltb, leb}
use lib.ListN.{length, drop}
use lib.Seq.{take_at}
use lib.Ieee.{of_bits}
use borrow.Author.Tests.{leb-true, le-leb, ltb-true, ltb-false}
use Rattle.numbers.specs.Bounds.{finite}
use Rattle.curve.specs.Curve.{code}
use Rattle.points.specs.Points.{every, rising_by, valid_points}
use Rattle.points.specs.Refusal.{gives}
use Rattle.render.specs.Render.{sample_count, most_samples}
use Rattle.envelope.specs.Envelope.{new, valid_envelope}
use Rattle.envelope.specs.declared.AutomationEnvelope.{AutomationEnvelope}
use Rattle.sheet.specs.Sheet.{Input, declined, input, play_input}
use Rattle.lines.specs.declared.block.Block.{Block}
use Rattle.sheet.proofs.Prefix.{input_decided}
use Rattle.play.specs.Play.{counted, printed, output}
use Rattle.play.specs.Promised.{OutputDecided, BlocksAreOutput}
use Rattle.play.specs.Blocks.{over, first_text, first_play, block_count, block_text, after, next_block, taken, played}
use Rattle.play.specs.declared.Play.{Play}
use Rattle.play.proofs.OutputLaws.{left, left_cut, nothing_left, starts, whole, input_playable}

-- ---- the first bytes decide

pub output_decided : OutputDecided
unfolding output
output_decided n l h = ap (λ (i : Input). printed (counted i)) (input_decided n l h)

-- ---- a play that no block refuses

-- a valid envelope, a finite rate, at most 2^32 − 1 samples, the next one not past their end
pub record Playable (p : Play) : Type 0 where
  pub valid : valid_envelope p.envelope ≡ true
  pub rated : finite p.rate ≡ true
  pub few : p.count ≤ most_samples
  pub begun : p.next ≤ p.count

module _ (p : Play) (h : Playable p) where
  -- so is what a block leaves
  pub after_playable : Playable (after p)
  after_playable = record { valid = h.valid; rated = h.rated; few = h.few; begun = omega (arith, h.begun) }

  -- a block of it is accepted
  pub accepted : (out : List ℕ) → next_block p out ≡ record { said = gives (length (block_text p)); play = after p; bytes = over (block_text p) out }
  unfolding next_block
  accepted out = rw (h.valid, h.rated, le-leb (p.next + block_count p) most_samples (omega (arith, h.begun, h.few)))

-- so many calls write the lines of all samples that are left
pub blocks_are_left : (n : ℕ) (p : Play) (out : List ℕ) → Playable p → p.count ≤ p.next + 1024 * n → played n p out ≡ left p
unfolding played
blocks_are_left zero p out h e = sym (nothing_left p (omega arith))
blocks_are_left (suc n) p out h e = on (ltb p.next p.count) refl (λ q. blocks_are_left n (after p) (over (block_text p) out) (after_playable p h) (omega arith))
  where
    on : (t : Bool) → ltb p.next p.count ≡ t → (p.next < p.count → played n (after p) (over (block_text p) out) ≡ left (after p))
        → cond t (taken (next_block p out) ++ played n (next_block p out).play (next_block p out).bytes) [] ≡ left p
    on true q f =
        rw (accepted p h out)
        (ap₂ ◌++◌ (take_at (block_text p) (drop (length (block_text p)) out) (length (block_text p)) refl) (f (ltb-true _ _ q)) ∙ sym (left_cut p h.begun))
    on false q f = sym (nothing_left p (ltb-false _ _ q))

-- an empty play
nothing : (n k : ℕ) → Playable (first_play (declined n k))
unfolding first_play new valid_points rising_by finite of_bits code
nothing n k = record { valid = refl; rated = refl; few = omega arith; begun = omega arith }

-- what is read can be played
pub first_playable : (l : List ℕ) → Playable (first_play (counted (play_input l)))
unfolding counted first_play
first_playable l = on (play_input l) refl
  where
    within : (e : AutomationEnvelope) (b : Block) → (valid_envelope e ≡ true) × (finite b.rate ≡ true) → (t : Bool) → leb (sample_count b.rate b.duration) most_samples ≡ t
        → Playable (first_play (cond t (input e b) (declined 13 0)))
    within e b g true q = record { valid = g.0; rated = g.1; few = leb-true _ _ q; begun = omega arith }
    within e b g false q = nothing 13 0

    on : (i : Input) → play_input l ≡ i → Playable (first_play (counted i))
    on (declined n k) q = nothing n k
    on (input e b) q = within e b (input_playable l e b q) (leb (sample_count b.rate b.duration) most_samples) refl

-- ---- the theorem

pub blocks_are_output : BlocksAreOutput
unfolding output
blocks_are_output l out n h =
    let i = counted (play_input l) in
    ap₂ ◌++◌ (take_at (first_text i) (drop (length (first_text i)) out) (length (first_text i)) refl)
    (blocks_are_left n (first_play i) (over (first_text i) out) (first_playable l) (omega (arith, starts i)))
    ∙ whole i

-- 4,194,304 calls are enough for every input
pub enough : (l : List ℕ) → (first_play (counted (play_input l))).count ≤ 1024 * 4194304
enough l = omega (arith, (first_playable l).few)
