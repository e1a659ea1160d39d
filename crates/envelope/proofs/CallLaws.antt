-- The calls on an envelope: 1 where it isn't valid, and how a run and its pieces come out. Assumes nothing.
use Prim.Native.Nat.{ℕ}
use mathlib.Core.Path.{◌≡◌, refl}
use mathlib.Core.Bool.{false, cond, ◌&&◌}
use mathlib.Core.List.{List}
use lib.ListN.{length, replicate}
use lib.Ieee.{Float}
use Rattle.numbers.specs.Bounds.{finite}
use Rattle.points.specs.Refusal.{refuses, gives}
use Rattle.lookup.specs.Lookup.{get_value_at, get_value_at_sample}
use Rattle.render.specs.Render.{declined, run_into, render, sample_count, to_buffer}
use Rattle.render.proofs.RenderLaws as rendered
use Rattle.render.proofs.PieceLaws as cut
use Rattle.render.specs.Pieces.{total, Pieces, pieces}
use Rattle.envelope.specs.Envelope.{limits_of, valid_envelope}
use Rattle.envelope.specs.Calls.{value_at_of, value_at_sample_of, samples_of, render_of, to_buffer_of}
use Rattle.envelope.specs.declared.AutomationEnvelope.{AutomationEnvelope}

-- a run's pieces by their counts: each of them a `render`
abbrev pub pieces_of : AutomationEnvelope → Float → ℕ → ℕ → List Float → List ℕ → Pieces
pieces_of e rate first place buffer counts = pieces e.points e.enabled (limits_of e) rate first place buffer counts

module _ (e : AutomationEnvelope) where
  -- ---- the lookups

  pub value_invalid : (time : Float) → valid_envelope e ≡ false → value_at_of e time ≡ refuses 1
  unfolding get_value_at
  value_invalid time v = rw v

  pub sample_invalid : (sample : ℕ) → valid_envelope e ≡ false → value_at_sample_of e sample ≡ refuses 1
  unfolding get_value_at_sample
  sample_invalid sample v = rw v

  -- ---- rendering

  module _ (rate : Float) where
    module _ (first count place : ℕ) (buffer : List Float) where
      -- 1 and 3, else what its samples give
      pub render_is : render_of e rate first count place buffer
          ≡ cond (valid_envelope e) (cond (finite rate) (run_into (samples_of e rate) first count place buffer) (declined 3 buffer)) (declined 1 buffer)
      unfolding render
      render_is = refl

      pub render_invalid : valid_envelope e ≡ false → render_of e rate first count place buffer ≡ declined 1 buffer
      render_invalid v = rendered.render_invalid _ _ _ rate first count place buffer v

    module _ (duration : Float) (place : ℕ) (buffer : List Float) where
      pub buffer_is : to_buffer_of e rate duration place buffer
          ≡ cond (valid_envelope e) (cond (finite rate && finite duration) (run_into (samples_of e rate) 0 (sample_count rate duration) place buffer) (declined 3 buffer)) (declined 1 buffer)
      unfolding to_buffer
      buffer_is = refl

      pub buffer_invalid : valid_envelope e ≡ false → to_buffer_of e rate duration place buffer ≡ declined 1 buffer
      buffer_invalid v = rendered.buffer_invalid _ _ _ rate duration place buffer v

    -- "If the run isn't refused, no piece is, and they leave the buffer that it leaves"
    pub no_piece_refused : (first place : ℕ) (buffer : List Float) (counts : List ℕ) → (render_of e rate first (total counts) place buffer).said ≡ gives tt
        → pieces_of e rate first place buffer counts ≡ record { said = replicate (length counts) (gives tt); buffer = (render_of e rate first (total counts) place buffer).buffer }
    no_piece_refused first place buffer counts h = cut.no_piece_refused _ _ _ rate first place buffer counts h
