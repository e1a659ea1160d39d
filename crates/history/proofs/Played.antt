-- Every run of samples on the session. Assumes nothing.
use Prim.Native.Nat.{ℕ, ◌+◌}
use mathlib.Core.Path.{◌≡◌, refl, ap, sym, ◌∙◌}
use mathlib.Core.List.{List, [], ◌∷◌}
use mathlib.Core.Bool.{cond, ◌&&◌}
use lib.ListN.{length, replicate}
use lib.Ieee.{Float}
use Rattle.numbers.specs.Bounds.{finite}
use Rattle.points.specs.Refusal.{gives}
use Rattle.render.specs.Render.{Rendered, declined, run_into, sample_count}
use Rattle.render.specs.Pieces.{total, pieces}
use Rattle.envelope.specs.Calls.{samples_of, render_of}
use Rattle.envelope.proofs.CallLaws.{pieces_of}
use Rattle.envelope.proofs.CallLaws as calls
use Rattle.envelope.specs.declared.AutomationEnvelope.{AutomationEnvelope}
use Rattle.session.specs.Play.{session_render, session_to_buffer, session_pieces}
use Rattle.session.specs.declared.Session.{Session}
use Rattle.history.specs.Rule.{Hist}
use Rattle.history.specs.After.{Runs}
use Rattle.history.proofs.Steps.{Inv, envelope_valid, session_valid}

module _ (start : AutomationEnvelope) (d : ℕ) (h : Hist) (s : Session) (m : List ℕ) (v : Inv start d h s m) where
  -- ---- every run of samples on the session

  run_is : (rate : Float) (first count place : ℕ) (buffer : List Float)
      → session_render s rate first count place buffer ≡ cond (finite rate) (run_into (samples_of s.envelope rate) first count place buffer) (declined 3 buffer)
  unfolding session_render
  run_is rate first count place buffer =
      rw (session_valid start d h s m v) (calls.render_is s.envelope rate first count place buffer ∙ rw (envelope_valid start d h s m v))

  whole_is : (rate duration : Float) (place : ℕ) (buffer : List Float)
      → session_to_buffer s rate duration place buffer ≡ cond (finite rate && finite duration) (run_into (samples_of s.envelope rate) 0 (sample_count rate duration) place buffer) (declined 3 buffer)
  unfolding session_to_buffer
  whole_is rate duration place buffer =
      rw (session_valid start d h s m v) (calls.buffer_is s.envelope rate duration place buffer ∙ rw (envelope_valid start d h s m v))

  render_is : (rate : Float) (first count place : ℕ) (buffer : List Float) → session_render s rate first count place buffer ≡ render_of s.envelope rate first count place buffer
  unfolding session_render
  render_is rate first count place buffer = rw (session_valid start d h s m v)

  pieces_are : (rate : Float) (first place : ℕ) (buffer : List Float) (counts : List ℕ)
      → session_pieces s rate first place buffer counts ≡ pieces_of s.envelope rate first place buffer counts
  unfolding session_pieces pieces
  pieces_are rate first place buffer [] = refl
  pieces_are rate first place buffer (n ∷ counts) =
      rw (render_is rate first n place buffer, pieces_are rate (first + n) (place + n) (render_of s.envelope rate first n place buffer).buffer counts)

  pub runs_of : Runs s.envelope s
  runs_of =
      record {
        run = run_is;
        whole = whole_is;
        cut = λ rate first place buffer counts p.
            pieces_are rate first place buffer counts
            ∙ calls.no_piece_refused s.envelope rate first place buffer counts
            (ap (λ (r : Rendered). r.said) (sym (render_is rate first (total counts) place buffer)) ∙ p)
            ∙ ap (λ (r : Rendered). record { said = replicate (length counts) (gives tt); buffer = r.buffer }) (sym (render_is rate first (total counts) place buffer));
      }
