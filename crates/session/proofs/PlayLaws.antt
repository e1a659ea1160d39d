-- A lookup or a run on a session in order is its envelope's own, whose 1 is the session's too, so the envelope's validity is tested once. Assumes nothing.
use Rattle.std.proofs.Common.{◌≡◌, ℕ, Bool, true, false, cond, ◌&&◌, List, Float, refl, sym}
use mathlib.Core.Bool.{false≢true}
use Rattle.envelope.specs.Envelope.{valid_envelope}
use Rattle.envelope.specs.Calls.{value_at_of, value_at_sample_of, render_of, to_buffer_of}
use Rattle.envelope.proofs.CallLaws.{value_invalid, sample_invalid, render_invalid, buffer_invalid}
use Rattle.session.specs.Session.{in_order}
use Rattle.session.specs.declared.Session.{Session}
use Rattle.session.specs.Play.{session_value_at, session_value_at_sample, session_render, session_to_buffer}

own_if : {A : Type 0} (v i : Bool) (own one : A) → (v ≡ false → own ≡ one) → i ≡ true → cond (v && i) own one ≡ own
own_if true true own one h k = refl
own_if true false own one h k = absurd (false≢true k)
own_if false i own one h k = sym (h refl)

module _ (s : Session) (k : in_order s ≡ true) where
  pub value_own : (time : Float) → session_value_at s time ≡ value_at_of s.envelope time
  unfolding session_value_at
  value_own time = own_if (valid_envelope s.envelope) (in_order s) _ _ (value_invalid s.envelope time) k

  pub sample_own : (sample : ℕ) → session_value_at_sample s sample ≡ value_at_sample_of s.envelope sample
  unfolding session_value_at_sample
  sample_own sample = own_if (valid_envelope s.envelope) (in_order s) _ _ (sample_invalid s.envelope sample) k

  pub render_own : (rate : Float) (first count place : ℕ) (buffer : List Float) → session_render s rate first count place buffer ≡ render_of s.envelope rate first count place buffer
  unfolding session_render
  render_own rate first count place buffer = own_if (valid_envelope s.envelope) (in_order s) _ _ (render_invalid s.envelope rate first count place buffer) k

  pub buffer_own : (rate duration : Float) (place : ℕ) (buffer : List Float) → session_to_buffer s rate duration place buffer ≡ to_buffer_of s.envelope rate duration place buffer
  unfolding session_to_buffer
  buffer_own rate duration place buffer = own_if (valid_envelope s.envelope) (in_order s) _ _ (buffer_invalid s.envelope rate duration place buffer) k
