-- What is promised beyond the functions' contracts: statements alone, each proved by the law that its comment names.
use Rattle.std.specs.Prelude.{ℕ, ◌+◌, ◌<◌, ◌≡◌, Bool, true, List, get_or, Float, None, Some}
use Rattle.std.specs.Float.{nan, binary32}
use Rattle.std.specs.Float.Ieee.{of_bits}
use Rattle.points.specs.Refusal.{gives, refuses}
use Rattle.points.specs.declared.AutomationPoint.{AutomationPoint}
use Rattle.limits.specs.Limits.{lies_between}
use Rattle.limits.specs.Promised.{Holding}
use Rattle.render.specs.Render.{sample_time, sample_count}
use Rattle.render.specs.declared.SampleIterator.{SampleIterator}
use Rattle.envelope.specs.Envelope.{limits_of, valid_envelope}
use Rattle.envelope.specs.Calls.{value_at_of, value_at_sample_of, samples_of, render_of, to_buffer_of, next_sample_of, find_middles_of}
use Rattle.envelope.specs.Edit.{EditTold, with_settings, edit_of, join_of}
use Rattle.envelope.specs.declared.AutomationEnvelope.{AutomationEnvelope}
use Rattle.envelope.specs.declared.edit.Edit.{Edit}
use Rattle.envelope.specs.declared.edit.Join.{Join}
use Rattle.envelope.specs.declared.edit.Join.TheVariants.{Merge}

-- an edit of e came to t: accepted it leaves a valid envelope; "A refusal returns its number .. and changes nothing"; the target stays, "given the target the envelope has"
pub record Fair (e : AutomationEnvelope) (t : EditTold) : Type 0 where
  pub valid : t.said ≡ gives tt → valid_envelope t.envelope ≡ true
  pub kept : (n : ℕ) → t.said ≡ refuses n → t.envelope ≡ e
  pub target : t.envelope.target ≡ e.target

-- so does every edit (`edit_fair`, proofs/EditLaws)
abbrev pub EditsFair : Type 0
EditsFair = (d : Edit) (e : AutomationEnvelope) → Fair e (edit_of d e)

-- and every edit with another envelope, which "keeps the first target" (`join_fair`, proofs/JoinLaws)
abbrev pub JoinsFair : Type 0
JoinsFair = (j : Join) (e other : AutomationEnvelope) → Fair e (join_of j e other)

-- what is found by lookup in e lies between two numbers. A place that a buffer lacks counts as a NaN, which lies nowhere.
pub record Between (e : AutomationEnvelope) (low high : Float) : Type 0 where
  -- by time, by sample, by every call of a walk
  pub by_time : (time v : Float) → value_at_of e time ≡ gives (Some v) → lies_between low high v ≡ true
  pub by_sample : (sample : ℕ) (v : Float) → value_at_sample_of e sample ≡ gives (Some v) → lies_between low high v ≡ true
  pub walked : (walk : SampleIterator) (v : Float) → (next_sample_of e walk).said ≡ gives (Some v) → lies_between low high v ≡ true
  -- every sample of a run, and of `to_buffer`, that isn't silent
  pub rendered : (rate : Float) (first count place : ℕ) (buffer : List Float) → (render_of e rate first count place buffer).said ≡ gives tt
      → (i : ℕ) → i < count → (v : Float) → value_at_of e (sample_time rate (first + i)) ≡ gives (Some v)
      → lies_between low high (get_or (render_of e rate first count place buffer).buffer (place + i) nan) ≡ true
  pub buffered : (rate duration : Float) (place : ℕ) (buffer : List Float) → (to_buffer_of e rate duration place buffer).said ≡ gives tt
      → (i : ℕ) → i < sample_count rate duration → (v : Float) → value_at_of e (sample_time rate i) ≡ gives (Some v)
      → lies_between low high (get_or (to_buffer_of e rate duration place buffer).buffer (place + i) nan) ≡ true

-- 02, F-1: "With both set, minimum at most maximum, every value found by lookup then lies between them" (`hard_between`, proofs/HardLaws)
abbrev pub HardBetween : Type 0
HardBetween = (e : AutomationEnvelope) (low high : Float) → Holding (limits_of e) low high → Between e low high

-- the same envelope with hard on or off
abbrev pub hard_as : Bool → AutomationEnvelope → AutomationEnvelope
hard_as on e = with_settings e e.enabled (record { min_value = e.min_value; max_value = e.max_value; step_size = e.step_size; hard = on })

-- two edits say the same and leave the same points
abbrev pub Alike : EditTold → EditTold → Type 0
Alike a b = (a.said ≡ b.said) × (a.envelope.points ≡ b.envelope.points)

-- F-1 speaks of values found by lookup. What else there is stays as it is with hard on or off:
pub record Aside (e : AutomationEnvelope) (on : Bool) : Type 0 where
  -- validity
  pub valid : valid_envelope (hard_as on e) ≡ valid_envelope e
  -- silence, and the 0.0 of a silent sample, wherever the limits lie
  pub silent : (time : Float) → value_at_of e time ≡ gives None → value_at_of (hard_as on e) time ≡ gives None
  pub silent_sample : (sample : ℕ) → value_at_sample_of e sample ≡ gives None → value_at_sample_of (hard_as on e) sample ≡ gives None
  pub silent_zero : (rate : Float) (i : ℕ) → value_at_of e (sample_time rate i) ≡ gives None → samples_of (hard_as on e) rate i ≡ of_bits binary32 0
  -- a lookup's refusals
  pub refused : (sample n : ℕ) → value_at_sample_of e sample ≡ refuses n → value_at_sample_of (hard_as on e) sample ≡ refuses n
  -- peaks and valleys
  pub middles : (q : AutomationPoint → AutomationPoint → AutomationPoint → Bool) (times values : List Float) → find_middles_of q (hard_as on e) times values ≡ find_middles_of q e times values
  -- what an edit says, and the points that it leaves; and those of merge, into the envelope and out of it
  pub edits : (d : Edit) → Alike (edit_of d (hard_as on e)) (edit_of d e)
  pub merges : (offset : Float) (other : AutomationEnvelope) → Alike (join_of (Merge offset) (hard_as on e) other) (join_of (Merge offset) e other)
  pub merged : (offset : Float) (other : AutomationEnvelope) → join_of (Merge offset) other (hard_as on e) ≡ join_of (Merge offset) other e

-- so of every envelope (`hard_aside`, proofs/HardLaws)
abbrev pub HardAside : Type 0
HardAside = (e : AutomationEnvelope) (on : Bool) → Aside e on
