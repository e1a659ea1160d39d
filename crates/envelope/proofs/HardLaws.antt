-- With hard on and both limits in order, every value found by lookup lies between them (`HardBetween` of specs/Promised), and nothing else turns on hard (`HardAside`). Assumes nothing.
-- A value that is found is a value constrained (`heard`), so limits' `hard_holds` speaks of it; a sample of a run that isn't refused is the lookup at its time.
use Rattle.std.specs.Prelude.{None, Option, Some}
use Prim.Native.Nat.{ℕ, ◌+◌, ◌<◌}
use mathlib.Core.Path.{◌≡◌, refl, ap, ◌∙◌}
use mathlib.Core.Bool.{Bool, true, ◌&&◌}
use mathlib.Core.List.{List}
use native.Mathlib.Nat.{zero-add}
use native.Mathlib.Omega.{arith}
use lib.ListN.{get_or}
use lib.Ieee.{Float, nan, binary32, of_bits}
use Rattle.points.specs.Points.{list_of}
use Rattle.points.specs.Checks.{first_failing, unless_refused}
use Rattle.points.specs.Refusal.{Said, gives, refuses, number}
use Rattle.points.specs.declared.AutomationPoint.{AutomationPoint}
use Rattle.points.specs.declared.refusal.Refusal.{Refusal}
use Rattle.limits.specs.Limits.{lies_between}
use Rattle.limits.specs.Promised.{Holding}
use Rattle.limits.proofs.HardLaws.{hard_holds}
use Rattle.lookup.specs.Lookup.{get_value_at, get_value_at_sample}
use Rattle.render.specs.Render.{sample_time, render, sample_count, to_buffer, next_sample}
use Rattle.render.specs.declared.SampleIterator.{SampleIterator}
use Rattle.render.proofs.RenderLaws.{ran}
use Rattle.settle.specs.Settle.{causes}
use Rattle.analysis.specs.Analysis.{find_middles}
use Rattle.envelope.specs.Envelope.{limits_of, valid_envelope}
use Rattle.envelope.specs.Calls.{value_at_of, value_at_sample_of, samples_of, render_of, to_buffer_of, next_sample_of, find_middles_of}
use Rattle.envelope.specs.Edit.{declined, outcome, proposal, successor, edit_of, join_proposal, join_successor, join_of}
use Rattle.envelope.specs.Promised.{HardBetween, hard_as, Alike, HardAside}
use Rattle.envelope.proofs.EditLaws.{accepted}
use Rattle.envelope.specs.declared.AutomationEnvelope.{AutomationEnvelope}
use Rattle.envelope.specs.declared.edit.Edit.{Edit}
use Rattle.envelope.specs.declared.edit.Join.TheVariants.{Merge}

module _ (e : AutomationEnvelope) (low high : Float) (held : Holding (limits_of e) low high) where
  -- ---- answers

  -- what an answer finds lies between the limits
  abbrev Found : Said (Option Float) → Type 0
  Found s = (v : Float) → s ≡ gives (Some v) → lies_between low high v ≡ true

  by-time : (time : Float) → Found (value_at_of e time)
  unfolding get_value_at
  by-time time v h = grind (arith, hard_holds)

  by-sample : (sample : ℕ) → Found (value_at_sample_of e sample)
  unfolding get_value_at_sample
  by-sample sample v h = grind (arith, hard_holds)

  walked : (w : SampleIterator) → Found (next_sample_of e w).said
  unfolding next_sample
  walked w v h = grind (arith, hard_holds)

  -- ---- samples

  -- one that isn't silent is what the lookup at its time finds
  sample_between : (rate : Float) (i : ℕ) (v : Float) → value_at_of e (sample_time rate i) ≡ gives (Some v) → lies_between low high (samples_of e rate i) ≡ true
  unfolding get_value_at
  sample_between rate i v h = grind (arith, hard_holds)

  module _ (rate : Float) where
    -- a run that isn't refused leaves its samples at their places
    placed : (first count place : ℕ) (buffer : List Float) → (render_of e rate first count place buffer).said ≡ gives tt
        → (i : ℕ) → i < count → get_or (render_of e rate first count place buffer).buffer (place + i) nan ≡ samples_of e rate (first + i)
    unfolding render
    placed first count place buffer h i s = let r = ran (samples_of e rate) first count place buffer in grind (arith, r)

    placed_buffer : (duration : Float) (place : ℕ) (buffer : List Float) → (to_buffer_of e rate duration place buffer).said ≡ gives tt
        → (i : ℕ) → i < sample_count rate duration → get_or (to_buffer_of e rate duration place buffer).buffer (place + i) nan ≡ samples_of e rate (0 + i)
    unfolding to_buffer
    placed_buffer duration place buffer h i s = let r = ran (samples_of e rate) 0 (sample_count rate duration) place buffer in grind (arith, r)

pub hard_between : HardBetween
hard_between e low high held =
    record {
      by_time = by-time e low high held;
      by_sample = by-sample e low high held;
      walked = walked e low high held;
      rendered = λ rate first count place buffer h i s v found. ap (lies_between low high) (placed e low high held rate first count place buffer h i s)
          ∙ sample_between e low high held rate (first + i) v found;
      buffered = λ rate duration place buffer h i s v found. ap (lies_between low high) (placed_buffer e low high held rate duration place buffer h i s ∙ ap (samples_of e rate) (zero-add i))
          ∙ sample_between e low high held rate i v found;
    }

-- ---- what hard doesn't touch

-- two edits with the same causes, on envelopes with the same points
alike : (o : Option Refusal) (e f a b : AutomationEnvelope) → e.points ≡ f.points → a.points ≡ b.points
    → Alike (unless_refused o (λ r. declined e (number r)) (accepted a)) (unless_refused o (λ r. declined f (number r)) (accepted b))
alike None e f a b p q = (refl, q)
alike (Some r) e f a b p q = (refl, p)

module _ (e : AutomationEnvelope) (on : Bool) where
  silent_at : (time : Float) → value_at_of e time ≡ gives None → value_at_of (hard_as on e) time ≡ gives None
  unfolding get_value_at
  silent_at time h = grind arith

  silent_at_sample : (sample : ℕ) → value_at_sample_of e sample ≡ gives None → value_at_sample_of (hard_as on e) sample ≡ gives None
  unfolding get_value_at_sample
  silent_at_sample sample h = grind arith

  refused_at_sample : (sample n : ℕ) → value_at_sample_of e sample ≡ refuses n → value_at_sample_of (hard_as on e) sample ≡ refuses n
  unfolding get_value_at_sample
  refused_at_sample sample n h = grind arith

  -- a silent sample is 0.0
  zero_at : (rate : Float) (i : ℕ) → value_at_of e (sample_time rate i) ≡ gives None → samples_of (hard_as on e) rate i ≡ of_bits binary32 0
  unfolding get_value_at
  zero_at rate i h = grind arith

  same_middles : (q : AutomationPoint → AutomationPoint → AutomationPoint → Bool) (times values : List Float) → find_middles_of q (hard_as on e) times values ≡ find_middles_of q e times values
  unfolding find_middles
  same_middles q times values = refl

  -- the points that an edit makes
  successor_points : (d : Edit) (l : List AutomationPoint) → (successor d (hard_as on e) l).points ≡ (successor d e l).points
  unfolding successor
  successor_points d l = grind arith

  same_edits : (d : Edit) → Alike (edit_of d (hard_as on e)) (edit_of d e)
  unfolding edit_of outcome
  same_edits d =
      let p = proposal d (list_of e.points) in
      alike (first_failing (causes (valid_envelope e) p)) (hard_as on e) e (successor d (hard_as on e) p.list) (successor d e p.list) refl (successor_points d p.list)

  same_merges : (offset : Float) (other : AutomationEnvelope) → Alike (join_of (Merge offset) (hard_as on e) other) (join_of (Merge offset) e other)
  unfolding join_of outcome join_proposal join_successor
  same_merges offset other =
      let p = join_proposal (Merge offset) e other in
      let cause = first_failing (causes (valid_envelope e && valid_envelope other) p) in
      alike cause (hard_as on e) e (join_successor (Merge offset) (hard_as on e) p.list) (join_successor (Merge offset) e p.list) refl refl

  same_merged : (offset : Float) (other : AutomationEnvelope) → join_of (Merge offset) other (hard_as on e) ≡ join_of (Merge offset) other e
  unfolding join_of join_proposal
  same_merged offset other = refl

pub hard_aside : HardAside
hard_aside e on =
    record {
      valid = refl;
      silent = silent_at e on;
      silent_sample = silent_at_sample e on;
      silent_zero = zero_at e on;
      refused = refused_at_sample e on;
      middles = same_middles e on;
      edits = same_edits e on;
      merges = same_merges e on;
      merged = same_merged e on;
    }
