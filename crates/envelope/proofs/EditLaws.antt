-- What every edit does to an envelope: accepted it leaves a valid one, refused it changes nothing, and the target stays (`EditsFair` of specs/Promised). Assumes nothing.
use Rattle.std.specs.Prelude.{None, Option, Some}
use Prim.Native.Nat.{ℕ}
use mathlib.Core.Path.{◌≡◌, refl, sym, ap, ◌∙◌}
use mathlib.Core.Bool.{Bool, true, false}
use native.Mathlib.Omega.{arith}
use Rattle.points.specs.Checks.{first_failing, unless_refused}
use Rattle.points.proofs.CheckLaws.{never, refused_among}
use Rattle.points.specs.Refusal.{gives, refuses, number}
use Rattle.points.specs.Points.{every, list_of}
use Rattle.points.specs.declared.refusal.Refusal.{Refusal}
use Rattle.settle.specs.Settle.{Proposal, causes}
use Rattle.settle.proofs.Judging.{Passes, one, causes_either}
use Rattle.envelope.specs.Envelope.{valid_envelope}
use Rattle.envelope.specs.Promised.{Fair, EditsFair}
use Rattle.envelope.specs.Edit.{EditTold, declined, outcome, proposal, successor, edit_of}
use Rattle.envelope.specs.declared.AutomationEnvelope.{AutomationEnvelope}
use Rattle.envelope.specs.declared.edit.Edit.{Edit}

-- ---- what comes of an edit

-- what is accepted, and leaves the envelope f
abbrev pub accepted : AutomationEnvelope → EditTold
accepted f = record { said = gives tt; envelope = f }

module _ (e : AutomationEnvelope) (valid : Bool) (p : Proposal) (f : AutomationEnvelope) where
  -- what holds of every refusal, and of f where the edit passes, holds of it
  pub outcome_either : (P : EditTold → Type 0) → ((r : Refusal) → P (declined e (number r))) → (Passes valid p → P (accepted f)) → P (outcome e valid p f)
  unfolding outcome
  outcome_either P refusing holds = causes_either P (λ r. declined e (number r)) (accepted f) valid p refusing holds

  -- 1 where all that it is given isn't valid
  pub outcome_one : valid ≡ false → outcome e valid p f ≡ declined e 1
  unfolding outcome
  outcome_one v = sym (one (λ r. declined e (number r)) (accepted f) p v)

  -- what the numbers of its causes are, a refusal's is
  pub outcome_among : (is : ℕ → Bool) → every (λ c. is (number c.refusal)) (causes valid p) ≡ true → (n : ℕ) → (outcome e valid p f).said ≡ refuses n → is n ≡ true
  unfolding outcome
  outcome_among is all n h = go (first_failing (causes valid p)) refl h
    where
      go : (o : Option Refusal) → first_failing (causes valid p) ≡ o → (unless_refused o (λ r. declined e (number r)) (accepted f)).said ≡ refuses n → is n ≡ true
      go None k h = never (sym h)
      go (Some r) k h = let same : number r ≡ n = cc in ap is (sym same) ∙ refused_among (λ r. is (number r)) (causes valid p) r all k

declines : (e : AutomationEnvelope) (n : ℕ) → Fair e (declined e n)
declines e n = record { valid = λ h. never h; kept = λ k h. refl; target = refl }

accepts : (e f : AutomationEnvelope) → valid_envelope f ≡ true → f.target ≡ e.target → Fair e (accepted f)
accepts e f v t = record { valid = λ h. v; kept = λ n h. never (sym h); target = t }

pub outcome_fair : (e : AutomationEnvelope) (valid : Bool) (p : Proposal) (f : AutomationEnvelope) → (Passes valid p → valid_envelope f ≡ true) → f.target ≡ e.target
    → Fair e (outcome e valid p f)
outcome_fair e valid p f v t = outcome_either e valid p f (Fair e) (λ r. declines e (number r)) (λ q. accepts e f (v q) t)

-- ---- what an edit that passes makes

successor_valid : (d : Edit) (e : AutomationEnvelope) → Passes (valid_envelope e) (proposal d (list_of e.points)) → valid_envelope (successor d e (proposal d (list_of e.points)).list) ≡ true
unfolding proposal successor
successor_valid d e q = grind arith

successor_target : (d : Edit) (e : AutomationEnvelope) → (successor d e (proposal d (list_of e.points)).list).target ≡ e.target
unfolding successor
successor_target d e = grind arith

pub edit_fair : EditsFair
unfolding edit_of
edit_fair d e = outcome_fair e (valid_envelope e) (proposal d (list_of e.points)) _ (successor_valid d e) (successor_target d e)

-- ---- 01's list of edits

-- an accepted edit leaves a valid envelope
pub edit_valid : (d : Edit) (e : AutomationEnvelope) → (edit_of d e).said ≡ gives tt → valid_envelope (edit_of d e).envelope ≡ true
edit_valid d e h = (edit_fair d e).valid h

-- 1 where all that it is given isn't valid
pub edit_one : (d : Edit) (e : AutomationEnvelope) → valid_envelope e ≡ false → (edit_of d e).said ≡ refuses 1
unfolding edit_of
edit_one d e h = ap (λ (t : EditTold). t.said) (outcome_one e (valid_envelope e) (proposal d (list_of e.points)) _ h)
