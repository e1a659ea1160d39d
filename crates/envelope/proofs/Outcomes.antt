-- How what became of the points comes to an edit's outcome. Assumes nothing.
use Rattle.std.specs.Prelude.{Err, None, Ok, Option, Result, Some}
use Prim.Native.Nat.{◌≤◌}
use mathlib.Core.Path.{◌≡◌, refl, sym, ap, ◌∙◌}
use mathlib.Core.Bool.{Bool, true, false, cond, ◌&&◌}
use native.Mathlib.Omega.{arith}
use borrow.Author.Tests.{le-leb}
use lib.ListN.{length, length-take}
use Rattle.points.specs.Checks.{first_failing, unless_refused}
use Rattle.points.specs.Refusal.{number}
use Rattle.points.specs.Points.{list_of, holding}
use Rattle.points.specs.declared.Points.{Points}
use Rattle.points.specs.declared.refusal.Refusal.{Refusal}
use Rattle.points.proofs.ValidLaws.{valid_count, valid_finite, valid_rising}
use Rattle.settle.specs.Settle.{Proposal, plain, causes, judged}
use Rattle.settle.proofs.Judging.{accepts}
use Rattle.lookup.specs.Heard.{Heard}
use Rattle.combine.specs.Combine.{combined_points}
use Rattle.combine.specs.declared.Operation.{Operation}
use Rattle.envelope.specs.Envelope.{heard_of, valid_envelope}
use Rattle.envelope.proofs.ValidParts.{points_valid}
use Rattle.envelope.specs.Edit.{declined, outcome, join_proposal, join_of}
use Rattle.envelope.proofs.EditLaws.{accepted}
use Rattle.envelope.specs.declared.AutomationEnvelope.{AutomationEnvelope}
use Rattle.envelope.specs.declared.edit.Join.TheVariants.{Combine}

-- their refusal is the edit's
pub refused_is : (e made : AutomationEnvelope) (valid : Bool) (p : Proposal) (r : Refusal) → judged valid p ≡ Err r → declined e (number r) ≡ outcome e valid p made
unfolding judged outcome
refused_is e made valid p r j = go (first_failing (causes valid p)) j
  where
    go : (o : Option Refusal) → unless_refused o Err (Ok (holding p.list)) ≡ Err r → declined e (number r) ≡ unless_refused o (λ r. declined e (number r)) (accepted made)
    go None k = cc
    go (Some y) k = cc

-- a setting keeps the points, so that only the envelope and the argument can refuse it
pub setting_is : (e made : AutomationEnvelope) (finite : Bool)
    → outcome e (valid_envelope e) (plain finite (list_of e.points)) made ≡ cond (valid_envelope e) (cond finite (accepted made) (declined e 3)) (declined e 1)
unfolding outcome
setting_is e made finite = go (valid_envelope e) finite refl refl
  where
    go : (v f : Bool) → valid_envelope e ≡ v → finite ≡ f → outcome e v (plain f (list_of e.points)) made ≡ cond v (cond f (accepted made) (declined e 3)) (declined e 1)
    go false f h k = refl
    go true false h k = refl
    go true true h k =
        let q = points_valid e h in
        let few : length (list_of e.points) ≤ 256 = omega (arith, valid_count e.points q, length-take e.points.count e.points.places) in
        sym (accepts (λ r. declined e (number r)) (accepted made) (plain true (list_of e.points)) refl refl refl (valid_finite e.points q) (valid_rising e.points q) (le-leb _ _ few))

pub switch_is : (e made : AutomationEnvelope)
    → outcome e (valid_envelope e) (plain true (list_of e.points)) made ≡ cond (valid_envelope e) (accepted made) (declined e 1)
switch_is e made = setting_is e made true

-- a combination's refusal is the join's
pub combination_refused : (op : Operation) (e other : AutomationEnvelope) (a b : Heard) (r : Refusal) → a ≡ heard_of e → b ≡ heard_of other → combined_points op a b ≡ Err r
    → declined e (number r) ≡ join_of (Combine op) e other
unfolding combined_points join_of
combination_refused op e other a b r p q h = refused_is e _ (valid_envelope e && valid_envelope other) (join_proposal (Combine op) e other) r (rw (p, q) at h)
