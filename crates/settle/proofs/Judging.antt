-- Which refusal an edit gives, by the first of its causes that fails. Assumes nothing.
use Rattle.std.specs.Prelude.{Err, None}
use mathlib.Core.Path.{◌≡◌}
use mathlib.Core.Bool.{Bool, true, false}
use native.Mathlib.Omega.{arith}
use lib.Dec.{leb}
use lib.ListN.{length}
use Rattle.points.specs.Checks.{first_failing, gate}
use Rattle.points.specs.Point.{finite_point}
use Rattle.points.specs.Points.{every, rising, holding, valid_points}
use Rattle.points.proofs.ValidLaws.{holding_valid}
use Rattle.points.specs.declared.refusal.Refusal.{Refusal}
use Rattle.points.specs.declared.refusal.Refusal.TheVariants.{NotValid, TimesDontRise}
use Rattle.points.proofs.CheckLaws.{all_hold, gate_either}
use Rattle.settle.specs.Settle.{Proposal, causes, judged}

-- ---- the first way out, and the last

-- whatever a refusal makes, and what the edit makes where there is none
module _ {A : Type 0} (refuse : Refusal → A) (own : A) (p : Proposal) {valid : Bool} where
  pub one : valid ≡ false → refuse NotValid ≡ gate (causes valid p) refuse own
  unfolding first_failing
  one v = rw v

  pub accepts : valid ≡ true → p.finite_arguments ≡ true → p.bounds_in_order ≡ true → every finite_point p.list ≡ true → rising p.list ≡ true → leb (length p.list) 256 ≡ true
      → own ≡ gate (causes valid p) refuse own
  unfolding first_failing
  accepts v a b f r n = rw (v, a, b, f, r, n)

-- ---- an edit that none of them refuses

-- all that it is given is valid, and so are the points that it makes
pub record Passes (valid : Bool) (p : Proposal) : Type 0 where
  pub given : valid ≡ true
  pub arguments : p.finite_arguments ≡ true
  pub makes : valid_points (holding p.list) ≡ true

pub passes : (valid : Bool) (p : Proposal) → first_failing (causes valid p) ≡ None → Passes valid p
passes valid p h =
    let all = all_hold (causes valid p) h in
    let made = holding_valid p.list in
    record { given = grind arith; arguments = grind arith; makes = grind arith }

-- what holds of every refusal, and of an edit that passes, holds of what comes of it
pub causes_either : {A : Type 0} (P : A → Type 0) (refuse : Refusal → A) (own : A) (valid : Bool) (p : Proposal) → ((r : Refusal) → P (refuse r)) → (Passes valid p → P own)
    → P (gate (causes valid p) refuse own)
causes_either P refuse own valid p refusing holds = gate_either P (first_failing (causes valid p)) refuse own refusing (λ h. holds (passes valid p h))

-- ---- one that makes a rising list of what is valid: 6 can't meet it

pub never_six : (valid : Bool) (p : Proposal) → (valid ≡ true → rising p.list ≡ true) → judged valid p ≡ Err TimesDontRise → ⊥
unfolding judged first_failing
never_six valid p up h = grind arith
