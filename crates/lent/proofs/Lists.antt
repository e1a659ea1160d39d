-- A lent list of points is merged as the points of a new envelope. Assumes nothing.
use Rattle.std.specs.Prelude.{Err, Ok, Result}
use mathlib.Core.Path.{◌≡◌, refl, ◌∙◌}
use mathlib.Core.Bool.{Bool, true, false, cond, and-false}
use mathlib.Core.List.{List}
use native.Mathlib.Omega.{arith}
use lib.Dec.{leb}
use lib.Ieee.{Float}
use lib.ListN.{length}
use Rattle.points.specs.Checks.{first_failing}
use Rattle.points.specs.Fitted.{fitted}
use Rattle.points.specs.Points.{holding}
use Rattle.points.proofs.ValidLaws.{holding_valid}
use Rattle.points.specs.declared.AutomationPoint.{AutomationPoint}
use Rattle.points.specs.declared.Points.{Points}
use Rattle.points.specs.declared.refusal.Refusal.{Refusal}
use Rattle.points.specs.declared.refusal.Refusal.TheVariants.{TooManyPoints}
use Rattle.envelope.specs.Envelope.{new, valid_envelope}
use Rattle.envelope.specs.Edit.{with_points, outcome, join_of, declined}
use Rattle.envelope.specs.declared.AutomationEnvelope.{AutomationEnvelope}
use Rattle.envelope.specs.declared.edit.Join.TheVariants.{Merge}
use Rattle.lent.specs.Merge.{valid_list, merge_list_of}

-- the new envelope is valid where the list is
valid_new : (l : List AutomationPoint) → valid_envelope (with_points (new 0) (holding l)) ≡ valid_list l
unfolding new valid_list
valid_new l = let h = holding_valid l in grind arith

-- 1 for an other that isn't valid
declined_other : (e other : AutomationEnvelope) (offset : Float) → valid_envelope other ≡ false → join_of (Merge offset) e other ≡ declined e 1
unfolding join_of outcome first_failing
declined_other e other offset v = rw (v, and-false)

-- a list that has no place for each
pub too_many : (e : AutomationEnvelope) (l : List AutomationPoint) (offset : Float) (r : Refusal) → Err r ≡ fitted l → declined e 1 ≡ merge_list_of e l offset
unfolding merge_list_of valid_list
too_many e l offset r h = go (leb (length l) 256) refl h
  where
    go : (b : Bool) → leb (length l) 256 ≡ b → Err r ≡ cond {A = Result Points Refusal} b (Ok (holding l)) (Err TooManyPoints) → declined e 1 ≡ merge_list_of e l offset
    go true n k = cc
    go false n k = rw n

-- any other
pub merged_list : (e none : AutomationEnvelope) (l : List AutomationPoint) (ps : Points) (offset : Float) → Ok ps ≡ fitted l → none ≡ new 0
    → join_of (Merge offset) e (with_points none ps) ≡ merge_list_of e l offset
unfolding merge_list_of
merged_list e none l ps offset h n = go (leb (length l) 256) h
  where
    other : AutomationEnvelope
    other = with_points (new 0) (holding l)

    valid : (v : Bool) → valid_list l ≡ v → join_of (Merge offset) e other ≡ cond v (join_of (Merge offset) e other) (declined e 1)
    valid true v = refl
    valid false v = declined_other e other offset (valid_new l ∙ v)

    go : (b : Bool) → Ok ps ≡ cond {A = Result Points Refusal} b (Ok (holding l)) (Err TooManyPoints) → join_of (Merge offset) e (with_points none ps) ≡ merge_list_of e l offset
    go true k = let same : ps ≡ holding l = cc in rw (n, same) (valid (valid_list l) refl)
    go false k = cc
