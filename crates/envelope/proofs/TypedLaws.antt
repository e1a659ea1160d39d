-- Every edit keeps the numbers in range of their types. Assumes nothing.
use Prim.Native.Nat.{ℕ, zero-le}
use mathlib.Core.Path.{◌≡◌, refl, ◌∙◌}
use mathlib.Core.Bool.{Bool, true, ◌&&◌}
use mathlib.Core.List.{List, []}
use native.Mathlib.Omega.{arith}
use lib.Dec.{ltb, leb}
use Rattle.points.specs.Point.{finite_point}
use Rattle.points.specs.Points.{every, rising_by, rising, list_of, holding}
use Rattle.points.proofs.ValidLaws.{holding_valid, valid_count}
use Rattle.points.specs.declared.AutomationPoint.{AutomationPoint}
use Rattle.points.specs.declared.Points.{Points}
use Rattle.settle.specs.Settle.{Proposal}
use Rattle.settle.proofs.Judging.{Passes}
use Rattle.insert.proofs.Inserting.{every_insert}
use Rattle.envelope.specs.Envelope.{new, valid_envelope}
use Rattle.envelope.specs.Edit.{with_points, anew, outcome, proposed, constructed, proposal, successor, edit_of}
use Rattle.envelope.specs.Typed.{typed_points, typed, typed_points_edit, typed_replacement, typed_edit}
use Rattle.envelope.proofs.EditLaws.{outcome_either}
use Rattle.envelope.proofs.TypedLists.{TypedList, rounded, linear_typed, typed_lists, list_of_typed, holding_typed}
use Rattle.envelope.specs.declared.AutomationEnvelope.{AutomationEnvelope}
use Rattle.envelope.specs.declared.edit.PointsEdit.{PointsEdit}
use Rattle.envelope.specs.declared.edit.PointsEdit.TheVariants.{AddPoint, RemovePointAt, ShiftPoints, ScaleTime, Trim, Reverse, InvertValues, QuantizeTime, Simplify, Normalize, Scale}
use Rattle.envelope.specs.declared.edit.PointsEdit.TheVariants.{Offset, ClampValues, ApplyFadeIn, ApplyFadeOut, ApplyFades, ApplyGate, ApplyCompression}
use Rattle.envelope.specs.declared.edit.Replacement.{Replacement}
use Rattle.envelope.specs.declared.edit.Edit.{Edit}
use Rattle.envelope.specs.declared.edit.Edit.TheVariants.{OfPoints, Replace, SetEnabled, SetMin, SetMax, SetStep, SetHard}

-- ---- the lists that the edits make

proposed_typed : (d : PointsEdit) (l : List AutomationPoint) → TypedList l → typed_points_edit d ≡ true → TypedList (proposed d l).list
unfolding proposed typed_points_edit
proposed_typed (AddPoint p) l h t = grind (arith, typed_lists)
proposed_typed (RemovePointAt time) l h t = grind (arith, typed_lists)
proposed_typed (ShiftPoints offset) l h t = grind (arith, typed_lists)
proposed_typed (ScaleTime factor) l h t = grind (arith, typed_lists)
proposed_typed (Trim start end) l h t = grind (arith, typed_lists)
proposed_typed Reverse l h t = grind (arith, typed_lists)
proposed_typed (InvertValues min max) l h t = grind (arith, typed_lists)
proposed_typed (QuantizeTime grid) l h t = grind (arith, typed_lists)
proposed_typed (Simplify tolerance) l h t = grind (arith, typed_lists)
proposed_typed (Normalize min max) l h t = grind (arith, typed_lists)
proposed_typed (Scale factor) l h t = grind (arith, typed_lists)
proposed_typed (Offset amount) l h t = grind (arith, typed_lists)
proposed_typed (ClampValues min max) l h t = grind (arith, typed_lists)
proposed_typed (ApplyFadeIn duration c) l h t = grind (arith, typed_lists)
proposed_typed (ApplyFadeOut duration c) l h t = grind (arith, typed_lists)
proposed_typed (ApplyFades fade_in fade_out c) l h t = grind (arith, typed_lists)
proposed_typed (ApplyGate threshold) l h t = grind (arith, typed_lists)
proposed_typed (ApplyCompression threshold ratio) l h t = grind (arith, typed_lists)

constructed_typed : (d : Replacement) → typed_replacement d ≡ true → TypedList (constructed d).list
unfolding constructed typed_replacement
constructed_typed d u = grind (arith, every_insert, rounded, linear_typed)

-- the points that hold such a list
pub holds_typed : {valid : Bool} (p : Proposal) → Passes valid p → TypedList p.list → typed_points (holding p.list) ≡ true
holds_typed p q h = holding_typed p.list (valid_count (holding p.list) q.makes) h

-- ---- the envelope

pub with_points-typed : (e : AutomationEnvelope) (ps : Points) → typed e ≡ true → typed_points ps ≡ true → typed (with_points e ps) ≡ true
unfolding typed
with_points-typed e ps t h = grind arith

-- the settings of `new`, with other points
fresh_typed : (target : ℕ) (ps : Points) → ltb target 0x1_0000_0000 ≡ true → typed_points ps ≡ true → typed (with_points (new target) ps) ≡ true
unfolding new typed
fresh_typed target ps h k = grind arith

-- 000's `new`
pub new_typed : (target : ℕ) → ltb target 0x1_0000_0000 ≡ true → typed (new target) ≡ true
unfolding new
new_typed target h = fresh_typed target (holding []) h (holding_typed [] zero-le refl)

none_valid : (leb 0 256 && (every finite_point [] && rising [])) ≡ true
unfolding rising_by
none_valid = refl

pub new_valid : (target : ℕ) → valid_envelope (new target) ≡ true
unfolding new
new_valid target = holding_valid [] ∙ none_valid

pub anew_typed : (e : AutomationEnvelope) (l : List AutomationPoint) → typed e ≡ true → typed_points (holding l) ≡ true → typed (anew e l) ≡ true
unfolding typed
anew_typed e l t h = grind (arith, fresh_typed)

-- the envelope that comes back is in range of its types
pub outcome_typed : (e : AutomationEnvelope) (valid : Bool) (p : Proposal) (f : AutomationEnvelope) → typed e ≡ true → (Passes valid p → typed f ≡ true)
    → typed (outcome e valid p f).envelope ≡ true
outcome_typed e valid p f t h = outcome_either e valid p f (λ r. typed r.envelope ≡ true) (λ r. t) h

-- ---- 01's list of edits

successor_typed : (d : Edit) (e : AutomationEnvelope) → typed e ≡ true → typed_edit d ≡ true → Passes (valid_envelope e) (proposal d (list_of e.points))
    → typed (successor d e (proposal d (list_of e.points)).list) ≡ true
unfolding proposal successor typed_edit typed new
successor_typed (OfPoints d) e t u q =
    let k = proposed_typed d (list_of e.points) (list_of_typed e.points (grind arith)) u in
    with_points-typed e (holding (proposed d (list_of e.points)).list) t (holds_typed (proposed d (list_of e.points)) q k)
successor_typed (Replace d) e t u q = anew_typed e (constructed d).list t (holds_typed (constructed d) q (constructed_typed d u))
successor_typed (SetEnabled on) e t u q = grind arith
successor_typed (SetMin l) e t u q = grind arith
successor_typed (SetMax l) e t u q = grind arith
successor_typed (SetStep l) e t u q = grind arith
successor_typed (SetHard on) e t u q = grind arith

pub edit_typed : (d : Edit) (e : AutomationEnvelope) → typed e ≡ true → typed_edit d ≡ true → typed (edit_of d e).envelope ≡ true
unfolding edit_of
edit_typed d e t u = outcome_typed e (valid_envelope e) (proposal d (list_of e.points)) _ t (successor_typed d e t u)
