-- The edits that take a second envelope: accepted they leave a valid envelope, refused they change nothing, the target stays, and the numbers stay in range of their types. Assumes nothing.
use Prim.Native.Nat.{ℕ, ◌<◌}
use mathlib.Core.Path.{◌≡◌, refl, ap}
use mathlib.Core.Bool.{true, false, ◌&&◌}
use native.Mathlib.Omega.{arith}
use lib.Dec.{ltb}
use lib.Ieee.{Float, binary32, binary64, fits}
use borrow.Author.Tests.{ltb-true}
use Rattle.points.specs.Point.{time_of}
use Rattle.points.proofs.Laws.{every_map}
use Rattle.points.specs.Refusal.{gives, refuses}
use Rattle.points.specs.Points.{every, list_of, holding}
use Rattle.settle.proofs.Judging.{Passes}
use Rattle.insert.specs.Insert.{merged}
use Rattle.combine.specs.Combine.{applied, merge_times, times_of, side_at, combined_point, combined_list}
use Rattle.combine.proofs.Times.{merged_every}
use Rattle.combine.specs.declared.Operation.{Operation}
use Rattle.envelope.specs.Envelope.{new, limits_of, heard_of, valid_envelope}
use Rattle.envelope.specs.Edit.{EditTold, join_proposal, join_successor, join_of}
use Rattle.envelope.specs.Typed.{typed_point, typed}
use Rattle.envelope.specs.Promised.{JoinsFair}
use Rattle.envelope.proofs.EditLaws.{outcome_one, outcome_among, outcome_fair}
use Rattle.envelope.proofs.TypedLists.{TypedList, rounded, linear_typed, list_of_typed, merged_typed}
use Rattle.envelope.proofs.TypedLookup.{max_num-fits, min_num-fits, value_at_fits}
use Rattle.envelope.proofs.TypedParts.{parted}
use Rattle.envelope.proofs.TypedLaws.{with_points-typed, anew_typed, holds_typed, outcome_typed}
use Rattle.envelope.specs.declared.AutomationEnvelope.{AutomationEnvelope}
use Rattle.envelope.specs.declared.edit.Join.{Join}
use Rattle.envelope.specs.declared.edit.Join.TheVariants.{Merge, Combine}

-- ---- what an edit that passes makes

successor_valid : (j : Join) (e other : AutomationEnvelope) → Passes (valid_envelope e && valid_envelope other) (join_proposal j e other)
    → valid_envelope (join_successor j e (join_proposal j e other).list) ≡ true
unfolding join_proposal join_successor new
successor_valid j e other q = grind arith

successor_target : (j : Join) (e other : AutomationEnvelope) → (join_successor j e (join_proposal j e other).list).target ≡ e.target
unfolding join_successor new
successor_target j e other = grind arith

pub join_fair : JoinsFair
unfolding join_of
join_fair j e other = outcome_fair e (valid_envelope e && valid_envelope other) (join_proposal j e other) _ (successor_valid j e other) (successor_target j e other)

-- an accepted edit leaves a valid envelope
pub join_valid : (j : Join) (e other : AutomationEnvelope) → (join_of j e other).said ≡ gives tt → valid_envelope (join_of j e other).envelope ≡ true
join_valid j e other h = (join_fair j e other).valid h

-- ---- numbers in range: the values are results of f32 arithmetic, or one of the two; the times are times of either

applied_fits : (op : Operation) (x y : Float) → fits binary32 x ≡ true → fits binary32 y ≡ true → fits binary32 (applied op x y) ≡ true
applied_fits op x y h k = grind (arith, rounded, min_num-fits, max_num-fits)

module _ (e : AutomationEnvelope) (t : typed e ≡ true) where
  side_fits : (time : Float) → fits binary32 (side_at (heard_of e) time) ≡ true
  unfolding typed
  side_fits time =
      let value = value_at_fits (limits_of e) (grind arith) (grind arith) e.points e.enabled time (list_of_typed e.points (grind arith)) in
      grind (arith, rounded)

  times_fit : every (fits binary64) (times_of (heard_of e)) ≡ true
  unfolding typed
  times_fit = every_map typed_point (fits binary64) time_of (λ p u. grind arith) (list_of e.points) (list_of_typed e.points (grind arith))

combined_list-typed : (op : Operation) (e other : AutomationEnvelope) → typed e ≡ true → typed other ≡ true → TypedList (combined_list op (heard_of e) (heard_of other))
combined_list-typed op e other t u =
    every_map (fits binary64) typed_point (combined_point op (heard_of e) (heard_of other))
    (λ time h. let x = side_fits e t time in let y = side_fits other u time in grind (arith, applied_fits, linear_typed))
    (merge_times (times_of (heard_of e)) (times_of (heard_of other)))
    (merged_every (fits binary64) (times_of (heard_of e)) (times_of (heard_of other)) (times_fit e t) (times_fit other u))

successor_typed : (j : Join) (e other : AutomationEnvelope) → typed e ≡ true → typed other ≡ true → Passes (valid_envelope e && valid_envelope other) (join_proposal j e other)
    → typed (join_successor j e (join_proposal j e other).list) ≡ true
unfolding join_proposal join_successor
successor_typed (Merge offset) e other t u q =
    let l = list_of e.points in
    let m = list_of other.points in
    with_points-typed e (holding (merged l m offset)) t
    (holds_typed (join_proposal (Merge offset) e other) q (merged_typed l m offset (list_of_typed e.points (parted e t).points) (list_of_typed other.points (parted other u).points)))
successor_typed (Combine op) e other t u q =
    anew_typed e (combined_list op (heard_of e) (heard_of other)) t (holds_typed (join_proposal (Combine op) e other) q (combined_list-typed op e other t u))

pub join_typed : (j : Join) (e other : AutomationEnvelope) → typed e ≡ true → typed other ≡ true → typed (join_of j e other).envelope ≡ true
unfolding join_of
join_typed j e other t u = outcome_typed e (valid_envelope e && valid_envelope other) (join_proposal j e other) _ t (successor_typed j e other t u)

-- 1 where all that it is given isn't valid
pub join_one : (j : Join) (e o : AutomationEnvelope) → (valid_envelope e && valid_envelope o) ≡ false → (join_of j e o).said ≡ refuses 1
unfolding join_of
join_one j e o h = ap (λ (t : EditTold). t.said) (outcome_one e (valid_envelope e && valid_envelope o) (join_proposal j e o) _ h)

-- its own refusals have 01's numbers
pub join_numbers : (j : Join) (e o : AutomationEnvelope) (n : ℕ) → (join_of j e o).said ≡ refuses n → n < 14
unfolding join_of
join_numbers j e o n h = ltb-true n 14 (outcome_among e (valid_envelope e && valid_envelope o) (join_proposal j e o) _ (λ n. ltb n 14) refl n h)
