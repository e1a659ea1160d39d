-- What the turns of the walk have done, and how a combination ends. Assumes nothing.
use Rattle.std.specs.Prelude.{Err, None, Ok, Result, Some}
use Prim.Native.Nat.{ℕ, ◌+◌, ◌-◌, ◌≤◌, ◌<◌, min}
use mathlib.Core.Path.{◌≡◌, refl, sym, ap, ◌∙◌}
use mathlib.Core.Bool.{Bool, true, false, cond, ◌&&◌, and-false}
use mathlib.Core.List.{List, [], ◌∷◌, ◌++◌, map, append_assoc, append-nil, map-append}
use native.Mathlib.Omega.{arith}
use lib.Dec.{ltb, leb}
use lib.Ieee.{Float}
use lib.ListN.{length, length-append, length-take}
use Rattle.numbers.proofs.Tests.{and_left, and_right, and_both}
use Rattle.numbers.specs.Order.{order_key}
use Rattle.points.specs.Checks.{first_failing}
use Rattle.points.specs.Fitted.{fitted}
use Rattle.points.specs.Point.{finite_point}
use Rattle.points.specs.Points.{every, list_of, holding, fitting, with_more, time_key}
use Rattle.points.specs.Search.{place_by}
use Rattle.points.proofs.Laws.{every_append, every_one}
use Rattle.points.proofs.ValidLaws.{more_fitting, fitting_all, valid_rising}
use Rattle.points.specs.declared.AutomationPoint.{AutomationPoint}
use Rattle.points.specs.declared.Points.{Points}
use Rattle.points.specs.declared.refusal.Refusal.{Refusal}
use Rattle.points.specs.declared.refusal.Refusal.TheVariants.{NotValid, NotFinite, TooManyPoints}
use Rattle.settle.specs.Settle.{judged, settle}
use Rattle.settle.proofs.Fitting.{fitted_settles}
use Rattle.lookup.specs.Heard.{Heard}
use Rattle.combine.specs.Combine.{finite_operation, merge_times, times_of, valid_side, combined_point, combined_list, combined_points}
use Rattle.combine.specs.Walk.{next_time, past}
use Rattle.combine.specs.declared.Operation.{Operation}
use Rattle.combine.proofs.Combined.{combined_rises, side_points}
use Rattle.combine.proofs.Walking.{from, starts, from_zero, times, place_from, from_starts, from_next, past_from, merge_next, next_starts, next_after, next_shorter, next_none}

-- points that hold as much of a list as fits, if all does
fits_all : (made : Points) (l : List AutomationPoint) → made ≡ holding (fitting l) → cond (leb (length l) 256) (Ok made) (Err TooManyPoints) ≡ fitted l
fits_all made l h = let all = fitting_all l in grind arith

module _ (op : Operation) (a b : Heard) where
  abbrev f : Float → AutomationPoint
  f = combined_point op a b

  -- where it stands: both lists from a key on, and the points that the times before it gave
  pub record Walked (points others : List AutomationPoint) (made : Points) (fits : Bool) : Type 0 where
    pub key : ℕ
    pub done : List Float
    pub left : points ≡ from key (list_of a.points)
    pub right : others ≡ from key (list_of b.points)
    pub split : merge_times (times_of a) (times_of b) ≡ done ++ merge_times (times points) (times others)
    pub holds : made ≡ holding (fitting (map f done))
    pub fine : every finite_point (map f done) ≡ true
    pub room : fits ≡ leb (length (map f done)) 256

  pub begun : (points others : List AutomationPoint) (made : Points) → points ≡ list_of a.points → others ≡ list_of b.points → made ≡ holding [] → Walked points others made true
  begun points others made l r h =
      record {
        key = 0;
        done = [];
        left = l ∙ sym (from_zero _);
        right = r ∙ sym (from_zero _);
        split = λ i. merge_times (times (sym l i)) (times (sym r i));
        holds = h ∙ ap holding (sym (fitting_all [] (omega arith)));
        fine = refl;
        room = refl;
      }

  module _ (points others : List AutomationPoint) (made : Points) (fits : Bool) (w : Walked points others made fits) (va : valid_side a ≡ true) (vb : valid_side b ≡ true) where
    -- no more is left than there was
    pub left_few : length points ≤ length (list_of a.points)
    left_few = omega (arith, place_from w.key (list_of a.points), ap length w.left)

    pub right_few : length others ≤ length (list_of b.points)
    right_few = omega (arith, place_from w.key (list_of b.points), ap length w.right)

    count_is : made.count ≡ min 256 (length (map f w.done))
    unfolding fitting
    count_is = ap (λ (x : Points). x.count) w.holds ∙ length-take 256 (map f w.done)

    module _ (t : Float) (h : next_time points others ≡ Some t) where
      later : w.key ≤ order_key t
      later =
          next_after w.key points others t (ap (starts w.key) w.left ∙ from_starts w.key (list_of a.points)) (ap (starts w.key) w.right ∙ from_starts w.key (list_of b.points)) h

      -- both lists are those from its time on
      left_from : points ≡ from (order_key t) (list_of a.points)
      left_from =
          w.left ∙ from_next w.key (order_key t) (list_of a.points) later (ap (starts (order_key t)) (sym w.left) ∙ and_left (starts (order_key t) points) _ (next_starts points others t h))

      right_from : others ≡ from (order_key t) (list_of b.points)
      right_from =
          w.right ∙ from_next w.key (order_key t) (list_of b.points) later (ap (starts (order_key t)) (sym w.right) ∙ and_right (starts (order_key t) points) _ (next_starts points others t h))

      -- the places at which a search for its time ends
      pub left_place : (l : List AutomationPoint) → l ≡ list_of a.points → length l - length points ≡ place_by time_key (order_key t) (list_of a.points)
      left_place l e = omega (arith, place_from (order_key t) (list_of a.points), ap length left_from, ap length e)

      pub right_place : (m : List AutomationPoint) → m ≡ list_of b.points → length m - length others ≡ place_by time_key (order_key t) (list_of b.points)
      right_place m e = omega (arith, place_from (order_key t) (list_of b.points), ap length right_from, ap length e)

      pub turn : (p : AutomationPoint) (k : ℕ) (points' others' : List AutomationPoint) (made' : Points) → p ≡ f t → k ≡ time_key p → finite_point p ≡ true
          → points' ≡ past k points → others' ≡ past k others → made' ≡ with_more made p → Walked points' others' made' (fits && ltb made.count 256)
      turn p k points' others' made' e n g l r m =
          let mapped : map f (w.done ++ (t ∷ [])) ≡ map f w.done ++ (p ∷ []) = map-append f w.done (t ∷ []) ∙ ap (λ (q : AutomationPoint). map f w.done ++ (q ∷ [])) (sym e) in
          let same : k ≡ order_key t = n ∙ ap time_key e in
          let left : points' ≡ past (order_key t) points = l ∙ ap (λ (i : ℕ). past i points) same in
          let right : others' ≡ past (order_key t) others = r ∙ ap (λ (i : ℕ). past i others) same in
          record {
            key = order_key t + 1;
            done = w.done ++ (t ∷ []);
            left = left ∙ ap (past (order_key t)) left_from ∙ past_from (order_key t) (list_of a.points) (valid_rising a.points (side_points a va));
            right = right ∙ ap (past (order_key t)) right_from ∙ past_from (order_key t) (list_of b.points) (valid_rising b.points (side_points b vb));
            split =
                w.split ∙ ap (λ (l : List Float). w.done ++ l) (merge_next points others t h ∙ (λ i. t ∷ merge_times (times (sym left i)) (times (sym right i))))
                ∙ sym (append_assoc w.done (t ∷ []) _);
            holds = m ∙ ap (λ (x : Points). with_more x p) w.holds ∙ more_fitting (map f w.done) p ∙ ap (λ (l : List AutomationPoint). holding (fitting l)) (sym mapped);
            fine = ap (every finite_point) mapped ∙ every_append finite_point (map f w.done) (p ∷ []) ∙ and_both w.fine (every_one finite_point p ∙ g);
            room = (let n = count_is in let r = w.room in let l = ap length mapped ∙ length-append (map f w.done) (p ∷ []) in grind arith);
          }

      -- fewer are left
      pub shorter : (p : AutomationPoint) (k : ℕ) (points' others' : List AutomationPoint) → p ≡ f t → k ≡ time_key p → points' ≡ past k points → others' ≡ past k others
          → length points' + length others' < length points + length others
      shorter p k points' others' e n l r =
          let same : k ≡ order_key t = n ∙ ap time_key e in
          omega (arith, next_shorter points others t h, ap length (l ∙ ap (λ (i : ℕ). past i points) same), ap length (r ∙ ap (λ (i : ℕ). past i others) same))

      pub lost : (p : AutomationPoint) → p ≡ f t → finite_point p ≡ false → Err NotFinite ≡ settle (combined_list op a b)
      unfolding settle judged first_failing
      lost p e g =
          let rest = merge_times (times (past (order_key t) points)) (times (past (order_key t) others)) in
          let all : combined_list op a b ≡ map f w.done ++ (p ∷ map f rest) =
          ap (map f) (w.split ∙ ap (λ (l : List Float). w.done ++ l) (merge_next points others t h)) ∙ map-append f w.done (t ∷ rest)
          ∙ ap (λ (q : AutomationPoint). map f w.done ++ (q ∷ map f rest)) (sym e) in
          let none : every finite_point (combined_list op a b) ≡ false =
          ap (every finite_point) all ∙ every_append finite_point (map f w.done) (p ∷ map f rest) ∙ (rw g (and-false _)) in
          rw none

    -- where the times end
    pub ended : next_time points others ≡ None → cond fits (Ok made) (Err TooManyPoints) ≡ settle (combined_list op a b)
    ended h =
        let all : map f w.done ≡ combined_list op a b = ap (map f) (sym (w.split ∙ ap (λ (l : List Float). w.done ++ l) (next_none points others h) ∙ append-nil w.done)) in
        rw w.room (fits_all made (map f w.done) w.holds ∙ ap fitted all ∙ fitted_settles (combined_list op a b) (ap (every finite_point) (sym all) ∙ w.fine) (combined_rises op a b va vb))

-- ---- an edit that makes this list

-- what is heard of a valid side is the side
admitted : (a x : Heard) → Ok x ≡ cond {A = Result Heard Refusal} (valid_side a) (Ok a) (Err NotValid) → (valid_side a ≡ true) × (x ≡ a)
admitted a x h = go (valid_side a) h
  where
    go : (v : Bool) → Ok x ≡ cond {A = Result Heard Refusal} v (Ok a) (Err NotValid) → (v ≡ true) × (x ≡ a)
    go true h = (refl, cc)
    go false h = cc

pub combination : (op : Operation) (a b x y : Heard) → Ok x ≡ cond {A = Result Heard Refusal} (valid_side a) (Ok a) (Err NotValid)
    → Ok y ≡ cond {A = Result Heard Refusal} (valid_side b) (Ok b) (Err NotValid) → finite_operation op ≡ true → settle (combined_list op x y) ≡ combined_points op a b
unfolding settle combined_points
combination op a b x y h k g =
    let v = admitted a x h in
    let w = admitted b y k in
    rw (v.1, w.1, v.0, w.0, g)
