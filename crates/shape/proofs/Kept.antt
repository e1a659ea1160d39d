-- Laws of the edits that change which points there are: what the library's calls keep, in the words of specs/. Assumes nothing.
use Prim.Native.Nat.{ℕ, suc, ◌+◌, ◌-◌, ◌≤◌, ◌<◌}
use mathlib.Core.Path.{◌≡◌, refl, sym, ap, ◌∙◌}
use mathlib.Core.Bool.{Bool, true, false, cond, not}
use mathlib.Core.List.{List, [], ◌∷◌, ◌++◌, append-nil}
use native.Mathlib.Omega.{arith}
use lib.Dec.{eqb, ltb}
use lib.Ieee.{Float}
use lib.ListN.{length, take, drop, get_or}
use borrow.Author.Tests.{eqb-true, ltb-false}
use Rattle.std.specs.Prelude.{Some, None}
use Rattle.std.specs.List.{filter_map, cons_option, position, position_or_len, remove}
use Rattle.std.proofs.lemmas.Option.{none-some, same_Some}
use Rattle.std.proofs.lemmas.List.{take_all, drop_all}
use Rattle.points.specs.Middles.{middle_if}
use Rattle.points.specs.Points.{time_key}
use Rattle.points.proofs.WindowLaws.{windows, windows_more}
use Rattle.points.proofs.MiddleLaws.{middles_windows}
use Rattle.points.specs.declared.AutomationPoint.{AutomationPoint}
use Rattle.shape.specs.Neighbours.{later, differing_after, without_repeats}
use Rattle.shape.specs.Shape.{remove_first, differs, simplified}

-- ---- neighbours at the same time: the first stays

-- which point was kept last matters by its time alone
pub after_same : (p q : AutomationPoint) (l : List AutomationPoint) → time_key p ≡ time_key q → differing_after p l ≡ differing_after q l
unfolding differing_after
after_same p q [] e = refl
after_same p q (r ∷ l) e = λ i. cond (eqb (e i) (time_key r)) (after_same p q l e i) (r ∷ differing_after r l)

kept_later : (b : Bool) (p q : AutomationPoint) (l k : List AutomationPoint) → eqb (time_key p) (time_key q) ≡ b → k ≡ differing_after q l
    → cons_option (cond b None (Some q)) k ≡ cond b (differing_after p l) (q ∷ differing_after q l)
kept_later true p q l k e h = h ∙ sym (after_same p q l (eqb-true (time_key p) (time_key q) e))
kept_later false p q l k e h = ap (λ (m : List AutomationPoint). q ∷ m) h

later_windows : (p : AutomationPoint) (l : List AutomationPoint) → filter_map later (windows 2 (p ∷ l)) ≡ differing_after p l
unfolding differing_after
later_windows p [] = refl
later_windows p (q ∷ l) =
    rw (windows_more 2 (p ∷ (q ∷ l)) (omega arith) (omega arith)) (kept_later (eqb (time_key p) (time_key q)) p q l _ refl (later_windows q l))

-- the first, and of each two neighbours the second that has a time of its own
pub repeats_windows : (l : List AutomationPoint) → take 1 l ++ filter_map later (windows 2 l) ≡ without_repeats l
unfolding without_repeats
repeats_windows [] = refl
repeats_windows (p ∷ l) = ap (λ (m : List AutomationPoint). p ∷ m) (later_windows p l)

-- ---- all but the first that passes a test

module _ {A : Type 0} (q : A → Bool) where
  remove_cons : (b : Bool) (x : A) (l k : List A) (n : ℕ) → k ≡ remove l n → cond b l (x ∷ k) ≡ remove (x ∷ l) (cond (not b) (1 + n) 0)
  remove_cons true x l k n e = refl
  remove_cons false x l k n e = let s : 1 + n ≡ suc n = omega arith in rw s (ap (λ (m : List A). x ∷ m) e)

  removes : (l : List A) → remove_first q l ≡ remove l (position_or_len q l)
  unfolding remove_first
  removes [] = refl
  removes (x ∷ l) = remove_cons (q x) x l _ (position_or_len q l) (removes l)

  -- where one does
  pub remove_at : (l : List A) (i : ℕ) → position q l ≡ Some i → remove_first q l ≡ remove l i
  remove_at l i h = go (ltb (position_or_len q l) (length l)) h
    where
      go : (b : Bool) → cond b (Some (position_or_len q l)) None ≡ Some i → remove_first q l ≡ remove l i
      go true e = removes l ∙ ap (remove l) (same_Some (position_or_len q l) i e)
      go false e = absurd (none-some i e)

  -- where none does
  pub remove_none : (l : List A) → position q l ≡ None → remove_first q l ≡ l
  remove_none l h = go (ltb (position_or_len q l) (length l)) refl h
    where
      go : (b : Bool) → ltb (position_or_len q l) (length l) ≡ b → cond b (Some (position_or_len q l)) None ≡ None → remove_first q l ≡ l
      go true e k = absurd (none-some (position_or_len q l) (sym k))
      go false e k =
          let many : length l ≤ position_or_len q l = ltb-false (position_or_len q l) (length l) e in
          removes l ∙ rw (take_all (position_or_len q l) l many, drop_all (suc (position_or_len q l)) l (omega arith)) (append-nil l)

-- ---- the points that differ from what their neighbours would give

last_is : {A : Type 0} (p : A) (l : List A) (d : A) → drop (length l) (p ∷ l) ≡ get_or (p ∷ l) (length l) d ∷ []
last_is p [] d = refl
last_is p (q ∷ l) d = last_is q l d

-- the first, each inner one of three that differs, and the last
pub simplified_windows : (t : Float) (l : List AutomationPoint) (d : AutomationPoint) → 2 ≤ length l
    → (get_or l 0 d ∷ []) ++ filter_map (middle_if (differs t)) (windows 3 l) ++ (get_or l (length l - 1) d ∷ []) ≡ simplified t l
simplified_windows t [] d h = absurd (omega arith)
simplified_windows t (p ∷ []) d h = absurd (omega arith)
simplified_windows t (p ∷ (q ∷ l)) d h =
    let e : suc (suc (length l)) - 1 ≡ suc (length l) = omega arith in
    rw (e, middles_windows (differs t) (p ∷ (q ∷ l)), last_is q l d) refl
