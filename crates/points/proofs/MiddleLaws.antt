-- The middle ones of three are those of each three neighbours. Assumes nothing.
use Prim.Native.Nat.{ℕ, zero, suc, ◌+◌, ◌-◌, ◌≤◌, ◌<◌}
use mathlib.Core.Path.{◌≡◌, refl, ap, ◌∙◌}
use mathlib.Core.Bool.{Bool, true, false, cond}
use mathlib.Core.List.{List, [], ◌∷◌, ◌++◌, append-nil}
use native.Mathlib.Numerals.{add-one}
use native.Mathlib.Nat.{le_of_suc-le-suc, not-suc-le-zero}
use native.Mathlib.Omega.{arith}
use lib.ListN.{length, take, get_or}
use Rattle.std.specs.Prelude.{Some, None}
use Rattle.std.specs.List.{filter_map, cons_option}
use Rattle.points.proofs.WindowLaws.{windows, windows_more}
use Rattle.points.specs.Middles.{middles, middle_if}

module _ {A : Type 0} where
  kept : (t : Bool) (x : A) (k ks : List A) → k ≡ ks → cons_option (cond t (Some x) None) k ≡ cond t (x ∷ ks) ks
  kept true x k ks e = ap (λ (l : List A). x ∷ l) e
  kept false x k ks e = e

  -- those of each three neighbours
  pub middles_windows : (q : A → A → A → Bool) (l : List A) → filter_map (middle_if q) (windows 3 l) ≡ middles q l
  unfolding middles
  middles_windows q [] = refl
  middles_windows q (a ∷ []) = refl
  middles_windows q (a ∷ (b ∷ [])) = refl
  middles_windows q (a ∷ (b ∷ (c ∷ l))) =
      rw (windows_more 3 (a ∷ (b ∷ (c ∷ l))) (omega arith) (omega arith)) (kept (q a b c) b _ _ (middles_windows q (b ∷ (c ∷ l))))
