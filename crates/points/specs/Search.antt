-- The place that a search by a key ends at, for any element and any key.
use Rattle.std.specs.Prelude.{ℕ, suc, cond, List, [], ◌∷◌, ltb}

-- where 01's "search" for a key k ends: after the elements at the start whose key is below k
unfoldable pub place_by : {A : Type 0} → (A → ℕ) → ℕ → List A → ℕ
place_by key k [] = 0
place_by key k (x ∷ l) = cond (ltb (key x) k) (suc (place_by key k l)) 0
