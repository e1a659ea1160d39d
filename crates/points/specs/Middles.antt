-- The elements that stand between two others and pass a test of the three.
use Rattle.std.specs.Prelude.{Bool, cond, List, [], ◌∷◌, Option, Some, None}

-- what 01's "Peaks and valleys" are found by, 000's `windows(3)`: the middle one of each three in a row that pass the test
unfoldable pub middles : {A : Type 0} → (A → A → A → Bool) → List A → List A
middles q [] = []
middles q (a ∷ []) = []
middles q (a ∷ (b ∷ [])) = []
middles q (a ∷ (b ∷ (c ∷ l))) = cond (q a b c) (b ∷ middles q (b ∷ (c ∷ l))) (middles q (b ∷ (c ∷ l)))

-- the middle one of three, if they pass
abbrev pub middle_if : {A : Type 0} → (A → A → A → Bool) → List A → Option A
middle_if q [] = None
middle_if q (a ∷ []) = None
middle_if q (a ∷ (b ∷ [])) = None
middle_if q (a ∷ (b ∷ (c ∷ []))) = cond (q a b c) (Some b) None
middle_if q (a ∷ (b ∷ (c ∷ (d ∷ l)))) = None
