-- Lists of points in range of their types: what each edit makes of them is so too. Assumes nothing.
use Prim.Native.Nat.{ℕ, ◌≤◌}
use mathlib.Core.Path.{◌≡◌, refl}
use mathlib.Core.Bool.{Bool, true, ◌&&◌}
use mathlib.Core.List.{List, [], ◌∷◌, map}
use native.Mathlib.Omega.{arith}
use lib.ListN.{length, length-append, length-replicate}
use lib.Ieee.{Float, Format, binary32, binary64, fits, add, sub, mul, of_bits}
use lib.Ieee.Bits.{is_true, of_bits-fits}
use lib.Ieee.Fits.{add-fits, sub-fits, mul-fits}
use Rattle.std.proofs.lemmas.Bool.Decides.{nat_tests}
use Rattle.curve.specs.Curve.{controls}
use Rattle.curve.specs.declared.CurveType.TheVariants.{Linear}
use Rattle.points.specs.Point.{unused}
use Rattle.points.specs.Points.{every, list_of, holding}
use Rattle.points.specs.Middles.{middles}
use Rattle.points.proofs.Laws.{every_append, every_map, every_fold, every_reverse, every_replicate, every_take, every_drop}
use Rattle.points.specs.declared.AutomationPoint.{AutomationPoint}
use Rattle.points.specs.declared.Points.{Points}
use Rattle.pointwise.specs.Each.{faded_in, faded_out, gated, compressed, changed}
use Rattle.pointwise.specs.declared.Change.{Change}
use Rattle.pointwise.specs.declared.Change.TheVariants.{Clamp}
use Rattle.insert.proofs.Inserting.{every_insert}
use Rattle.insert.specs.Insert.{insert_point, insert_all, merged}
use Rattle.shape.specs.Shape.{keep_if, remove_first, firsts}
use Rattle.envelope.specs.Typed.{typed_curve, typed_point, typed_points}

-- ---- lists that lack some elements of another

module _ {A : Type 0} (q : A → Bool) where
  pub keep_if-every : (t : A → Bool) (l : List A) → every q l ≡ true → every q (keep_if t l) ≡ true
  keep_if-every t [] h = refl
  keep_if-every t (x ∷ l) h = grind (arith, keep_if-every t l)

  pub remove_first-every : (t : A → Bool) (l : List A) → every q l ≡ true → every q (remove_first t l) ≡ true
  unfolding remove_first
  remove_first-every t [] h = refl
  remove_first-every t (x ∷ l) h = grind (arith, remove_first-every t l)

  pub middles_every : (t : A → A → A → Bool) (l : List A) → every q l ≡ true → every q (middles t l) ≡ true
  unfolding middles
  middles_every t [] h = refl
  middles_every t (x ∷ []) h = refl
  middles_every t (x ∷ (y ∷ [])) h = refl
  middles_every t (x ∷ (y ∷ (z ∷ l))) h = grind (arith, middles_every t (y ∷ (z ∷ l)))

-- ---- a number in range: the operations round to their format

pub sum_fits : (f : Format) (x y : Float) → fits f (add f x y) ≡ true
sum_fits f x y = is_true (fits f (add f x y)) (add-fits f x y)

pub difference_fits : (f : Format) (x y : Float) → fits f (sub f x y) ≡ true
difference_fits f x y = is_true (fits f (sub f x y)) (sub-fits f x y)

pub product_fits : (f : Format) (x y : Float) → fits f (mul f x y) ≡ true
product_fits f x y = is_true (fits f (mul f x y)) (mul-fits f x y)

pub bits_fit : (f : Format) (n : ℕ) → fits f (of_bits f n) ≡ true
bits_fit f n = is_true (fits f (of_bits f n)) (of_bits-fits f n)

pub ruleset rounded = (sum_fits, difference_fits, product_fits, bits_fit)

-- ---- a point in range

pub linear_typed : typed_curve Linear ≡ true
unfolding controls
linear_typed = grind (arith, rounded)

pub unused_typed : typed_point unused ≡ true
unused_typed = grind (arith, rounded, linear_typed)

-- ---- what each change makes of it: only a clamp's bounds come back as they are
abbrev pub clamp_fits : Change → Bool
clamp_fits (Clamp min max) = fits binary32 min && fits binary32 max
clamp_fits _ = true

changed_typed : (c : Change) (p : AutomationPoint) → clamp_fits c ≡ true → typed_point p ≡ true → typed_point (changed c p) ≡ true
unfolding faded_in faded_out gated compressed
changed_typed c p b t = grind (arith, rounded)

-- ---- the points of a list

-- every point is in range
abbrev pub TypedList : List AutomationPoint → Type 0
TypedList l = every typed_point l ≡ true

pub each : (c : Change) → clamp_fits c ≡ true → (l : List AutomationPoint) → TypedList l → TypedList (map (changed c) l)
each c b l h = every_map typed_point typed_point (changed c) (λ p t. changed_typed c p b t) l h

pub firsts_typed : (l : List AutomationPoint) → TypedList l → TypedList (firsts l)
unfolding firsts
firsts_typed [] h = refl
firsts_typed (p ∷ l) h = grind (arith, keep_if-every, firsts_typed l)

-- what the edits make of a list
pub ruleset typed_lists = (each, every_insert, keep_if-every, remove_first-every, firsts_typed, every_reverse, middles_every, every_append, every_drop)

pub insert_all-typed : (l new : List AutomationPoint) → TypedList l → TypedList new → TypedList (insert_all l new)
insert_all-typed l new h k = every_fold typed_point (λ made p. insert_point p made) (λ made p m t. every_insert p typed_point made m t) l new h k

pub merged_typed : (l other : List AutomationPoint) (offset : Float) → TypedList l → TypedList other → TypedList (merged l other offset)
merged_typed l other offset h k = grind (arith, insert_all-typed, each)

-- ---- the places

pub list_of_typed : (ps : Points) → typed_points ps ≡ true → TypedList (list_of ps)
list_of_typed ps t = grind (arith, every_take)

pub holding_typed : (l : List AutomationPoint) → length l ≤ 256 → TypedList l → typed_points (holding l) ≡ true
holding_typed l n h = grind (arith, nat_tests, every_append, every_replicate, unused_typed, length-append {A = AutomationPoint}, length-replicate {A = AutomationPoint})
