-- The times of two lists: exactly those of both, and rising where both rise. Assumes nothing.
use Prim.Native.Nat.{ℕ, ◌≤◌}
use mathlib.Core.Path.{◌≡◌, refl, sym, ap, ◌∙◌}
use mathlib.Core.Bool.{Bool, true, false, cond, ◌&&◌, ◌||◌}
use mathlib.Core.List.{List, [], ◌∷◌}
use native.Mathlib.Omega.{arith}
use lib.Dec.{ltb, eqb}
use lib.Ieee.{Float}
use borrow.Author.Tests.{ltb-false, eqb-true, eqb-false, lt-ltb}
use Rattle.numbers.proofs.Tests.{and_left, and_right, and_both}
use Rattle.numbers.specs.Order.{order_key}
use Rattle.points.specs.Points.{every, rising_by}
use Rattle.combine.specs.Combine.{merge_from, merge_times}

-- ---- which times they are

-- a time of that key is among them; no two numbers of f64 have the same key (`key_same`, OrderLaws of crate numbers)
unfoldable pub has : ℕ → List Float → Bool
has k [] = false
has k (t ∷ ts) = eqb (order_key t) k || has k ts

has_from : (k : ℕ) (a : Float) (xs : List Float) → ((zs : List Float) → has k (merge_times xs zs) ≡ (has k xs || has k zs))
    → (ys : List Float) → has k (merge_from a (merge_times xs) ys) ≡ (has k (a ∷ xs) || has k ys)
unfolding has merge_from
has_from k a xs rest [] = let none = rest [] in grind arith
has_from k a xs rest (b ∷ ys) =
    let less = rest (b ∷ ys) in
    let same = rest ys in
    let more = has_from k a xs rest ys in
    grind arith

-- a time is among them exactly where it is in either list
pub merged_has : (k : ℕ) (xs ys : List Float) → has k (merge_times xs ys) ≡ (has k xs || has k ys)
unfolding has merge_times
merged_has k [] ys = refl
merged_has k (a ∷ xs) ys = has_from k a xs (merged_has k xs) ys

-- ---- what holds of both lists holds of them

every_from : (q : Float → Bool) (a : Float) (xs : List Float) → q a ≡ true → ((zs : List Float) → every q zs ≡ true → every q (merge_times xs zs) ≡ true)
    → (ys : List Float) → every q ys ≡ true → every q (merge_from a (merge_times xs) ys) ≡ true
unfolding merge_from
every_from q a xs x rest [] h = and_both x (rest [] refl)
every_from q a xs x rest (b ∷ ys) h =
    let less = rest (b ∷ ys) h in
    let same = rest ys in
    let more = every_from q a xs x rest ys in
    grind arith

pub merged_every : (q : Float → Bool) (xs ys : List Float) → every q xs ≡ true → every q ys ≡ true → every q (merge_times xs ys) ≡ true
unfolding merge_times
merged_every q [] ys g h = h
merged_every q (a ∷ xs) ys g h = every_from q a xs (and_left (q a) (every q xs) g) (λ zs. merged_every q xs zs (and_right (q a) (every q xs) g)) ys h

-- ---- they rise

abbrev above : ℕ → List Float → Bool
above k [] = true
above k (t ∷ ts) = ltb k (order_key t)

rising_cons : (t : Float) (ts : List Float) → rising_by order_key (t ∷ ts) ≡ (above (order_key t) ts && rising_by order_key ts)
unfolding rising_by
rising_cons t [] = refl
rising_cons t (u ∷ ts) = refl

above_from : (k : ℕ) (a : Float) (rest : List Float → List Float) (ys : List Float) → ltb k (order_key a) ≡ true → above k ys ≡ true → above k (merge_from a rest ys) ≡ true
unfolding merge_from
above_from k a rest [] p q = p
above_from k a rest (b ∷ ys) p q = grind arith

above_merge : (k : ℕ) (xs ys : List Float) → above k xs ≡ true → above k ys ≡ true → above k (merge_times xs ys) ≡ true
unfolding merge_times
above_merge k [] ys p q = q
above_merge k (a ∷ xs) ys p q = above_from k a (merge_times xs) ys p q

-- a time, and a list above it that rises
rising_more : (t : Float) (ts : List Float) → above (order_key t) ts ≡ true → rising_by order_key ts ≡ true → rising_by order_key (t ∷ ts) ≡ true
rising_more t ts p q = rising_cons t ts ∙ and_both p q

rising_step : (a b : Float) (xs ys : List Float) (t u : Bool) → ltb (order_key a) (order_key b) ≡ t → eqb (order_key a) (order_key b) ≡ u → above (order_key a) xs ≡ true
    → above (order_key b) ys ≡ true
    → rising_by order_key (merge_times xs (b ∷ ys)) ≡ true → rising_by order_key (merge_times xs ys) ≡ true → rising_by order_key (merge_from a (merge_times xs) ys) ≡ true
    → rising_by order_key (cond t (a ∷ merge_times xs (b ∷ ys)) (cond u (a ∷ merge_times xs ys) (b ∷ merge_from a (merge_times xs) ys))) ≡ true
rising_step a b xs ys true u p q up over x y z = rising_more a (merge_times xs (b ∷ ys)) (above_merge (order_key a) xs (b ∷ ys) up p) x
rising_step a b xs ys false true p q up over x y z =
    rising_more a (merge_times xs ys) (above_merge (order_key a) xs ys up (ap (λ (k : ℕ). above k ys) (eqb-true (order_key a) (order_key b) q) ∙ over)) y
rising_step a b xs ys false false p q up over x y z =
    let l : order_key b ≤ order_key a = ltb-false (order_key a) (order_key b) p in
    let n : order_key a ≡ order_key b → ⊥ = eqb-false (order_key a) (order_key b) q in
    rising_more b (merge_from a (merge_times xs) ys) (above_from (order_key b) a (merge_times xs) ys (lt-ltb (order_key b) (order_key a) (omega arith)) over) z

rising_from : (a : Float) (xs : List Float) → above (order_key a) xs ≡ true → ((zs : List Float) → rising_by order_key zs ≡ true → rising_by order_key (merge_times xs zs) ≡ true)
    → (ys : List Float) → rising_by order_key ys ≡ true → rising_by order_key (merge_from a (merge_times xs) ys) ≡ true
unfolding merge_from
rising_from a xs up rest [] s = rising_more a (merge_times xs []) (above_merge (order_key a) xs [] up refl) (rest [] s)
rising_from a xs up rest (b ∷ ys) s =
    let w = sym (rising_cons b ys) ∙ s in
    let over = and_left (above (order_key b) ys) (rising_by order_key ys) w in
    let tail = and_right (above (order_key b) ys) (rising_by order_key ys) w in
    rising_step a b xs ys (ltb (order_key a) (order_key b)) (eqb (order_key a) (order_key b)) refl refl up over (rest (b ∷ ys) s) (rest ys tail) (rising_from a xs up rest ys tail)

-- the times of two lists that rise do too
pub merged_rising : (xs ys : List Float) → rising_by order_key xs ≡ true → rising_by order_key ys ≡ true → rising_by order_key (merge_times xs ys) ≡ true
unfolding merge_times
merged_rising [] ys r s = s
merged_rising (a ∷ xs) ys r s =
    let w = sym (rising_cons a xs) ∙ r in
    rising_from a xs (and_left (above (order_key a) xs) (rising_by order_key xs) w) (λ zs. merged_rising xs zs (and_right (above (order_key a) xs) (rising_by order_key xs) w)) ys s
