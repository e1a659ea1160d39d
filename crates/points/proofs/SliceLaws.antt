-- What the library's tests of a slice tell, in the words of specs/. Assumes nothing.
use Prim.Native.Nat.{ℕ, zero, suc, ◌<◌, ◌≤◌}
use mathlib.Core.Path.{◌≡◌, refl, sym, ap, subst, ◌∙◌}
use mathlib.Core.Bool.{Bool, true, false, ◌&&◌, and-false, false≢true}
use mathlib.Core.List.{List, [], ◌∷◌, map}
use mathlib.Core.Logic.{◌⊎◌, inl, inr}
use native.Mathlib.Nat.{le_of_suc-le-suc, not-suc-le-zero, lt_trans, eq-or-lt_of_le}
use native.Mathlib.Numerals.{add-one}
use native.Mathlib.Omega.{arith}
use lib.Dec.{ltb}
use lib.ListN.{length, get_or, take, drop, take-append-drop}
use borrow.Author.Tests.{ltb-true, ltb-false, lt-ltb}
use denote.Ref.{Bor}
use Rattle.std.specs.Fn.{Mut, Called, ComputesKey, ComputesOnPairs}
use Rattle.std.specs.Bool.{MatchBool, OnTrue, IsTrue}
use Rattle.std.specs.Prelude.{None, Option}
use Rattle.std.specs.Iterator.Runs.{SomeRun, YieldsRun}
use Rattle.std.specs.Iterator.Order.{ActsAsAtTwo, IsSortedAnswer}
use Rattle.std.proofs.lemmas.Iterator.{YieldsList}
use Rattle.std.proofs.lemmas.Iterator.Consumers.{YieldsList-so_far, YieldsList-end}
use Rattle.std.specs.List.{IsAllAdjacentAnswer, AllWithin, HoldsAt, list_all, zip}
use Rattle.std.specs.List.Sorted.{IsPartitionedBy, IsPartitionPoint}
use Rattle.std.proofs.lemmas.List.Sorted.{answers_always, IsPartitionPoint-from_clause}
use Rattle.numbers.proofs.Tests.{and_both}
use Rattle.points.specs.Points.{rising_by, every_pair}
use Rattle.points.specs.Search.{place_by}
use Rattle.points.proofs.SearchLaws.{keys-rise, place_is}
use Rattle.points.proofs.Laws.{rising_front, rising_map}

module _ {A : Type 0} (key : A → ℕ) where
  -- the place k's key is below the next one's
  abbrev Below : List A → ℕ → A → Bool
  Below l k d = ltb (key (get_or l k d)) (key (get_or l (suc k) d))

  -- below at each place, and so everywhere
  rises : (l : List A) → ((k : ℕ) (d : A) → suc k < length l → Below l k d ≡ true) → rising_by key l ≡ true
  unfolding rising_by
  rises [] f = refl
  rises (x ∷ []) f = refl
  rises (x ∷ (y ∷ l)) f = and_both (f 0 x (omega arith)) (rises (y ∷ l) (λ k d b. f (suc k) d (omega arith)))

  -- not below at one place
  falls : (l : List A) (k : ℕ) → suc k < length l → ((d : A) → Below l k d ≡ false) → rising_by key l ≡ false
  unfolding rising_by
  falls [] k b e = absurd (not-suc-le-zero b)
  falls (x ∷ []) k b e = absurd (not-suc-le-zero (le_of_suc-le-suc b))
  falls (x ∷ (y ∷ l)) zero b e = rw (e x) refl
  falls (x ∷ (y ∷ l)) (suc k) b e = rw (falls (y ∷ l) k (le_of_suc-le-suc b) e) (and-false _)

  sorted_rises : (l : List A) (r : Bool) → IsAllAdjacentAnswer (λ x y b. b ≡ ltb (key x) (key y)) l r → r ≡ rising_by key l
  sorted_rises l true h = sym (rises l (λ k d b. sym (subst (λ (n : ℕ). true ≡ ltb (key (get_or l k d)) (key (get_or l n d))) (add-one k) (h k d (omega (arith, b))))))
  sorted_rises l false (k, b, e) = sym (falls l k (omega (arith, b)) (λ d. sym (subst (λ (n : ℕ). false ≡ ltb (key (get_or l k d)) (key (get_or l n d))) (add-one k) (e d))))

  -- `is_sorted_by`, whose closure answers whether a key is below another
  pub rises_by : {F : Type 0} (g : Mut F (Bor A × (Bor A × Unit {0})) Bool) (f : F) (l : List A) (r : Bool)
      → ((e : A → A → Bool) → ComputesOnPairs g e f → IsAllAdjacentAnswer (λ x y b. b ≡ e x y) l r)
      → ((f : F) (a : Bor A × (Bor A × Unit {0})) (r : Bool) (f' : F) → Called g f a r f' → r ≡ ltb (key a.0.now) (key a.1.0.now))
      → r ≡ rising_by key l
  rises_by g f l r cases k = sorted_rises l r (cases (λ (x y : A). ltb (key x) (key y)) (answers_always g _ f k))

module _ {A : Type 0} (q : A → A → Bool) where
  -- as many, and each pair passes: `all` over a `zip`
  pub pairs_all : (l m : List A) → length l ≡ length m → list_all (λ (p : A × A). q p.0 p.1) (zip l m) ≡ every_pair q l m
  unfolding every_pair
  pairs_all [] [] h = refl
  pairs_all [] (y ∷ m) h = absurd (omega (arith, h))
  pairs_all (x ∷ l) [] h = absurd (omega (arith, h))
  pairs_all (x ∷ l) (y ∷ m) h = ap (λ (b : Bool). q x y && b) (pairs_all l m (omega (arith, h)))

  -- not as many
  pub pairs_uneven : (l m : List A) → (length l ≡ length m → ⊥) → every_pair q l m ≡ false
  unfolding every_pair
  pairs_uneven [] [] h = absurd (h refl)
  pairs_uneven [] (y ∷ m) h = refl
  pairs_uneven (x ∷ l) [] h = refl
  pairs_uneven (x ∷ l) (y ∷ m) h = rw (pairs_uneven l m (λ e. h (ap suc e))) (and-false _)

-- `all`: each element passes, or one doesn't
module _ {A : Type 0} (test : A → Bool) where
  passes : (xs : List A) → AllWithin (λ x. test x ≡ true) xs 0 (length xs) → list_all test xs ≡ true
  passes [] f = refl
  passes (x ∷ xs) f = and_both (f 0 x (omega arith) (omega arith)) (passes xs (λ k d a b. f (suc k) d (omega arith) (omega arith)))

  fails : (xs : List A) (k : ℕ) → k < length xs → HoldsAt (λ x. test x ≡ false) xs k → list_all test xs ≡ false
  fails [] k b h = absurd (not-suc-le-zero b)
  fails (x ∷ xs) zero b h = rw (h x) refl
  fails (x ∷ xs) (suc k) b h = rw (fails xs k (le_of_suc-le-suc b) h) (and-false _)

  pub all_is : (xs : List A) (r : Bool) → MatchBool r (AllWithin (λ x. test x ≡ true) xs 0 (length xs)) ((k : ℕ) × (k < length xs) × HoldsAt (λ x. test x ≡ false) xs k)
      → r ≡ list_all test xs
  all_is xs true h = sym (passes xs h)
  all_is xs false (k, b, h) = sym (fails xs k b h)

-- `partition_point`, whose closure answers whether a key is below k: where the keys rise, it is where the search for k ends
module _ {A : Type 0} (key : A → ℕ) where
  parted : (k : ℕ) (l : List A) → rising_by key l ≡ true → IsPartitionedBy (λ x. ltb (key x) k) l
  parted k l r i j d h b t = go (eq-or-lt_of_le h)
    where
      go : (i ≡ j) ⊎ (i < j) → ltb (key (get_or l i d)) k ≡ true
      go (inl e) = rw e t
      go (inr s) = lt-ltb _ k (lt_trans (keys-rise key d l r i j s b) (ltb-true _ k t))

  parted_place : (k : ℕ) (l : List A) (i : ℕ) → i ≤ length l → IsPartitionPoint (λ x. ltb (key x) k ≡ true) (λ x. ltb (key x) k ≡ false) l i → i ≡ place_by key k l
  unfolding place_by
  parted_place k [] i h p = omega arith
  parted_place k (x ∷ l) i h p =
      sym
      (place_is key x k (x ∷ l) i h (λ j s. ltb-true (key (get_or (x ∷ l) j x)) k (p.0 j x (omega arith) s))
      (λ s. ltb-false (key (get_or (x ∷ l) i x)) k (p.1 i x (omega arith) s)))

  pub point_is_place : {F : Type 0} {g : Mut F (Bor A × Unit {0}) Bool} {f : F} (k : ℕ) (l : List A) (i : ℕ) → i ≤ length l
      → ((q : A → Bool) → ComputesKey g q f → IsPartitionedBy q l → IsPartitionPoint (λ x. q x ≡ true) (λ x. q x ≡ false) l i)
      → rising_by key l ≡ true
      → ((a : Bor A × Unit {0}) (b : Bool) (f' : F) → Called g f a b f' → (b ≡ ltb (key a.0.now) k) × (f' ≡ f))
      → i ≡ place_by key k l
  point_is_place k l i h clause r c = parted_place k l i h (IsPartitionPoint-from_clause (λ (x : A). ltb (key x) k) l i clause (parted k l r) c)

-- the key of a key
abbrev itself : ℕ → ℕ
itself k = k

adjacent : (l : List ℕ) (r : Bool) → IsAllAdjacentAnswer (λ x y b. ltb x y ≡ b) l r → r ≡ rising_by itself l
adjacent l true h = sorted_rises itself l true (λ k d b. sym (h k d b))
adjacent l false (k, b, e) = sorted_rises itself l false (k, b, λ d. sym (e d))

-- where the first of them don't rise, they don't
front_falls : (n : ℕ) (l : List ℕ) → rising_by itself (take n l) ≡ false → rising_by itself l ≡ false
front_falls n l h = go (rising_by itself l) refl
  where
    go : (b : Bool) → rising_by itself l ≡ b → rising_by itself l ≡ false
    go true e = absurd (false≢true (sym h ∙ rising_front itself (take n l) (drop n l) (ap (rising_by itself) (take-append-drop n l) ∙ e)))
    go false e = e

-- `is_sorted_by` of an iterator that gives each element's key, by "below the next": it asks for each key once
module _ {A S F : Type 0} (key : A → ℕ) (l : List A) {steps : S → Option ℕ → S → Type 0} {s : S} (g : Mut F (Bor ℕ × (Bor ℕ × Unit {0})) Bool) (f : F)
    (gives : YieldsList steps (λ x. x) s (map key l)) where
  pub keys_rise : (r : Bool) → SomeRun steps s (λ p. OnTrue r (IsTrue p.whole) × ((h : ℕ → ℕ → Bool) → ActsAsAtTwo g f h → IsSortedAnswer h p.items r))
      → ActsAsAtTwo g f ltb → r ≡ rising_by key l
  unfolding YieldsRun
  keys_rise r (p, e, n) k =
      let t = p.gave.0.0 in
      let y = rw e at p.gave.0.1 in
      let front : map (λ x. x) p.items ≡ take (length p.items) (map key l) = YieldsList-so_far gives p.items t y in
      let same : rising_by itself p.items ≡ rising_by itself (map (λ x. x) p.items) = sym (rising_map (λ x. x) itself p.items) in
      go r n.0 (adjacent p.items r (n.1 ltb k).0 ∙ same) front
    where
      go : (r : Bool) → OnTrue r (IsTrue p.whole) → r ≡ rising_by itself (map (λ x. x) p.items) → map (λ x. x) p.items ≡ take (length p.items) (map key l) → r ≡ rising_by key l
      go true w h q =
          let u = p.gave.0.2 w in
          h ∙ ap (rising_by itself) (YieldsList-end gives p.items p.gave.0.0 (rw e at p.gave.0.1) None u.0 refl u.1).0 ∙ rising_map key itself l
      go false w h q = sym (front_falls (length p.items) (map key l) (sym (h ∙ ap (rising_by itself) q))) ∙ rising_map key itself l
