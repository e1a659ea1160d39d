-- The place of a key: what stands before and at it, that it is the only such place where the keys rise, and that halving finds it. Assumes nothing.
use Prim.Native.Nat.{ℕ, zero, suc, ◌+◌, ◌-◌, ◌≤◌, ◌<◌, suc-le-suc}
use mathlib.Core.Path.{◌≡◌, refl, ap}
use mathlib.Core.Bool.{Bool, true, false, cond}
use mathlib.Core.List.{List, [], ◌∷◌}
use mathlib.Core.Logic.{⊎_elim}
use native.Mathlib.Nat.{le_of_suc-le-suc, not-suc-le-zero, lt_trans, eq-or-lt_of_le}
use native.Mathlib.Numerals.{add-one}
use native.Mathlib.Omega.{arith}
use lib.Dec.{ltb}
use lib.ListN.{length, get_or, take}
use lib.Seq.{get_or-take, length-take-le}
use borrow.Author.Tests.{ltb-true, ltb-false, lt-ltb, le-ltb}
use Rattle.numbers.proofs.Tests.{and_left, and_right}
use Rattle.points.specs.Points.{rising_by}
use Rattle.points.specs.Search.{place_by}

-- a binary search of the first n places, as its loop has it: the key before low is below k, and the one at high isn't; no order of the keys is asked
pub record Halving {A : Type 0} (key : A → ℕ) (d : A) (k : ℕ) (l : List A) (n low high : ℕ) : Type 0 where
  pub ordered : low ≤ high
  pub bounded : high ≤ n
  pub before : 0 < low → key (get_or l (low - 1) d) < k
  pub from : high < n → k ≤ key (get_or l high d)

-- d stands for what a place past the end would hold
module _ {A : Type 0} (key : A → ℕ) (d : A) where
  -- ---- of keys that rise, an earlier one is lower
  pub keys-rise : (l : List A) → rising_by key l ≡ true → (j m : ℕ) → j < m → m < length l → key (get_or l j d) < key (get_or l m d)
  unfolding rising_by
  keys-rise [] r j m h k = absurd (not-suc-le-zero k)
  keys-rise (x ∷ []) r j zero h k = absurd (not-suc-le-zero h)
  keys-rise (x ∷ []) r j (suc m) h k = absurd (not-suc-le-zero (le_of_suc-le-suc k))
  keys-rise (x ∷ (y ∷ l)) r j zero h k = absurd (not-suc-le-zero h)
  keys-rise (x ∷ (y ∷ l)) r zero (suc zero) h k = ltb-true (key x) (key y) (and_left (ltb (key x) (key y)) _ r)
  keys-rise (x ∷ (y ∷ l)) r zero (suc (suc m)) h k =
      lt_trans (ltb-true (key x) (key y) (and_left (ltb (key x) (key y)) _ r))
      (keys-rise (y ∷ l) (and_right (ltb (key x) (key y)) _ r) zero (suc m) (omega arith) (le_of_suc-le-suc k))
  keys-rise (x ∷ (y ∷ l)) r (suc j) (suc m) h k = keys-rise (y ∷ l) (and_right (ltb (key x) (key y)) _ r) j m (le_of_suc-le-suc h) (le_of_suc-le-suc k)

  -- ---- the place

  -- with only lower keys before it, and no lower key at it, it is the place
  pub place_is : (k : ℕ) (l : List A) (i : ℕ) → i ≤ length l → ((j : ℕ) → j < i → key (get_or l j d) < k) → (i < length l → k ≤ key (get_or l i d)) → place_by key k l ≡ i
  unfolding place_by
  place_is k [] zero h b a = refl
  place_is k [] (suc i) h b a = absurd (not-suc-le-zero h)
  place_is k (x ∷ l) zero h b a = rw (le-ltb (key x) k (a (omega arith)))
  place_is k (x ∷ l) (suc i) h b a =
      rw (lt-ltb (key x) k (b zero (omega arith)))
      (ap suc (place_is k l i (le_of_suc-le-suc h) (λ j s. b (suc j) (suc-le-suc s)) (λ s. a (suc-le-suc s))))

  -- before the place every key is lower
  pub place_before : (k : ℕ) (l : List A) (j : ℕ) → j < place_by key k l → key (get_or l j d) < k
  unfolding place_by
  place_before k [] j h = absurd (not-suc-le-zero h)
  place_before k (x ∷ l) j h = go (ltb (key x) k) refl (place_before k l) j h
    where
      go : (b : Bool) → ltb (key x) k ≡ b → ((m : ℕ) → m < place_by key k l → key (get_or l m d) < k) → (j : ℕ) → j < cond b (suc (place_by key k l)) 0 → key (get_or (x ∷ l) j d) < k
      go true e rest zero h = ltb-true (key x) k e
      go true e rest (suc j) h = rest j (le_of_suc-le-suc h)
      go false e rest j h = absurd (not-suc-le-zero h)

  -- and the key at it isn't
  pub place_from : (k : ℕ) (l : List A) → place_by key k l < length l → k ≤ key (get_or l (place_by key k l) d)
  unfolding place_by
  place_from k [] h = absurd (not-suc-le-zero h)
  place_from k (x ∷ l) h = go (ltb (key x) k) refl (place_from k l) h
    where
      go : (b : Bool) → ltb (key x) k ≡ b → (place_by key k l < length l → k ≤ key (get_or l (place_by key k l) d))
          → cond b (suc (place_by key k l)) 0 < length (x ∷ l) → k ≤ key (get_or (x ∷ l) (cond b (suc (place_by key k l)) 0) d)
      go true e rest h = rest (le_of_suc-le-suc h)
      go false e rest h = ltb-false (key x) k e

  pub place_bound : (k : ℕ) (l : List A) → place_by key k l ≤ length l
  unfolding place_by
  place_bound k [] = omega arith
  place_bound k (x ∷ l) = go (ltb (key x) k) (place_bound k l)
    where
      go : (b : Bool) → place_by key k l ≤ length l → cond b (suc (place_by key k l)) 0 ≤ length (x ∷ l)
      go true h = suc-le-suc h
      go false h = omega arith

  -- ---- the same of the first n places of an array

  pub key_take : (n : ℕ) (l : List A) (j : ℕ) → j < n → key (get_or (take n l) j d) ≡ key (get_or l j d)
  key_take n l j h = ap key (get_or-take n l j d h)

  pub rising_at : (l : List A) (n j m : ℕ) → rising_by key (take n l) ≡ true → n ≤ length l → j < m → m < n → key (get_or l j d) < key (get_or l m d)
  rising_at l n j m r f h k =
      let len : length (take n l) ≡ n = length-take-le n l f in
      omega (arith, keys-rise (take n l) r j m h (omega arith), key_take n l j (omega arith), key_take n l m k)

  -- a lower key in the middle: all up to it are lower
  pub lower_up_to : (l : List A) (n m k : ℕ) → rising_by key (take n l) ≡ true → n ≤ length l → m < n → key (get_or l m d) < k → (j : ℕ) → j < m + 1 → key (get_or l j d) < k
  lower_up_to l n m k r f h b j i =
      ⊎_elim
      (λ (e : j ≡ m). rw e b)
      (λ (s : j < m). omega (arith, rising_at l n j m r f s h))
      (eq-or-lt_of_le (le_of_suc-le-suc (rw add-one at i)))

  -- where the search ends
  pub place_at : (k : ℕ) (l : List A) (n i : ℕ) → n ≤ length l → i ≤ n → ((j : ℕ) → j < i → key (get_or l j d) < k) → (i < n → k ≤ key (get_or l i d))
      → place_by key k (take n l) ≡ i
  place_at k l n i f h b a =
      let len : length (take n l) ≡ n = length-take-le n l f in
      place_is k (take n l) i (omega arith)
      (λ j s. omega (arith, b j s, key_take n l j (omega arith)))
      (λ s. omega (arith, a (omega arith), key_take n l i (omega arith)))

  -- uniqueness: a key above the one before i, and not above the one at i, has its place at i
  pub place_between : (k : ℕ) (l : List A) (n i : ℕ) → rising_by key (take n l) ≡ true → n ≤ length l → 0 < i → i < n
      → key (get_or l (i - 1) d) < k → k ≤ key (get_or l i d) → place_by key k (take n l) ≡ i
  place_between k l n i r f p h b a =
      place_at k l n i f (omega arith) (λ j s. lower_up_to l n (i - 1) k r f (omega arith) b j (omega arith)) (λ s. a)

  -- ---- a binary search

  module _ (k : ℕ) (l : List A) (n : ℕ) where
    pub halving_start : Halving key d k l n 0 n
    halving_start = record { ordered = omega arith; bounded = omega arith; before = λ s. absurd (not-suc-le-zero s); from = λ s. absurd (omega arith) }

    -- a lower key in the middle: the search goes on after it
    pub halving_up : (low high mid : ℕ) → Halving key d k l n low high → mid < high → key (get_or l mid d) < k → Halving key d k l n (mid + 1) high
    halving_up low high mid s h b =
        let e : mid + 1 - 1 ≡ mid = omega arith in
        record { ordered = omega arith; bounded = s.bounded; before = λ w. rw e b; from = s.from }

    -- no lower key there: it goes on before it
    pub halving_down : (low high mid : ℕ) → Halving key d k l n low high → low ≤ mid → mid < high → k ≤ key (get_or l mid d) → Halving key d k l n low mid
    halving_down low high mid s h t a = record { ordered = h; bounded = omega (arith, s.bounded); before = s.before; from = λ w. a }

    -- where it ends in keys that rise is the place
    pub halving_place : (low high : ℕ) → Halving key d k l n low high → rising_by key (take n l) ≡ true → n ≤ length l → high ≤ low → place_by key k (take n l) ≡ low
    halving_place low high s r f h =
        let e : high ≡ low = omega (arith, s.ordered) in
        place_at k l n low f (omega (arith, s.bounded))
        (λ j t. lower_up_to l n (low - 1) k r f (omega (arith, s.bounded)) (s.before (omega arith)) j (omega arith))
        (rw e at s.from)
