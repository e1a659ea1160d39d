-- Laws of the points' keys in a list of their own, and of the search over it. Assumes nothing.
use Prim.Native.Nat.{ℕ, suc, ◌+◌, ◌-◌, ◌≤◌, ◌<◌, min}
use mathlib.Core.Path.{◌≡◌, refl, sym, ap, subst, ◌∙◌}
use mathlib.Core.Bool.{true, cond}
use mathlib.Core.List.{List, [], ◌∷◌, ◌++◌, map, map-append}
use native.Mathlib.Numerals.{add-one}
use native.Mathlib.Omega.{arith}
use lib.Dec.{ltb}
use lib.ListN.{length, take, get_or, set, replicate, length-take, length-map}
use lib.Seq.{take-suc, take_at, take_all, set_at, append_snoc, length-take-le}
use Rattle.points.proofs.Laws.{rising_map}
use Rattle.points.specs.Points.{rising_by}
use Rattle.points.specs.Search.{place_by}
use Rattle.points.proofs.SearchLaws.{Halving, halving_place, place_between}
use Rattle.lookup.specs.Keys.{EndsAt}

-- the key of a number in a list of keys
abbrev pub itself : ℕ → ℕ
itself k = k

-- ---- a search by halving over the keys

-- where it ends, whatever the order of the keys
pub halving_end : (keys : List ℕ) (n k low high : ℕ) → Halving itself 0 k keys n low high → high ≤ low → EndsAt keys n k low
halving_end keys n k low high s h =
    let e : high ≡ low = omega (arith, s.ordered) in
    record { most = omega (arith, s.bounded); before = s.before; from = rw e at s.from }

-- and in keys that rise
ends_place : (keys : List ℕ) (n k r : ℕ) → rising_by itself (take n keys) ≡ true → n ≤ length keys → EndsAt keys n k r → place_by itself k (take n keys) ≡ r
ends_place keys n k r i f s = halving_place itself 0 k keys n r r (record { ordered = omega arith; bounded = s.most; before = s.before; from = s.from }) i f (omega arith)

module _ {A : Type 0} (key : A → ℕ) where
  -- the keys of the first i, and 0 in the rest of 256 places
  abbrev pub KeysFilled : List A → ℕ → List ℕ → Type 0
  KeysFilled l i keys = keys ≡ map key (take i l) ++ replicate (256 - i) 0

  keys_long : (l : List A) (i : ℕ) → i ≤ length l → length (map key (take i l)) ≡ i
  keys_long l i h = length-map (take i l) key ∙ length-take-le i l h

  -- a turn of the loop that writes them
  pub keys_turn : (l : List A) (keys : List ℕ) (i : ℕ) (d : A) (k : ℕ) → i < length l → i < 256 → KeysFilled l i keys → k ≡ key (get_or l i d) → KeysFilled l (i + 1) (set keys i k)
  keys_turn l keys i d k h g e w =
      let rest : List ℕ = replicate (256 - suc i) 0 in
      let one : 256 - i ≡ suc (256 - suc i) = omega arith in
      rw add-one
      (ap (λ (r : List ℕ). set r i k) (e ∙ ap (λ (n : ℕ). map key (take i l) ++ replicate n 0) one)
      ∙ set_at (map key (take i l)) 0 rest k i (keys_long l i (omega arith))
      ∙ ap (λ (m : ℕ). map key (take i l) ++ (m ∷ rest)) w
      ∙ sym (append_snoc (map key (take i l)) (key (get_or l i d)) rest)
      ∙ ap (λ (r : List ℕ). r ++ rest) (sym (map-append key (take i l) (get_or l i d ∷ [])) ∙ ap (map key) (sym (take-suc l i d h))))

  -- a search over them ends where one over the points does
  place_keys : (k : ℕ) (l : List A) → place_by itself k (map key l) ≡ place_by key k l
  unfolding place_by
  place_keys k [] = refl
  place_keys k (x ∷ l) = ap (λ (n : ℕ). cond (ltb (key x) k) (suc n) 0) (place_keys k l)

  -- the first n of an array are the keys of the first n places, which rise: where a search for q, which is k, ends is k's place
  pub keys_place : (l : List A) (keys : List ℕ) (n : ℕ) → n ≤ length l → n ≤ 256 → KeysFilled l n keys → rising_by key (take n l) ≡ true
      → (k q j : ℕ) → q ≡ k → EndsAt keys (min n 256) q j → place_by key k (take n l) ≡ j
  keys_place l keys n f b filled r k q j w s =
      let m : min n 256 ≡ n = omega arith in
      let e : take n keys ≡ map key (take n l) = ap (take n) filled ∙ take_at (map key (take n l)) (replicate (256 - n) 0) n (keys_long l n f) in
      let long : n ≤ length keys = omega (arith, sym (length-take n keys) ∙ ap length e ∙ keys_long l n f) in
      let t : EndsAt keys n q j = subst (λ (x : ℕ). EndsAt keys x q j) m s in
      ap (λ (x : ℕ). place_by key x (take n l)) (sym w)
      ∙ sym (place_keys q (take n l))
      ∙ ap (place_by itself q) (sym e)
      ∙ ends_place keys n q j (ap (rising_by itself) e ∙ rising_map key itself (take n l) ∙ r) long t

  -- of points whose keys rise, a search over their keys ends at the place
  pub ends_where : (k : ℕ) (l : List A) (r : ℕ) → EndsAt (map key l) (length l) k r → rising_by key l ≡ true → r ≡ place_by key k l
  ends_where k l r e rise =
      let long : length (map key l) ≡ length l = length-map l key in
      let t : take (length l) (map key l) ≡ map key l = take_all (length l) (map key l) (omega (arith, long)) in
      sym
      (sym (place_keys k l)
      ∙ ap (place_by itself k) (sym t)
      ∙ ends_place (map key l) (length l) k r (ap (rising_by itself) t ∙ rising_map key itself l ∙ rise) (omega (arith, long)) e)

  -- and so does one over an array that has them
  pub by_keys : (l : List A) (keys : List ℕ) → length l ≤ 256 → keys ≡ map key (take 256 l) ++ replicate (256 - length l) 0 → rising_by key l ≡ true
      → (k j : ℕ) → EndsAt keys (min (length l) 256) k j → j ≡ place_by key k l
  by_keys l keys b e r k j s =
      let all : take 256 l ≡ l = take_all 256 l b in
      let own : take (length l) l ≡ l = take_all (length l) l (omega arith) in
      let filled : KeysFilled l (length l) keys = e ∙ ap (λ (m : List A). map key m ++ replicate (256 - length l) 0) (all ∙ sym own) in
      sym (keys_place l keys (length l) (omega arith) b filled (ap (rising_by key) own ∙ r) k k j refl s) ∙ ap (place_by key k) own

  -- a place between two points, the one before below k and the one at it not
  pub between_is : (k : ℕ) (l : List A) (i : ℕ) (p q : A) → rising_by key l ≡ true → 0 < i → i < length l → p ≡ get_or l (i - 1) p → q ≡ get_or l i p
      → key p < k → k ≤ key q → i ≡ place_by key k l
  between_is k l i p q r a b e f g h =
      let own : take (length l) l ≡ l = take_all (length l) l (omega arith) in
      let before : key (get_or l (i - 1) p) < k = omega (arith, ap key e, g) in
      let from : k ≤ key (get_or l i p) = omega (arith, ap key f, h) in
      sym (place_between key p k l (length l) i (ap (rising_by key) own ∙ r) (omega arith) a b before from) ∙ ap (place_by key k) own
