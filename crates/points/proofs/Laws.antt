-- Laws of lists and of the tests over them, for any element. Assumes nothing.
use Prim.Native.Nat.{ℕ, zero, suc, ◌+◌, ◌-◌, ◌≤◌, ◌<◌, min, max}
use mathlib.Core.Path.{◌≡◌, refl, sym, ap, ◌∙◌}
use mathlib.Core.Bool.{Bool, true, false, ◌&&◌, false≢true, and_assoc, and-true, and-false}
use mathlib.Core.List.{List, [], ◌∷◌, ◌++◌, map, foldl, reverse, reverse_aux, foldl-append, append_assoc}
use native.Mathlib.Numerals.{add-one}
use native.Mathlib.Nat.{le_of_suc-le-suc, not-suc-le-zero}
use native.Mathlib.Omega.{arith}
use lib.Dec.{ltb, leb}
use borrow.Author.Tests.{leb-true, leb-false}
use lib.ListN.{length, take, drop, get_or, length-drop, replicate, length-take, drop_of_length-le, set}
use lib.Seq.{take-suc, take_all, get_or-drop, get_or-take, set-append_seam}
use Rattle.numbers.proofs.Tests.{and_left, and_right, and_both}
use Rattle.points.specs.Points.{every, every_pair, rising_by}

module _ {A : Type 0} where
  -- ---- a test of each element

  pub every_append : (q : A → Bool) (xs ys : List A) → every q (xs ++ ys) ≡ (every q xs && every q ys)
  every_append q [] ys = refl
  every_append q (x ∷ xs) ys = rw (every_append q xs ys) (sym (and_assoc (q x) (every q xs) (every q ys)))

  pub every_one : (q : A → Bool) (x : A) → every q (x ∷ []) ≡ q x
  every_one q x = and-true (q x)

  -- what each passes, one passes
  pub every_at : (q : A → Bool) (l : List A) (j : ℕ) (d : A) → every q l ≡ true → j < length l → q (get_or l j d) ≡ true
  every_at q [] j d e h = absurd (not-suc-le-zero h)
  every_at q (x ∷ l) zero d e h = and_left (q x) _ e
  every_at q (x ∷ l) (suc j) d e h = every_at q l j d (and_right (q x) _ e) (le_of_suc-le-suc h)

  -- one, or what stands for a place past the end
  pub every_get_d : (q : A → Bool) (l : List A) (i : ℕ) (d : A) → q d ≡ true → every q l ≡ true → q (get_or l i d) ≡ true
  every_get_d q [] i d h t = h
  every_get_d q (x ∷ l) zero d h t = and_left (q x) (every q l) t
  every_get_d q (x ∷ l) (suc i) d h t = every_get_d q l i d h (and_right (q x) (every q l) t)

  pub every_take : (q : A → Bool) (n : ℕ) (l : List A) → every q l ≡ true → every q (take n l) ≡ true
  every_take q zero l t = refl
  every_take q (suc n) [] t = t
  every_take q (suc n) (x ∷ l) t = and_both (and_left (q x) (every q l) t) (every_take q n l (and_right (q x) (every q l) t))

  pub every_drop : (q : A → Bool) (n : ℕ) (l : List A) → every q l ≡ true → every q (drop n l) ≡ true
  every_drop q zero l t = t
  every_drop q (suc n) [] t = t
  every_drop q (suc n) (x ∷ l) t = every_drop q n l (and_right (q x) (every q l) t)

  every_onto : (q : A → Bool) (l r : List A) → every q l ≡ true → every q r ≡ true → every q (reverse_aux l r) ≡ true
  every_onto q [] r h k = k
  every_onto q (x ∷ l) r h k = every_onto q l (x ∷ r) (and_right (q x) (every q l) h) (and_both (and_left (q x) (every q l) h) k)

  pub every_reverse : (q : A → Bool) (l : List A) → every q l ≡ true → every q (reverse l) ≡ true
  every_reverse q l h = every_onto q l [] h refl

  pub every_replicate : (q : A → Bool) (n : ℕ) (x : A) → q x ≡ true → every q (replicate n x) ≡ true
  every_replicate q zero x h = refl
  every_replicate q (suc n) x h = and_both h (every_replicate q n x h)

  -- a list that grows by the elements of another
  pub every_fold : (q : A → Bool) (f : List A → A → List A) → ((l : List A) (x : A) → every q l ≡ true → q x ≡ true → every q (f l x) ≡ true)
      → (l new : List A) → every q l ≡ true → every q new ≡ true → every q (foldl f l new) ≡ true
  every_fold q f k l [] h g = h
  every_fold q f k l (x ∷ new) h g = every_fold q f k (f l x) new (k l x h (and_left (q x) (every q new) g)) (and_right (q x) (every q new) g)

  -- ---- keys that rise

  -- those of the first of two lists
  pub rising_front : (key : A → ℕ) (xs ys : List A) → rising_by key (xs ++ ys) ≡ true → rising_by key xs ≡ true
  unfolding rising_by
  rising_front key [] ys r = refl
  rising_front key (x ∷ []) ys r = refl
  rising_front key (x ∷ (y ∷ xs)) ys r =
      let first = ltb (key x) (key y) in
      and_both (and_left first (rising_by key (y ∷ (xs ++ ys))) r) (rising_front key (y ∷ xs) ys (and_right first (rising_by key (y ∷ (xs ++ ys))) r))

  -- ---- no more places than there are

  pub take_min : (n : ℕ) (l : List A) (k : ℕ) → length l ≡ k → take (min n k) l ≡ take n l
  take_min n l k h = go (leb n k) refl
    where
      go : (b : Bool) → leb n k ≡ b → take (min n k) l ≡ take n l
      go true e = let m : min n k ≡ n = omega (arith, leb-true n k e) in rw m
      go false e = take_all (min n k) l (omega (arith, leb-false n k e)) ∙ sym (take_all n l (omega (arith, leb-false n k e)))

  -- ---- a test of each pair

  -- lists of other lengths
  pub pair_length : (q : A → A → Bool) (l m : List A) → (length l ≡ length m → ⊥) → every_pair q l m ≡ false
  unfolding every_pair
  pair_length q [] [] h = absurd (h refl)
  pair_length q [] (y ∷ m) h = refl
  pair_length q (x ∷ l) [] h = refl
  pair_length q (x ∷ l) (y ∷ m) h = rw (pair_length q l m (λ e. h (ap suc e))) (and-false (q x y))

pub every_map : {A B : Type 0} (q : A → Bool) (r : B → Bool) (f : A → B) → ((x : A) → q x ≡ true → r (f x) ≡ true) → (l : List A) → every q l ≡ true
    → every r (map f l) ≡ true
every_map q r f k [] h = refl
every_map q r f k (x ∷ l) h = and_both (k x (and_left (q x) (every q l) h)) (every_map q r f k l (and_right (q x) (every q l) h))

-- the keys of what a function makes rise where its arguments' do by the two in a row
pub rising_map : {A B : Type 0} (f : A → B) (key : B → ℕ) (l : List A) → rising_by key (map f l) ≡ rising_by (λ (x : A). key (f x)) l
unfolding rising_by
rising_map f key [] = refl
rising_map f key (x ∷ []) = refl
rising_map f key (x ∷ (y ∷ l)) = ap (λ (b : Bool). ltb (key (f x)) (key (f y)) && b) (rising_map f key (y ∷ l))

-- a loop that builds a list in its places: the first of n that are left gets p
pub set_next : {A : Type 0} (l : List A) (u p : A) (n k : ℕ) → n ≡ suc k → set (l ++ replicate n u) (length l) p ≡ (l ++ (p ∷ [])) ++ replicate k u
set_next l u p n k h = rw h (set-append_seam l u (replicate k u) p ∙ sym (append_assoc l (p ∷ []) (replicate k u)))

-- a loop that folds: one more element
pub fold_more : {A B : Type 0} (g : B → A → B) (z : B) (l : List A) (i : ℕ) (d : A) → i < length l
    → foldl g z (take (i + 1) l) ≡ g (foldl g z (take i l)) (get_or l i d)
fold_more g z l i d h = rw (add-one, take-suc l i d h) (foldl-append g z (take i l) (get_or l i d ∷ []))
