-- A run of values: how long it is, cut in two, and as a loop writes it, place by place. Assumes nothing.
use Prim.Native.Nat.{ℕ, zero, suc, ◌+◌, ◌-◌, ◌≤◌, ◌<◌, suc-le-suc, zero-le}
use mathlib.Core.Path.{◌≡◌, refl, sym, ap, ap₂, ◌∙◌}
use mathlib.Core.List.{List, [], ◌∷◌, ◌++◌}
use mathlib.Core.Logic.{◌⊎◌, inl, inr}
use Rattle.std.proofs.Common.{get_or-set_same, get_or-set_other}
use native.Mathlib.Numerals.{add-one}
use native.Mathlib.Nat.{add-suc, suc-add, add-zero, zero-add, le_of_suc-le-suc, not-suc-le-zero, eq-or-lt_of_le}
use native.Mathlib.Omega.{arith}
use lib.ListN.{length, get_or, take, drop, set, replicate, length-drop}
use lib.Seq.{length-take-le}
use Rattle.lookup.specs.Runs.{run}

module _ {A : Type 0} (f : ℕ → A) where
  pub run_long : (a n : ℕ) → length (run f a n) ≡ n
  unfolding run
  run_long a zero = refl
  run_long a (suc n) = ap suc (run_long (suc a) n)

  -- a run in two parts
  pub run_cut : (a n m : ℕ) → run f a (n + m) ≡ run f a n ++ run f (a + n) m
  unfolding run
  run_cut a zero m = ap₂ (run f) (sym (add-zero a)) (zero-add m)
  run_cut a (suc n) m =
      ap (run f a) (suc-add n m)
      ∙ ap (λ (l : List A). f a ∷ l) (run_cut (suc a) n m ∙ ap (λ (k : ℕ). run f (suc a) n ++ run f k m) (suc-add a n ∙ sym (add-suc a n)))

  -- each value at its place
  pub run_at : (a n i : ℕ) (rest : List A) (d : A) → i < n → get_or (run f a n ++ rest) i d ≡ f (a + i)
  unfolding run
  run_at a zero i rest d h = absurd (not-suc-le-zero h)
  run_at a (suc n) zero rest d h = ap f (sym (add-zero a))
  run_at a (suc n) (suc i) rest d h = run_at (suc a) n i rest d (le_of_suc-le-suc h) ∙ ap f (suc-add a i ∙ sym (add-suc a i))

  pub run_one : (a : ℕ) → run f a 1 ≡ f a ∷ []
  unfolding run
  run_one a = refl

  -- a list with each value at its place is the run
  pub run_places : (a : ℕ) (l : List A) → ((k : ℕ) (d : A) → k < length l → get_or l k d ≡ f (a + k)) → l ≡ run f a (length l)
  unfolding run
  run_places a [] h = refl
  run_places a (x ∷ l) h =
      ap₂ (λ (y : A) (m : List A). y ∷ m)
      (h zero x (suc-le-suc zero-le) ∙ ap f (add-zero a))
      (run_places (suc a) l (λ k d s. h (suc k) d (suc-le-suc s) ∙ ap f (add-suc a k ∙ sym (suc-add a k))))

  -- as a loop writes them: one more
  pub place_next : (a : ℕ) (l : List A) (i : ℕ) (x : A) → i < length l → x ≡ f (a + i) → ((k : ℕ) (d : A) → k < i → get_or l k d ≡ f (a + k))
      → (k : ℕ) (d : A) → k < i + 1 → get_or (set l i x) k d ≡ f (a + k)
  place_next a l i x h e written k d s = go (eq-or-lt_of_le (le_of_suc-le-suc (rw add-one at s)))
    where
      go : (k ≡ i) ⊎ (k < i) → get_or (set l i x) k d ≡ f (a + k)
      go (inl q) = rw q (get_or-set_same l i x d h ∙ e)
      go (inr q) = get_or-set_other l i k x d (λ m. omega arith) ∙ written k d q

  -- the same value everywhere
  pub run_everywhere : (v : A) → ((k : ℕ) → f k ≡ v) → (a n : ℕ) → run f a n ≡ replicate n v
  unfolding run
  run_everywhere v h a zero = refl
  run_everywhere v h a (suc n) = ap₂ (λ (y : A) (m : List A). y ∷ m) (h a) (run_everywhere v h (suc a) n)

-- a part of n from a place on, as a call is lent it
pub part_count : {A : Type 0} (at n : ℕ) (l : List A) → at + n ≤ length l → length (take (at + n - at) (drop at l)) ≡ n
part_count at n l h =
    let e : at + n - at ≡ n = omega arith in
    ap (λ (k : ℕ). length (take k (drop at l))) e ∙ length-take-le n (drop at l) (simp length-drop (omega arith))
