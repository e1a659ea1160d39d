-- The neighbours that the library's `windows` gives, as a list. Assumes nothing.
use Prim.Native.Nat.{ℕ, ◌≤◌, ◌<◌}
use mathlib.Core.Path.{◌≡◌, refl, sym, ap, subst, ◌∙◌}
use mathlib.Core.Bool.{cond}
use mathlib.Core.List.{List, [], ◌∷◌}
use native.Mathlib.Omega.{arith}
use borrow.Author.Tests.{le-leb, lt-leb}
use denote.Ref.{Bor}
use lib.Dec.{leb}
use lib.ListN.{length, take, drop}
use Rattle.std.specs.Prelude.{Some, None}
use Rattle.std.specs.declared.slice.Windows.{Windows}
use Rattle.std.specs.Slice.Iter.{windows_rest, windows_size, windows_steps}
use Rattle.std.proofs.lemmas.Iterator.{YieldsList}
use Rattle.std.proofs.lemmas.Iterator.Splits.{YieldsList-from_shown_while}

module _ {A : Type 0} where
  -- each n neighbours
  abbrev pub windows : ℕ → List A → List (List A)
  windows n [] = []
  windows n (x ∷ l) = cond (leb n (length (x ∷ l))) (take n (x ∷ l) ∷ windows n l) []

  windows_few : (n : ℕ) (l : List A) → length l < n → windows n l ≡ []
  windows_few n [] h = refl
  windows_few n (x ∷ l) h = rw (lt-leb n (length (x ∷ l)) h)

  pub windows_more : (n : ℕ) (l : List A) → 0 < n → n ≤ length l → windows n l ≡ take n l ∷ windows n (drop 1 l)
  windows_more n [] p h = absurd (omega arith)
  windows_more n (x ∷ l) p h = rw (le-leb n (length (x ∷ l)) h)

  -- what an iterator over them has left
  shown : ℕ → Windows A → List (List A)
  shown n s = windows n (windows_rest s)

  none_left : (n : ℕ) (s t : Windows A) → windows_size s ≡ n → windows_steps s None t → length (shown n s) ≡ 0
  unfolding shown
  none_left n s t e h = ap length (windows_few n (windows_rest s) (omega (arith, e, h.1.0)))

  one_more : (n : ℕ) → 0 < n → (s : Windows A) (w : Bor (List A)) (t : Windows A) → windows_size s ≡ n → windows_steps s (Some w) t
      → (windows_size t ≡ n) × (shown n s ≡ w.now ∷ shown n t)
  unfolding shown
  one_more n p s w t e h = (
    h.0 ∙ e,
    windows_more n (windows_rest s) p (omega (arith, e, h.1.0))
        ∙ (λ i. (ap (λ (k : ℕ). take k (windows_rest s)) (sym e) ∙ sym h.1.1) i ∷ windows n (sym h.1.2 i)),
  )

  pub YieldsList-from_windows : {s : Windows A} (n : ℕ) (l : List A) → 0 < n → windows_size s ≡ n → windows_rest s ≡ l → YieldsList windows_steps (λ w. w.now) s (windows n l)
  unfolding shown
  YieldsList-from_windows {s} n l p e r =
      subst (λ (k : List A). YieldsList windows_steps (λ w. w.now) s (windows n k)) r
      (YieldsList-from_shown_while windows_steps (λ w. w.now) (shown n) (λ s. windows_size s ≡ n) (none_left n) (one_more n p) s e)
