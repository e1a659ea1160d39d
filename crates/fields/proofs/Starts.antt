-- A fixed text in front of the bytes. Assumes nothing.
use Rattle.std.specs.Prelude.{nat_eq}
use Rattle.std.specs.Cmp.Lexicographic.{pointwise}
use Prim.Native.Nat.{ℕ}
use mathlib.Core.Path.{◌≡◌, refl, sym, ap, ◌∙◌}
use mathlib.Core.Bool.{Bool, true, false, ◌&&◌}
use mathlib.Core.List.{List, [], ◌∷◌, ◌++◌}
use native.Mathlib.Omega.{arith}
use borrow.Author.Tests.{eq-eqb, ne_eqb, eqb-true, eqb-false}
use lib.ListN.{length, take, drop}
use lib.Dec.{eqb}
use Rattle.fields.specs.Form.{starts_with}

-- ---- a text that was written stands there, and what stands there is the text: both together show what the library's `starts_with` means
pub starts_append : (w l : List ℕ) → starts_with w (w ++ l) ≡ true
unfolding starts_with
starts_append [] l = refl
starts_append (b ∷ w) l = rw (eq-eqb b b refl) (starts_append w l)

pub starts_back : (w l : List ℕ) → starts_with w l ≡ true → l ≡ w ++ drop (length w) l
unfolding starts_with
starts_back [] l e = refl
starts_back (b ∷ w) [] e = let z : ◌≡◌ {A = ℕ} 0 1 = cc in absurd (omega arith)
starts_back (b ∷ w) (x ∷ l) e = on (eqb b x) refl (starts_with w l) refl e (λ q. starts_back w l q)
  where
    on : (t : Bool) → eqb b x ≡ t → (u : Bool) → starts_with w l ≡ u → (t && u) ≡ true → (starts_with w l ≡ true → l ≡ w ++ drop (length w) l)
        → x ∷ l ≡ b ∷ (w ++ drop (length w) l)
    on true p u q a f = let k : b ≡ x = eqb-true b x p in let m : l ≡ w ++ drop (length w) l = f (q ∙ a) in cc
    on false p u q a f = let z : ◌≡◌ {A = ℕ} 0 1 = cc in absurd (omega arith)

-- `strip_prefix` and `==` compare the other way round
pub turned : (b x : ℕ) → eqb b x ≡ eqb x b
turned b x = on (eqb b x) refl
  where
    on : (t : Bool) → eqb b x ≡ t → t ≡ eqb x b
    on true e = sym (eq-eqb x b (sym (eqb-true b x e)))
    on false e = sym (ne_eqb x b (λ k. eqb-false b x e (sym k)))

pub starts_front : (w l : List ℕ) → starts_with w l ≡ pointwise nat_eq (take (length w) l) w
unfolding starts_with
starts_front [] l = refl
starts_front (b ∷ w) [] = refl
starts_front (b ∷ w) (x ∷ l) = rw (turned b x) (ap (λ (t : Bool). eqb x b && t) (starts_front w l))
