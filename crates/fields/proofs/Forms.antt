-- What a form says that found something. Assumes nothing.
use Rattle.std.specs.Prelude.{None, Option, Some, IfSome}
use Rattle.std.specs.Borrow.{Bor}
use Prim.Native.Nat.{ℕ, ◌^◌, ◌<◌}
use mathlib.Core.Path.{◌≡◌, refl, sym}
use mathlib.Core.Bool.{Bool, true, false, cond}
use mathlib.Core.List.{List, [], ◌∷◌, tail}
use lib.Dec.{eqb}
use borrow.Author.Tests.{eqb-true}
use Rattle.fields.specs.Form.{Got, bad, got, then, next_is, ended, number_form, optional_form}
use Rattle.fields.specs.Told.{told, Below}
use Rattle.fields.proofs.ReadDigits.{no_bad, number_lt}

pub unthen : {A B C : Type 0} (x : Got A) (k : A → List ℕ → Got B) {b : B} {rest : List ℕ} → then x k ≡ got b rest
    → ((a : A) (m : List ℕ) → x ≡ got a m → k a m ≡ got b rest → C) → C
unthen bad k e f = no_bad e
unthen (got a m) k e f = f a m refl e

pub uncond : {A C : Type 0} (t : Bool) {x : Got A} {b : A} {rest : List ℕ} → cond t x bad ≡ got b rest → (t ≡ true → x ≡ got b rest → C) → C
uncond true e f = f refl e
uncond false e f = no_bad e

pub unended : {A : Type 0} (e : ℕ) (a : A) (l : List ℕ) {b : A} {rest : List ℕ} → ended e a l ≡ got b rest → (a ≡ b) × (l ≡ e ∷ rest)
unfolding next_is
unended e a [] q = no_bad q
unended e a (x ∷ l) q = uncond (eqb x e) q (λ t p. let k : x ≡ e = eqb-true x e t in (cc, cc))

-- ---- the numbers are in their bounds

pub optional_lt : (w e : ℕ) (l : List ℕ) (p : Option ℕ) (rest : List ℕ) → optional_form w e l ≡ got p rest → Below (16 ^ w) p
unfolding optional_form
optional_lt w e l p rest q = on (next_is 45 l) q
  where
    on : (t : Bool) → cond t (ended e None (tail l)) (then (number_form 16 w e l) (λ v m. got (Some v) m)) ≡ got p rest → Below (16 ^ w) p
    on true k = let z = unended e None (tail l) k in rw (← z.0) tt
    on false k =
        unthen (number_form 16 w e l) (λ v m. got (Some v) m) k
        (λ v m a b.
        let n : Some v ≡ p = cc in
        rw (← n) (number_lt 16 w e l v m a))

-- what a function found is the number that it read, or nothing
pub ended_lt : (e v n : ℕ) (l : List ℕ) (r : Option (ℕ × Bor (List ℕ))) → told r ≡ ended e v l → v < n → IfSome r (λ p. p.0 < n)
ended_lt e v n l None q h = tt
ended_lt e v n l (Some p) q h = let z = unended e v l (sym q) in rw (← z.0) h
