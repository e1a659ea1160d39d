-- Quantized times of valid points do not fall, so that equal ones stand side by side: to compare neighbours keeps the first of each, and what is kept rises. Assumes nothing.
use Prim.Native.Nat.{ℕ, ◌≤◌, ◌<◌}
use mathlib.Core.Path.{◌≡◌, refl, sym, ap, ◌∙◌, subst}
use mathlib.Core.Bool.{Bool, true, false, cond, not, ◌&&◌}
use mathlib.Core.List.{List, [], ◌∷◌, map}
use native.Mathlib.Nat.{le_trans, le_of_lt}
use native.Mathlib.Omega.{arith}
use borrow.Author.Tests.{ltb-true, eqb-true, eqb-false, ne_eqb, lt-ltb}
use lib.Dec.{T, ltb, eqb}
use lib.ListN.{length, length-map}
use lib.Ieee.{Float, le}
use Rattle.numbers.specs.Bounds.{finite, zero64}
use Rattle.numbers.proofs.Tests.{yes, and_left, and_right, and_both}
use Rattle.points.specs.Point.{finite_point}
use Rattle.points.specs.Points.{every, rising_by, rising, time_key, list_of, holding, fitting}
use Rattle.points.proofs.ValidLaws.{valid_finite, valid_rising, fitting_all, held_few}
use Rattle.points.specs.declared.AutomationPoint.{AutomationPoint}
use Rattle.points.specs.declared.Points.{Points}
use Rattle.settle.specs.Finish.{Makes}
use Rattle.pointwise.specs.Places.{mapped_in}
use Rattle.pointwise.specs.Each.{changed}
use Rattle.pointwise.specs.declared.Change.TheVariants.{Quantize}
use Rattle.pointwise.proofs.Mapped.{mapped_list}
use Rattle.numbers.proofs.Quantized.{quantized_keeps_order}
use Rattle.shape.specs.Neighbours.{differing_after, without_repeats}
use Rattle.shape.specs.Shape.{keep_if, firsts, quantized}
use Rattle.shape.proofs.Kept.{after_same}
use Rattle.points.proofs.Fits.{time_fits}

-- ---- times that do not fall, from the key k on

data Onward : ℕ → List AutomationPoint → Type 0 where
  end : {k : ℕ} → Onward k []
  next : {k : ℕ} {q : AutomationPoint} {l : List AutomationPoint} → k ≤ time_key q → Onward (time_key q) l → Onward k (q ∷ l)

-- a point at another time than p
abbrev other : AutomationPoint → AutomationPoint → Bool
other p q = not (eqb (time_key p) (time_key q))

earlier : (j k : ℕ) → j ≤ k → eqb j k ≡ false → j < k
earlier j k h e = let n = eqb-false j k e in omega arith

-- ---- to compare neighbours keeps the first of each time

kept_cons : (b : Bool) (p q : AutomationPoint) (k l : List AutomationPoint) → (b ≡ true → keep_if (other p) k ≡ k) → (b ≡ false → other p q ≡ true) → keep_if (other p) l ≡ l
    → keep_if (other p) (cond b k (q ∷ l)) ≡ cond b k (q ∷ l)
kept_cons true p q k l f g h = f refl
kept_cons false p q k l f g h = ap (λ (t : Bool). cond t (q ∷ keep_if (other p) l) (keep_if (other p) l)) (g refl) ∙ ap (λ (m : List AutomationPoint). q ∷ m) h

-- after q there is none left at the time of a p that is not after q
none_left : (p q : AutomationPoint) (l : List AutomationPoint) → time_key p ≤ time_key q → Onward (time_key q) l → keep_if (other p) (differing_after q l) ≡ differing_after q l
unfolding differing_after
none_left p q [] h o = refl
none_left p q (r ∷ l) h (next a o) =
    kept_cons (eqb (time_key q) (time_key r)) p r (differing_after q l) (differing_after r l)
    (λ e. none_left p q l h (subst (λ (k : ℕ). Onward k l) (sym (eqb-true (time_key q) (time_key r) e)) o))
    (λ e. ap not (ne_eqb (time_key p) (time_key r) (let k = earlier (time_key q) (time_key r) a e in λ c. omega arith)))
    (none_left p r l (le_trans h a) o)

first_cons : (b : Bool) (q : AutomationPoint) (k l m : List AutomationPoint) → k ≡ m → (b ≡ true → l ≡ m) → cond (not b) (q ∷ k) k ≡ cond b l (q ∷ m)
first_cons true q k l m e f = e ∙ sym (f refl)
first_cons false q k l m e f = ap (λ (t : List AutomationPoint). q ∷ t) e

after_firsts : (p : AutomationPoint) (l : List AutomationPoint) → Onward (time_key p) l → keep_if (other p) (firsts l) ≡ differing_after p l
unfolding differing_after firsts
after_firsts p [] o = refl
after_firsts p (q ∷ l) (next a o) =
    first_cons (eqb (time_key p) (time_key q)) q (keep_if (other p) (keep_if (other q) (firsts l))) (differing_after p l) (differing_after q l)
    (ap (keep_if (other p)) (after_firsts q l o) ∙ none_left p q l a o)
    (λ e. after_same p q l (eqb-true (time_key p) (time_key q) e))

-- ---- what is kept rises

rising_cons : (b : Bool) (p q : AutomationPoint) (k l : List AutomationPoint) → (b ≡ true → rising (p ∷ k) ≡ true) → (b ≡ false → ltb (time_key p) (time_key q) ≡ true)
    → rising (q ∷ l) ≡ true
    → rising (p ∷ cond b k (q ∷ l)) ≡ true
unfolding rising_by
rising_cons true p q k l f g h = f refl
rising_cons false p q k l f g h = and_both (g refl) h

after_rises : (p : AutomationPoint) (l : List AutomationPoint) → Onward (time_key p) l → rising (p ∷ differing_after p l) ≡ true
unfolding differing_after rising_by
after_rises p [] o = refl
after_rises p (q ∷ l) (next a o) =
    rising_cons (eqb (time_key p) (time_key q)) p q (differing_after p l) (differing_after q l)
    (λ e. after_rises p l (subst (λ (k : ℕ). Onward k l) (sym (eqb-true (time_key p) (time_key q) e)) o))
    (λ e. lt-ltb (time_key p) (time_key q) (earlier (time_key p) (time_key q) a e))
    (after_rises q l o)

-- ---- the points of a valid envelope, on a grid

module _ (grid : Float) (g : finite grid ≡ true) (a : le grid zero64 ≡ false) where
  abbrev to : AutomationPoint → AutomationPoint
  to = changed (Quantize grid)

  first_finite : (p : AutomationPoint) (l : List AutomationPoint) → every finite_point (p ∷ l) ≡ true → finite p.time ≡ true
  first_finite p l f = and_left (finite p.time) _ (and_left (finite p.time && finite p.value) _ (and_left (finite_point p) _ f))

  first_fits : (p : AutomationPoint) (l : List AutomationPoint) → every time_fits (p ∷ l) ≡ true → T (time_fits p)
  first_fits p l f = yes (and_left (time_fits p) _ f)

  onward : (p : AutomationPoint) (l : List AutomationPoint) → every finite_point (p ∷ l) ≡ true → every time_fits (p ∷ l) ≡ true → rising (p ∷ l) ≡ true
      → Onward (time_key (to p)) (map to l)
  unfolding rising_by
  onward p [] f t r = end
  onward p (q ∷ l) f t r =
      let f₁ = and_right (finite_point p) _ f in
      let t₁ = and_right (time_fits p) _ t in
      next
      (quantized_keeps_order grid p.time q.time g a (first_fits p (q ∷ l) t) (first_fits q l t₁) (first_finite p (q ∷ l) f) (first_finite q l f₁)
      (le_of_lt (ltb-true (time_key p) (time_key q) (and_left (ltb (time_key p) (time_key q)) _ r))))
      (onward q l f₁ t₁ (and_right (ltb (time_key p) (time_key q)) _ r))

  repeats_firsts : (l : List AutomationPoint) → every finite_point l ≡ true → every time_fits l ≡ true → rising l ≡ true → without_repeats (map to l) ≡ firsts (map to l)
  unfolding without_repeats firsts
  repeats_firsts [] f t r = refl
  repeats_firsts (p ∷ l) f t r = ap (λ (m : List AutomationPoint). to p ∷ m) (sym (after_firsts (to p) (map to l) (onward p l f t r)))

  -- so 6 can't occur
  pub firsts_rise : (l : List AutomationPoint) → every finite_point l ≡ true → every time_fits l ≡ true → rising l ≡ true → rising (firsts (map to l)) ≡ true
  unfolding rising_by firsts
  firsts_rise [] f t r = refl
  firsts_rise (p ∷ l) f t r = ap (λ (m : List AutomationPoint). rising (to p ∷ m)) (after_firsts (to p) (map to l) (onward p l f t r)) ∙ after_rises (to p) (map to l) (onward p l f t r)

-- ---- what the edit makes

-- no more than there were
after_most : (p : AutomationPoint) (l : List AutomationPoint) → length (differing_after p l) ≤ length l
unfolding differing_after
after_most p [] = omega arith
after_most p (q ∷ l) = go (eqb (time_key p) (time_key q)) (after_most p l) (after_most q l)
  where
    go : (b : Bool) → length (differing_after p l) ≤ length l → length (differing_after q l) ≤ length l
        → length (cond b (differing_after p l) (q ∷ differing_after q l)) ≤ length (q ∷ l)
    go true h k = omega arith
    go false h k = omega arith

repeats_most : (l : List AutomationPoint) → length (without_repeats l) ≤ length l
unfolding without_repeats
repeats_most [] = omega arith
repeats_most (p ∷ l) = omega (arith, after_most p l)

pub quantized_made : (ps moved new : Points) (grid : Float) → every time_fits (list_of ps) ≡ true → le grid zero64 ≡ false → moved ≡ mapped_in (changed (Quantize grid)) ps
    → new ≡ holding (fitting (without_repeats (list_of moved))) → Makes ps (finite grid) new (quantized grid (list_of ps))
quantized_made ps moved new grid t a m n = λ v h g.
    let l = list_of ps in
    let to = changed (Quantize grid) in
    let few : length (without_repeats (map to l)) ≤ 256 = omega (arith, repeats_most (map to l), length-map l to, held_few ps v h) in
    rw a
    (n ∙ ap (λ (k : List AutomationPoint). holding (fitting (without_repeats k))) (ap list_of m ∙ mapped_list to ps)
    ∙ ap holding (fitting_all (without_repeats (map to l)) few ∙ repeats_firsts grid g a l (valid_finite ps v) t (valid_rising ps v)))
