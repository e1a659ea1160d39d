-- Points that change in their places, as a list. Assumes nothing.
use Prim.Native.Nat.{ℕ, zero, suc, ◌-◌}
use mathlib.Core.Path.{◌≡◌, refl, ap, ◌∙◌, sym}
use mathlib.Core.Bool.{Bool, true, false, cond}
use mathlib.Core.List.{List, [], ◌∷◌, ◌++◌, map}
use lib.Ieee.{Float, binary64, sub, le}
use lib.ListN.{take, drop, replicate, length-map}
use Rattle.numbers.specs.Bounds.{zero64}
use Rattle.curve.specs.declared.CurveType.{CurveType}
use Rattle.points.specs.Point.{unused}
use Rattle.points.specs.Points.{list_of, holding}
use Rattle.points.proofs.ValidLaws.{list_of_holding, rest_of_holding}
use Rattle.points.specs.declared.AutomationPoint.{AutomationPoint}
use Rattle.points.specs.declared.Points.{Points}
use Rattle.pointwise.specs.Places.{mapped_in, faded_in_places, faded_out_places}
use Rattle.pointwise.specs.Each.{changed, first_time, last_time, faded_in_all, faded_out_all}
use Rattle.pointwise.specs.declared.Change.TheVariants.{FadeIn, FadeOut}

-- of all that there are, or of the first n
front_map : {A : Type 0} (f : A → A) (n : ℕ) (l : List A) → take n (map f (take n l) ++ drop n l) ≡ map f (take n l)
front_map f zero l = refl
front_map f (suc n) [] = refl
front_map f (suc n) (x ∷ l) = ap (λ m. f x ∷ m) (front_map f n l)

-- the list of them
pub mapped_list : (f : AutomationPoint → AutomationPoint) (ps : Points) → list_of (mapped_in f ps) ≡ map f (list_of ps)
unfolding mapped_in
mapped_list f ps = front_map f ps.count ps.places

mapped_holding : (f : AutomationPoint → AutomationPoint) (l : List AutomationPoint) → mapped_in f (holding l) ≡ holding (map f l)
unfolding mapped_in
mapped_holding f l =
    let n = sym (length-map l f) in
    λ i. record {
      count = n i;
      places = ((λ j. map f (list_of_holding l j) ++ rest_of_holding l j) ∙ ap (λ (k : ℕ). map f l ++ replicate (256 - k) unused) n) i;
    }

-- points that are what holds their list stay so
module _ (ps : Points) (h : holding (list_of ps) ≡ ps) where
  pub mapped_held : (f : AutomationPoint → AutomationPoint) → mapped_in f ps ≡ holding (map f (list_of ps))
  mapped_held f = ap (mapped_in f) (sym h) ∙ mapped_holding f (list_of ps)

  -- where a duration keeps the points, and where it changes them
  kept_or_mapped : (b : Bool) (f : AutomationPoint → AutomationPoint) → cond b ps (mapped_in f ps) ≡ holding (cond b (list_of ps) (map f (list_of ps)))
  kept_or_mapped true f = sym h
  kept_or_mapped false f = mapped_held f

  module _ (duration : Float) (c : CurveType) where
    pub faded_in_held : faded_in_places duration c ps ≡ holding (faded_in_all duration c (list_of ps))
    faded_in_held = kept_or_mapped (le duration zero64) (changed (FadeIn (first_time (list_of ps)) duration c))

    pub faded_out_held : faded_out_places duration c ps ≡ holding (faded_out_all duration c (list_of ps))
    faded_out_held = kept_or_mapped (le duration zero64) (changed (FadeOut (sub binary64 (last_time (list_of ps)) duration) duration c))

-- both fades, the one out of what the one in made
pub fades_held : (ps : Points) → holding (list_of ps) ≡ ps → (a b : Float) (c : CurveType)
    → faded_out_places b c (faded_in_places a c ps) ≡ holding (faded_out_all b c (faded_in_all a c (list_of ps)))
fades_held ps h a b c =
    let l = faded_in_all a c (list_of ps) in
    ap (faded_out_places b c) (faded_in_held ps h a c) ∙ faded_out_held (holding l) (ap holding (list_of_holding l)) b c
    ∙ ap (λ (m : List AutomationPoint). holding (faded_out_all b c m)) (list_of_holding l)
