-- What is kept of valid points has a place each. Assumes nothing.
use Prim.Native.Nat.{◌≤◌}
use mathlib.Core.Path.{◌≡◌, sym, ap, ◌∙◌}
use mathlib.Core.Bool.{Bool, true, false, cond}
use mathlib.Core.List.{List, [], ◌∷◌, map, reverse}
use native.Mathlib.Omega.{arith}
use lib.Ieee.{Float}
use lib.ListN.{length, drop, length-map, length-append, length-drop, length-reverse}
use Rattle.std.specs.Prelude.{Some}
use Rattle.std.specs.List.{filter, position, remove}
use Rattle.std.proofs.lemmas.List.Quantifiers.{position-Some}
use Rattle.std.proofs.lemmas.List.Edits.{length-remove}
use Rattle.points.specs.Middles.{middles}
use Rattle.points.specs.Point.{any_point}
use Rattle.points.specs.Points.{list_of, holding, fitting, valid_points}
use Rattle.points.proofs.ValidLaws.{fitting_all, held_few}
use Rattle.points.specs.declared.AutomationPoint.{AutomationPoint}
use Rattle.points.specs.declared.Points.{Points}
use Rattle.pointwise.specs.Places.{mapped_in}
use Rattle.pointwise.specs.Each.{changed, last_time}
use Rattle.pointwise.specs.declared.Change.TheVariants.{Reflect}
use Rattle.pointwise.proofs.Mapped.{mapped_list}
use Rattle.shape.specs.Shape.{remove_first, reversed, differs, simplified}
use Rattle.shape.proofs.Kept.{remove_at}

-- ---- no more than there was

filter_most : {A : Type 0} (q : A → Bool) (l : List A) → length (filter q l) ≤ length l
filter_most q [] = omega arith
filter_most q (x ∷ l) = go (q x) (filter_most q l)
  where
    go : (b : Bool) → length (filter q l) ≤ length l → length (cond b (x ∷ filter q l) (filter q l)) ≤ length (x ∷ l)
    go true h = omega arith
    go false h = omega arith

middles_most : {A : Type 0} (q : A → A → A → Bool) (a b : A) (l : List A) → length (middles q (a ∷ (b ∷ l))) ≤ length l
unfolding middles
middles_most q a b [] = omega arith
middles_most q a b (c ∷ l) = go (q a b c) (middles_most q b c l)
  where
    go : (t : Bool) → length (middles q (b ∷ (c ∷ l))) ≤ length l → length (cond t (b ∷ middles q (b ∷ (c ∷ l))) (middles q (b ∷ (c ∷ l)))) ≤ length (c ∷ l)
    go true h = omega arith
    go false h = omega arith

simplified_most : (t : Float) (l : List AutomationPoint) → length (simplified t l) ≤ length l
simplified_most t [] = omega arith
simplified_most t (p ∷ []) = omega arith
simplified_most t (p ∷ (q ∷ l)) =
    omega (arith, middles_most (differs t) p q l, length-append (middles (differs t) (p ∷ (q ∷ l))) (drop (length l) (q ∷ l)), length-drop (length l) (q ∷ l))

-- ---- so it is held

module _ (ps : Points) (v : valid_points ps ≡ true) (h : holding (list_of ps) ≡ ps) where
  fits : (l : List AutomationPoint) → length l ≤ length (list_of ps) → holding (fitting l) ≡ holding l
  fits l n = ap holding (fitting_all l (omega (arith, held_few ps v h)))

  pub filter_held : (q : AutomationPoint → Bool) → holding (fitting (filter q (list_of ps))) ≡ holding (filter q (list_of ps))
  filter_held q = fits (filter q (list_of ps)) (filter_most q (list_of ps))

  pub remove_held : (q : AutomationPoint → Bool) (i : _) → position q (list_of ps) ≡ Some i → holding (fitting (remove (list_of ps) i)) ≡ holding (remove_first q (list_of ps))
  remove_held q i e =
      fits (remove (list_of ps) i) (omega (arith, length-remove (list_of ps) i (position-Some q (list_of ps) i any_point e).0))
      ∙ ap holding (sym (remove_at q (list_of ps) i e))

  pub simplified_held : (t : Float) → holding (fitting (simplified t (list_of ps))) ≡ holding (simplified t (list_of ps))
  simplified_held t = fits (simplified t (list_of ps)) (simplified_most t (list_of ps))

  pub reversed_held : holding (fitting (reverse (list_of (mapped_in (changed (Reflect (last_time (list_of ps)))) ps)))) ≡ holding (reversed (list_of ps))
  reversed_held =
      let f = changed (Reflect (last_time (list_of ps))) in
      ap (λ (l : List AutomationPoint). holding (fitting (reverse l))) (mapped_list f ps)
      ∙ fits (reversed (list_of ps)) (omega (arith, length-reverse (map f (list_of ps)), length-map (list_of ps) f))
