-- Times that a program holds are `f64`s. Assumes nothing.
use Prim.Native.Nat.{ℕ}
use mathlib.Core.Path.{◌≡◌, refl}
use mathlib.Core.Bool.{Bool, true}
use mathlib.Core.List.{List, [], ◌∷◌}
use lib.Dec.{T}
use lib.ListN.{get_or}
use lib.Ieee.{binary64, fits}
use mir.Val.{Val}
use denote.Array.{each}
use denote.Shadow.{shadow}
use denote.Laws.{Is}
use denote.Struct.Declared.{row}
use Rattle.numbers.proofs.Tests.{yes, and_both}
use Rattle.points.specs.Point.{any_point}
use Rattle.points.specs.Points.{every, list_of}
use Rattle.points.proofs.Laws.{every_get_d, every_take}
use Rattle.points.specs.declared.AutomationPoint.{AutomationPoint}
use Rattle.points.specs.declared.Points.{Points}
use Rattle.points.specs.contracts.AutomationPoint.{the_row}
use Rattle.points.specs.contracts.Points.{the_type}

abbrev pub time_fits : AutomationPoint → Bool
time_fits p = fits binary64 p.time

each_fits : (xs : List AutomationPoint) (us : List Val) → shadow (each the_row.Denot the_row.own_val xs us) → every time_fits xs ≡ true
each_fits [] us s = refl
each_fits (x ∷ xs) [] s = absurd s
each_fits (x ∷ xs) (u ∷ us) s = and_both s.0.1.1.0.1 (each_fits xs us s.1)

module _ (ps : Points) (vs : List Val) (g : Is (row the_type) ps vs) where
  places_fit : every time_fits ps.places ≡ true
  places_fit = let x = g.1.1.1.0 in each_fits ps.places x.0 x.1.1

  -- those of the points
  pub times_fit : every time_fits (list_of ps) ≡ true
  times_fit = every_take time_fits ps.count ps.places places_fit
