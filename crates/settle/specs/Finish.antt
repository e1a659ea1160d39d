-- For the code's own use: what its shared end does. `Settle.antt` has what an edit is held to.
use Rattle.std.specs.Prelude.{◌≡◌, Bool, true, List, Result, Ok, Err}
use Rattle.points.specs.Checks.{gate}
use Rattle.points.specs.Points.{list_of, holding, valid_points}
use Rattle.points.specs.declared.AutomationPoint.{AutomationPoint}
use Rattle.points.specs.declared.Points.{Points}
use Rattle.points.specs.declared.refusal.Refusal.{Refusal}
use Rattle.settle.specs.Settle.{plain, causes}

-- an edit that makes `new` of `ps`: `edit_points` of its list, but what comes back is `new` as it stands
unfoldable pub finished : Points → Bool → Points → Result Points Refusal
finished ps ok new = gate (causes (valid_points ps) (plain ok (list_of new))) Err (Ok new)

-- of valid points, which are what holds their list, and of finite arguments `new` is what holds l
abbrev pub Makes : Points → Bool → Points → List AutomationPoint → Type 0
Makes ps ok new l = valid_points ps ≡ true → holding (list_of ps) ≡ ps → ok ≡ true → new ≡ holding l
