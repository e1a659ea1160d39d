-- What `collected` holds, where it is known what the items are. Assumes nothing.
use mathlib.Core.Path.{◌≡◌, subst, sym, ap, ◌∙◌}
use mathlib.Core.Bool.{true}
use mathlib.Core.List.{List}
use Rattle.std.specs.Prelude.{Option}
use Rattle.std.specs.Iterator.{DrainsIf}
use Rattle.std.specs.Iterator.Runs.{WholeRun}
use Rattle.std.proofs.iter.runs.Made.{took}
use Rattle.std.proofs.lemmas.Iterator.{YieldsList, items_from_drains}
use Rattle.std.proofs.lemmas.List.{map-id}
use Rattle.points.specs.Points.{holding, fitting}
use Rattle.points.specs.declared.AutomationPoint.{AutomationPoint}
use Rattle.points.specs.declared.Points.{Points}

pub collected : {S : Type 0} {steps : S → Option AutomationPoint → S → Type 0} {s : S} {all : List AutomationPoint} {r : Points}
    → WholeRun steps s (λ p. r ≡ holding (fitting p.items)) → YieldsList steps (λ p. p) s all → r ≡ holding (fitting all)
collected {steps = steps} (p, from, whole, e) road =
    let d = subst (λ s. DrainsIf steps (p.whole ≡ true) s p.items) from (took p) in
    e ∙ ap (λ (l : List AutomationPoint). holding (fitting l)) (sym (map-id p.items) ∙ items_from_drains p.items (d.0, d.1, λ _. d.2 whole) road)
