use mathlib.Core.Path.{sym, ap, ◌∙◌}
use mathlib.Core.List.{List}
use Rattle.std.specs.List.{position, remove}
use Rattle.points.specs.Points.{list_of, holding, fitting}
use Rattle.points.specs.declared.AutomationPoint.{AutomationPoint}
use Rattle.shape.specs.Shape.{remove_first, near}
use Rattle.shape.proofs.Held.{remove_held}
use Rattle.shape.proofs.remove_point_at.Goals as goal

pub returns-in-Some : goal.returns-in-Some
returns-in-Some c =
    let ps = c.args.points.now in
    let q = near c.args.time in
    let i = c.in-Some.at in
    rw (← c.is_finite-ok.ensures.value)
    (c.finish.ensures.edit (remove_first q (list_of ps)) (λ v h o.
    c.without.ensures ∙ ap (λ (l : List AutomationPoint). holding (fitting (remove l i))) c.as_slice-in-Some.ensures
    ∙ remove_held ps v h q i (sym (c.in-Some.ensures ∙ ap (position q) c.as_slice.ensures))))
