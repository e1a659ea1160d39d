use mathlib.Core.Path.{sym, subst, ap, ◌∙◌}
use mathlib.Core.List.{List, []}
use native.Mathlib.Omega.{arith}
use Rattle.std.specs.Iterator.{Yields}
use Rattle.std.proofs.iter.runs.Made.{run_of_exit}
use Rattle.points.proofs.ValidLaws.{more_fitting, fitting_all}
use Rattle.points.specs.Points.{with_more, holding, fitting}
use Rattle.points.specs.declared.AutomationPoint.{AutomationPoint}
use Rattle.points.specs.declared.Points.{Points}
use Rattle.shape.proofs.collected.Goals as goal

pub loop-p-init : goal.loop-p-init
loop-p-init g c = c.none-out.ensures ∙ ap holding (sym (fitting_all [] (omega arith)))

pub loop-p-preserved : goal.loop-p-preserved
loop-p-preserved g c = c.push.ensures ∙ ap (λ (x : Points). with_more x c.in-Some.p) c.loop-p.invariant ∙ more_fitting c.loop-p.yielded c.in-Some.p

pub returns : goal.returns
returns g c =
    let steps = g.I.Iterator.next_gives in
    let h = c.loop-p in
    let ran : Yields steps c.args.items h.yielded h.p-iterator = subst (λ s. Yields steps s h.yielded h.p-iterator) c.into_iter-p-iterator.ensures.into_iter_gives h.yielded_by in
    let run = run_of_exit steps c.args.items h.yielded h.p-iterator ran _ c.in-None.ensures.steps in
    record { runs = (run.0, run.1, run.2, h.invariant ∙ ap (λ (l : List AutomationPoint). holding (fitting l)) (sym run.3.0)) }
