-- `analysis::get_range` meets its contract: valid (`tested`), with finite ends, the bounds are those of the lookups and of the points inside (`range_with`).
use Prim.Native.Nat.{ℕ}
use mathlib.Core.Path.{◌≡◌, ap, ap₂, ◌∙◌}
use mathlib.Core.Bool.{true, ◌&&◌}
use mathlib.Core.List.{List}
use Rattle.std.proofs.Common.{rules, of_calls}
use Rattle.std.specs.List.{fold}
use Rattle.numbers.specs.Bounds.{finite}
use Rattle.points.specs.Refusal.{gives}
use Rattle.points.specs.declared.AutomationPoint.{AutomationPoint}
use Rattle.lookup.specs.Lookup.{value_at}
use Rattle.lookup.specs.Valid.{valid}
use Rattle.lookup.proofs.ValidLaws.{tested}
use Rattle.points.specs.Points.{list_of}
use Rattle.lookup.specs.Runs.{run}
use Rattle.analysis.specs.Analysis.{given_values, raw_inside, get_range, range_time}
use Rattle.analysis.specs.Ranges.{widen, as_range}
use Rattle.analysis.specs.declared.Bounds.{Bounds}
use Rattle.analysis.proofs.Ranges.{range_with}
use Rattle.analysis.proofs.get_range.Goals as goal

pub returns : goal.returns
unfolding get_range
returns c =
    let a = c.args in
    let h = a.heard.now in
    let v = tested (valid h.points h.limits) h c.in_ok-valid.valid _ c.valid.result c.valid.ensures c.in_ok-valid.was in
    let e = v.1 in
    let ends : (finite a.start_time && finite a.end_time) ≡ true = search rules in
    let f = λ (i : ℕ). value_at h.points h.enabled h.limits (range_time a.start_time a.end_time i) in
    let lookups = c.of-lookups.ensures f (λ k y s p. search (rules, of_calls)) in
    rw (v.0, ends)
    (ap gives
    (c.range.ensures
    ∙ ap as_range (c.inside.ensures ∙ ap₂ (λ (b : Bounds) (l : List AutomationPoint). fold widen b (raw_inside a.start_time a.end_time l)) lookups c.points.ensures)
    ∙ range_with (given_values (run f 0 101)) (raw_inside a.start_time a.end_time (list_of h.points))))
