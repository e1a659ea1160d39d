-- `analysis::Extreme::write` meets its contract: the windows that pass come in turn (`road`), and the middle one of each is written after those before (`write_more`).
use Rattle.std.proofs.Common.{rules, tests}
use native.Mathlib.Omega.{arith}
use Prim.Native.Nat.{ℕ}
use mathlib.Core.Path.{◌∙◌}
use mathlib.Core.List.{List}
use denote.Ref.{Bor}
use Rattle.points.specs.declared.AutomationPoint.{AutomationPoint}
use Rattle.std.proofs.lemmas.Iterator.{YieldsList}
use Rattle.std.proofs.lemmas.Iterator.Consumers.{YieldsList-at, YieldsList-from_filter, YieldsList-from_enumerate}
use Rattle.points.specs.Point.{time_of}
use Rattle.analysis.specs.Ranges.{middle_test, value_of}
use Rattle.analysis.proofs.Middles.{windows_give, in_row, passing, numbered, write_more, all_written}
use Rattle.analysis.proofs.Extreme.write.Given as given
use Rattle.analysis.proofs.Extreme.write.Goals as goal
use Rattle.analysis.proofs.Extreme.write.Goals.{After-into_iter-k-iterator}

road : (c : After-into_iter-k-iterator) → YieldsList (given.iterator-loop-k).next_gives (λ p. (p.0, p.1.now)) c.into_iter-k-iterator.result (passing (middle_test c.args.self) c.args.points.now)
road c =
    YieldsList-from_enumerate
    (YieldsList-at
    {t = c.filter-found.result}
    (cc)
    (YieldsList-from_filter _ (in_row (middle_test c.args.self)) (windows_give c.args.points.now (cc) (cc)) c.filter-found.ensures.closure (λ x b f k. search (rules, tests))))
    (cc)

pub bounds-times-k : goal.bounds-times-k
bounds-times-k c =
    let e = road (goal.at.bounds-times-k c).After-into_iter-k-iterator in
    let k = numbered (middle_test c.args.self) c.args.points.now e c.loop-k.yielded c.loop-k.yielded_by _ _ _ c.in-Some.is c.next.ensures.steps in
    omega (arith, k.0, k.1, c.requires.times_room)

pub bounds-values-k : goal.bounds-values-k
bounds-values-k c =
    let e = road (goal.at.bounds-values-k c).After-into_iter-k-iterator in
    let k = numbered (middle_test c.args.self) c.args.points.now e c.loop-k.yielded c.loop-k.yielded_by _ _ _ c.in-Some.is c.next.ensures.steps in
    omega (arith, k.0, k.1, c.requires.values_room)

pub loop-k-preserved : goal.loop-k-preserved
loop-k-preserved c =
    let a = c.args in
    let w : ℕ × Bor (List AutomationPoint) = (c.in-Some.k, c.in-Some.field-0-1) in
    let e = road (goal.at.loop-k-preserved c).After-into_iter-k-iterator in
    let k = numbered (middle_test a.self) a.points.now e c.loop-k.yielded c.loop-k.yielded_by _ _ w c.in-Some.is c.next.ensures.steps in
    let i = c.loop-k.invariant in (
      search rules,
      search rules,
      write_more time_of c.loop-k.yielded w a.times.now c.loop-k.times k.0 (omega (arith, k.1, c.requires.times_room)) i.2,
      write_more value_of c.loop-k.yielded w a.values.now c.loop-k.values k.0 (omega (arith, k.1, c.requires.values_room)) i.3,
    )

pub returns-clause-times_after : goal.returns-clause-times_after
returns-clause-times_after c =
    let e = road (goal.at.returns-clause-times_after c).After-into_iter-k-iterator in
    c.loop-k.invariant.2 ∙ all_written (middle_test c.args.self) c.args.points.now e c.loop-k.yielded c.loop-k.yielded_by _ _ time_of c.args.times.now c.in-None.is c.next.ensures.steps

pub returns-clause-values_after : goal.returns-clause-values_after
returns-clause-values_after c =
    let e = road (goal.at.returns-clause-values_after c).After-into_iter-k-iterator in
    c.loop-k.invariant.3 ∙ all_written (middle_test c.args.self) c.args.points.now e c.loop-k.yielded c.loop-k.yielded_by _ _ value_of c.args.values.now c.in-None.is c.next.ensures.steps
