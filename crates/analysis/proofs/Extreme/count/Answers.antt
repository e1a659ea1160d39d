-- `analysis::Extreme::count` meets its contract: the windows that pass, counted (`middles_count`).
use mathlib.Core.Path.{◌∙◌}
use Rattle.std.proofs.Common.{rules, tests}
use Rattle.std.proofs.lemmas.Iterator.Consumers.{count_from_yields_List, YieldsList-from_filter}
use Rattle.analysis.specs.Ranges.{middle_test}
use Rattle.analysis.proofs.Middles.{windows_give, in_row, middles_count}
use Rattle.analysis.proofs.Extreme.count.Goals as goal

pub returns : goal.returns
returns c =
    let a = c.args in
    let q = middle_test a.self in
    count_from_yields_List _ _ c.count.ensures.ran
    (YieldsList-from_filter _ (in_row q) (windows_give a.points.now (cc) (cc)) c.filter.ensures.closure (λ x b f k. search (rules, tests)))
    ∙ middles_count q a.points.now
