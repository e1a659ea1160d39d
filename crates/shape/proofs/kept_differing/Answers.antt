use mathlib.Core.Path.{ap, ◌∙◌}
use mathlib.Core.List.{List}
use native.Mathlib.Omega.{arith}
use Rattle.std.proofs.Common.{rules, tests}
use Rattle.std.proofs.lemmas.Iterator.Adapters.{YieldsList-from_once}
use Rattle.std.proofs.lemmas.Iterator.Consumers.{YieldsList-from_chain, YieldsList-from_filter_map, YieldsList-at}
use Rattle.points.specs.Point.{any_point}
use Rattle.points.specs.Points.{holding, fitting}
use Rattle.points.specs.Middles.{middle_if}
use Rattle.points.specs.declared.AutomationPoint.{AutomationPoint}
use Rattle.shape.proofs.CollectLaws.{collected}
use Rattle.points.proofs.WindowLaws.{YieldsList-from_windows}
use Rattle.shape.specs.Shape.{differs, simplified}
use Rattle.shape.proofs.Kept.{simplified_windows}
use Rattle.shape.proofs.kept_differing.Goals as goal

pub returns : goal.returns
returns c =
    let l = c.as_slice-points.result.now in
    collected c.collected-2.ensures.runs
    (YieldsList-from_chain
    (YieldsList-at c.chain-2.ensures.first
    (YieldsList-from_chain
    (YieldsList-at c.chain.ensures.first (YieldsList-from_once _ c.once.ensures.item))
    (YieldsList-at c.chain.ensures.second
    (YieldsList-from_filter_map _ (middle_if (differs c.args.tolerance))
    (YieldsList-at c.filter_map-inner.ensures.source (YieldsList-from_windows 3 l (omega arith) c.windows.ensures.size c.windows.ensures.rest)) c.filter_map-inner.ensures.closure
    (λ x r q k. search (rules, tests))))
    c.chain.ensures.first_done c.chain.ensures.second_done))
    (YieldsList-at c.chain-2.ensures.second (YieldsList-from_once _ c.once-2.ensures.item))
    c.chain-2.ensures.first_done c.chain-2.ensures.second_done)
    ∙ ap (λ (m : List AutomationPoint). holding (fitting m)) (simplified_windows c.args.tolerance l any_point c.in-len2-up.len_at_least ∙ ap (simplified c.args.tolerance) c.as_slice-points.ensures)
