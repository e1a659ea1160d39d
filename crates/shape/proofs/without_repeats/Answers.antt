use mathlib.Core.Path.{ap, ◌∙◌}
use mathlib.Core.List.{List}
use native.Mathlib.Omega.{arith}
use Rattle.std.proofs.Common.{rules, tests}
use Rattle.std.proofs.lemmas.Iterator.{YieldsList-from_slice, YieldsList-from_take}
use Rattle.std.proofs.lemmas.Iterator.Consumers.{YieldsList-from_copied, YieldsList-from_chain, YieldsList-from_filter_map, YieldsList-at}
use Rattle.points.specs.Points.{holding, fitting}
use Rattle.points.specs.declared.AutomationPoint.{AutomationPoint}
use Rattle.shape.proofs.CollectLaws.{collected}
use Rattle.points.proofs.WindowLaws.{YieldsList-from_windows}
use Rattle.shape.specs.Neighbours.{later}
use Rattle.shape.proofs.Kept.{repeats_windows}
use Rattle.shape.proofs.without_repeats.Goals as goal

pub returns : goal.returns
returns c =
    let l = c.args.points.now in
    collected c.collected.ensures.runs
    (YieldsList-from_chain
    (YieldsList-at c.chain.ensures.first
    (YieldsList-from_copied (YieldsList-at c.copied-first.ensures.source (YieldsList-from_take 1 (YieldsList-at c.take.ensures.source (YieldsList-from_slice l cc)) c.take.ensures.count))))
    (YieldsList-at c.chain.ensures.second
    (YieldsList-from_filter_map _ later (YieldsList-at c.filter_map.ensures.source (YieldsList-from_windows 2 l (omega arith) c.windows.ensures.size c.windows.ensures.rest))
    c.filter_map.ensures.closure (λ x r q k. search (rules, tests))))
    c.chain.ensures.first_done c.chain.ensures.second_done)
    ∙ ap (λ (m : List AutomationPoint). holding (fitting m)) (repeats_windows l)
