-- `equal::same_points` meets its contract: where there are as many points, `all` over the pairs (`all_from_yields_List`) is the definition (`pairs_all`).
use mathlib.Core.Path.{◌∙◌}
use Rattle.std.proofs.Common.{rules}
use Rattle.std.proofs.lemmas.Iterator.{YieldsList-from_slice, YieldsList-from_zip}
use Rattle.std.proofs.lemmas.Iterator.Search.{all_from_yields_List}
use Rattle.points.specs.declared.AutomationPoint.{AutomationPoint}
use Rattle.points.proofs.SliceLaws.{pairs_all}
use Rattle.equal.specs.Equal.{bit_equal_point}
use Rattle.equal.proofs.same_points.Goals as goal

pub returns : goal.returns
returns c =
    let a = c.args in
    all_from_yields_List (λ (p : AutomationPoint × AutomationPoint). bit_equal_point p.0 p.1) c.all.new.self _ _ c.all.ensures.ran
    (YieldsList-from_zip (YieldsList-from_slice a.points.now cc) (YieldsList-from_slice a.others.now cc))
    (λ x b q k. search rules)
    ∙ pairs_all bit_equal_point a.points.now a.others.now c.if-points-others.false
