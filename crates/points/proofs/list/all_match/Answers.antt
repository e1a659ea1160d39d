use mathlib.Core.Path.{◌≡◌, ◌∙◌}
use mathlib.Core.Bool.{true, false}
use Rattle.std.proofs.Common.{rules}
use Rattle.std.proofs.lemmas.Iterator.{cases_from_all, YieldsList-from_slice, YieldsList-from_zip}
use Rattle.std.specs.List.{zip}
use Rattle.points.specs.Point.{matching}
use Rattle.points.specs.declared.AutomationPoint.{AutomationPoint}
use Rattle.points.proofs.SliceLaws.{all_is, pairs_all}
use Rattle.points.proofs.list.all_match.Goals as goal

pub returns : goal.returns
returns c =
    let a = c.args in
    let test = λ (p : AutomationPoint × AutomationPoint). matching a.exact p.0 p.1 in
    all_is test (zip a.points.now a.others.now) _
    (cases_from_all c.all.new.self _ _ (λ p. test p ≡ true) (λ p. test p ≡ false) c.all.ensures.ran (YieldsList-from_zip (YieldsList-from_slice a.points.now cc) (YieldsList-from_slice a.others.now cc))
    (λ x q k. search rules) (λ x q k. search rules))
    ∙ pairs_all (matching a.exact) a.points.now a.others.now c.requires
