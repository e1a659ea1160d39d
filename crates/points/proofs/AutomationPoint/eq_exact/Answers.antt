use mathlib.Core.Path.{sym, ap, ◌∙◌}
use Rattle.numbers.proofs.Tests.{and_both}
use Rattle.points.specs.Refusal.{gives}
use Rattle.points.specs.Point.{points_equal}
use Rattle.points.proofs.AutomationPoint.eq_exact.Goals as goal

pub returns-then-is_finite : goal.returns-then-is_finite
unfolding points_equal
returns-then-is_finite c =
    let is_finite = c.is_finite in
    let is-finite2 = c.is_finite-2 in
    let t = sym (and_both is_finite.ensures is-finite2.ensures) ∙ c.if-is_finite.true in
    rw t (ap gives c.same_exact.ensures)

pub returns-else-is_finite : goal.returns-else-is_finite
unfolding points_equal
returns-else-is_finite c =
    let t = sym (and_both c.is_finite.ensures c.is_finite-2.ensures) ∙ c.if-is_finite.false in
    rw t
