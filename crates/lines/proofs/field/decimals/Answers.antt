use mathlib.Core.Path.{◌∙◌}
use native.Mathlib.Omega.{arith}
use Rattle.fields.proofs.Decimal.{decimals_more}
use Rattle.lines.proofs.field.decimals.Goals as goal

pub loop-rest-preserved : goal.loop-rest-preserved
loop-rest-preserved c =
    let m = c.in_ok-checked_mul.ensures in
    let a = c.in_ok-v.ensures in
    let d = c.value-d in
    c.loop-rest.invariant ∙ decimals_more c.loop-rest.v d.result c.in_ok-v.v c.loop-rest.rest.now (omega arith) d.ensures c.if-d-ge10.false (omega (arith, m.1, a.1)) (omega (arith, a.0, a.1))
