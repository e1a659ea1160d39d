use mathlib.Core.Path.{sym, ◌∙◌}
use native.Mathlib.Omega.{arith}
use Rattle.lines.proofs.Reading.{begun, full, goes_on, fewer, was_line}
use Rattle.lines.proofs.point_lines.point_lines.Goals as goal

pub loop-line-init : goal.loop-line-init
loop-line-init c = begun _ _ _ c.none-points.ensures

pub returns-then-points-eq256 : goal.returns-then-points-eq256
returns-then-points-eq256 c = full c.loop-line.invariant (sym c.loop-line-test.ensures) _ c.after_last-refusal.ensures c.if-points-eq256.true

pub loop-line-preserved : goal.loop-line-preserved
loop-line-preserved c =
    let said = sym c.point_line.ensures ∙ was_line _ _ _ _ c.in_ok-p.ensures in
    let rise = sym (rw c.as_slice.ensures at c.if-not-rise_with.ensures) in
    goes_on c.loop-line.invariant (sym c.loop-line-test.ensures) (omega arith) c.in_ok-p.p c.in_ok-p.after.now said rise _ c.push.ensures

pub loop-line-smaller : goal.loop-line-smaller
loop-line-smaller c = fewer _ c.in_ok-p.p _ c.push.ensures (omega arith)
