use mathlib.Core.Path.{sym, ap, ◌∙◌}
use native.Mathlib.Omega.{arith}
use lib.ListN.{length}
use Rattle.combine.proofs.Combining.{begun, left_few, right_few, left_place, right_place, turn, lost, shorter, ended}
use Rattle.combine.proofs.walk.Goals as goal

pub loop-time-init : goal.loop-time-init
loop-time-init c =
    let first = c.points-firsts.ensures.value in
    let second = c.points-seconds.ensures.value in
    (first, second, begun c.args.operation c.args.first.now c.args.other.now _ _ _ first second c.none-made.ensures)

pub overflow_sub-i : goal.overflow_sub-i
overflow_sub-i c =
    let walked = c.loop-time.invariant.2 in
    omega (arith, left_few _ _ _ _ _ _ _ walked c.points-firsts.ensures.valid c.points-seconds.ensures.valid, ap length c.loop-time.invariant.0)

pub overflow_sub-j : goal.overflow_sub-j
overflow_sub-j c =
    let walked = c.loop-time.invariant.2 in
    omega (arith, right_few _ _ _ _ _ _ _ walked c.points-firsts.ensures.valid c.points-seconds.ensures.valid, ap length c.loop-time.invariant.1)

pub combined_point-p-requires-clause-left : goal.combined_point-p-requires-clause-left
combined_point-p-requires-clause-left c =
    let inv = c.loop-time.invariant in
    left_place _ _ _ _ _ _ _ inv.2 c.points-firsts.ensures.valid c.points-seconds.ensures.valid c.in-Some.time (sym c.in-Some.ensures) _ inv.0

pub combined_point-p-requires-clause-right : goal.combined_point-p-requires-clause-right
combined_point-p-requires-clause-right c =
    let inv = c.loop-time.invariant in
    right_place _ _ _ _ _ _ _ inv.2 c.points-firsts.ensures.valid c.points-seconds.ensures.valid c.in-Some.time (sym c.in-Some.ensures) _ inv.1

pub returns-then-not-is_finite : goal.returns-then-not-is_finite
returns-then-not-is_finite c =
    lost _ _ _ _ _ _ _ c.loop-time.invariant.2 c.points-firsts.ensures.valid c.points-seconds.ensures.valid c.in-Some.time (sym c.in-Some.ensures) c.combined_point-p.result c.combined_point-p.ensures
    (sym c.is_finite.ensures ∙ c.if-not-is_finite.true)

pub loop-time-smaller : goal.loop-time-smaller
loop-time-smaller c =
    shorter _ _ _ _ _ _ _ c.loop-time.invariant.2 c.points-firsts.ensures.valid c.points-seconds.ensures.valid c.in-Some.time (sym c.in-Some.ensures) c.combined_point-p.result _ _ _
    c.combined_point-p.ensures c.key-key.ensures c.past-points.ensures c.past-others.ensures

pub loop-time-preserved : goal.loop-time-preserved
loop-time-preserved c =
    let inv = c.loop-time.invariant in (
      inv.0,
      inv.1,
      turn _ _ _ _ _ _ _ inv.2 c.points-firsts.ensures.valid c.points-seconds.ensures.valid c.in-Some.time (sym c.in-Some.ensures) c.combined_point-p.result _ _ _ _ c.combined_point-p.ensures
          c.key-key.ensures (sym c.is_finite.ensures ∙ c.if-not-is_finite.false) c.past-points.ensures c.past-others.ensures c.push.ensures,
    )

pub returns-then-fits : goal.returns-then-fits
returns-then-fits c =
    rw c.if-fits.true at (ended _ _ _ _ _ _ _ c.loop-time.invariant.2 c.points-firsts.ensures.valid c.points-seconds.ensures.valid (sym c.in_default.ensures))

pub returns-else-fits : goal.returns-else-fits
returns-else-fits c =
    rw c.if-fits.false at (ended _ _ _ _ _ _ _ c.loop-time.invariant.2 c.points-firsts.ensures.valid c.points-seconds.ensures.valid (sym c.in_default.ensures))
