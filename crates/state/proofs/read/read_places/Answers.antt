-- `state::read::read_places` meets its contract: each turn has four words more (`turn_clear`, `turn_put`), those that are no point's end it (`turn_other`), and where no
-- four words are left all are read (`turns_end`).
use Rattle.std.proofs.Common.{arith, ◌∙◌}
use Rattle.state.proofs.Words.{turns_begin, turn_put, turn_clear, turn_other, turns_end}
use Rattle.state.proofs.read.read_places.Goals as goal

pub loop-i-init : goal.loop-i-init
loop-i-init c = (cc, turns_begin c.requires (cc) (cc) c.unused-places.ensures)

pub returns-then-ne-2 : goal.returns-then-ne-2
returns-then-ne-2 c =
    let step = c.in-Some.ensures.steps.0 in
    turn_other c.loop-i.invariant.1 c.in-Some.w.now _ step.1.0 (step.1.1 ∙ c.loop-i.invariant.0) (grind arith)

pub loop-i-preserved-then-ne : goal.loop-i-preserved-then-ne
loop-i-preserved-then-ne c =
    let step = c.in-Some.ensures.steps.0 in (
      step.0 ∙ c.loop-i.invariant.0,
      rw (c.in-Some.ensures.steps.2, c.in-Some.ensures.steps.1) (turn_put c.loop-i.invariant.1 c.in-Some.w.now _ step.1.0 (step.1.1 ∙ c.loop-i.invariant.0) _ c.read_point-p.ensures (grind arith)),
    )

pub loop-i-preserved : goal.loop-i-preserved
loop-i-preserved c =
    let step = c.in-Some.ensures.steps.0 in
    (step.0 ∙ c.loop-i.invariant.0, rw c.in-Some.ensures.steps.2 (turn_clear c.loop-i.invariant.1 c.in-Some.w.now _ step.1.0 (step.1.1 ∙ c.loop-i.invariant.0) (grind arith)))

pub returns : goal.returns
returns c =
    let step = c.in-None.ensures.steps.0 in
    turns_end c.loop-i.invariant.1 (omega (arith, step.1.0, c.loop-i.invariant.0))
