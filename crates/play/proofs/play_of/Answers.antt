use Rattle.std.proofs.lemmas.Result.{err_from_is_err_and}
use Rattle.play.proofs.Opening.{refused_leaves, many_leaves, few_leaves}
use Rattle.play.proofs.play_of.Goals as goal

pub returns-in_err-input : goal.returns-in_err-input
returns-in_err-input c =
    let p = err_from_is_err_and c.from_residual.result c.from_residual.ensures.1 in
    rw (p.1, p.2) (refused_leaves _ _ c.in_err-input.ensures)

pub returns-then-count-gt-MOST_SAMPLES : goal.returns-then-count-gt-MOST_SAMPLES
returns-then-count-gt-MOST_SAMPLES c = many_leaves _ _ _ c.in_ok-input.ensures _ c.saturating_f64_to_u64-count.ensures c.if-count-gt-MOST_SAMPLES.true

pub returns : goal.returns
returns c = few_leaves _ _ _ c.in_ok-input.ensures _ c.saturating_f64_to_u64-count.ensures c.if-count-gt-MOST_SAMPLES.false
