-- `listing::text::number_of` meets its contract: a number of at most 16 hexadecimal digits fits.
use Rattle.std.proofs.Common.{arith}
use Rattle.listing.proofs.Digits.{more, more_fits}
use Rattle.listing.proofs.text.number_of.Goals as goal

pub overflow_mul-n : goal.overflow_mul-n
overflow_mul-n c =
    let loop = c.loop-b in
    omega (arith, more_fits loop.b-index 16 loop.n 0 loop.invariant (omega arith) (omega arith) (omega arith))

pub overflow_add-n : goal.overflow_add-n
overflow_add-n c =
    let loop = c.loop-b in
    omega (arith, more_fits loop.b-index 16 loop.n c.in_ok-n.field-0 loop.invariant (omega arith) (omega arith) (omega arith))

pub loop-b-preserved : goal.loop-b-preserved
loop-b-preserved c = more _ _ _ c.loop-b.invariant (omega arith)
