-- `numbers::order::order_key` meets its contract.
-- Assumes nothing.
use Rattle.std.proofs.Common.{◌≡◌, ℕ, ◌+◌, ◌-◌, cond, ltb, arith, le-ltb, lt-ltb}
use lib.Ieee.{Float, binary64, to_bits}
use lib.Ieee.Bits.{to_bits-lt}
use Rattle.numbers.specs.Order.{order_key}
use Rattle.numbers.proofs.Tests.{yes}
use Rattle.numbers.proofs.order.order_key.Goals as goal

-- the key of the pattern b
turned : (x : Float) (b : ℕ) → b ≡ to_bits binary64 x → cond (ltb b 0x8000_0000_0000_0000) (b + 0x8000_0000_0000_0000) (0xFFFF_FFFF_FFFF_FFFF - b) ≡ order_key x
unfolding order_key
turned x b e = rw e

pub overflow_sub-result : goal.overflow_sub-result
overflow_sub-result c = omega (arith, c.before.f64_to_bits_with_nan-b.ensures, to_bits-lt binary64 c.args.x (yes c.well_formed.0.1))

pub returns-then-b-lt9223372036854775808 : goal.returns-then-b-lt9223372036854775808
returns-then-b-lt9223372036854775808 c = rw (lt-ltb _ _ c.if-b-lt9223372036854775808.true) at (turned c.args.x _ c.f64_to_bits_with_nan-b.ensures)

pub returns-else-b-lt9223372036854775808 : goal.returns-else-b-lt9223372036854775808
returns-else-b-lt9223372036854775808 c = rw (le-ltb _ _ c.if-b-lt9223372036854775808.false) at (turned c.args.x _ c.f64_to_bits_with_nan-b.ensures)
