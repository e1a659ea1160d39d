-- `bench_exports::one_nan` meets its contract: the bits of a number read as the number.
use mathlib.Core.Path.{ap, ◌∙◌}
use lib.Ieee.{binary32, of_bits}
use lib.Ieee.Bits.{of_bits-to_bits}
use Rattle.numbers.proofs.Tests.{yes}
use Rattle.bench_exports.proofs.one_nan.Goals as goal

pub returns : goal.returns
returns c = c.f32_from_bits_with_nan.ensures ∙ ap (of_bits binary32) c.f32_to_bits_with_nan.ensures ∙ of_bits-to_bits binary32 c.args.x (yes c.well_formed.0.1)
