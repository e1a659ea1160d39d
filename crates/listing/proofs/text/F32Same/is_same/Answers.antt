-- Two values of f32 are the same exactly where their patterns are.
use lib.Ieee.{binary32}
use Rattle.numbers.proofs.Tests.{yes}
use Rattle.numbers.proofs.BitLaws.{same_bits_lem}
use Rattle.listing.proofs.text.F32Same.is_same.Goals as goal

pub returns : goal.returns
returns c =
    rw (c.f32_to_bits_with_nan.ensures, c.f32_to_bits_with_nan-2.ensures)
    (same_bits_lem binary32 c.args.self c.args.other (yes c.well_formed.0.1) (yes c.well_formed.1.0.1))
