-- `listing::text::number_of` meets its contract: after i digits the number is below 16 ^ i.
use Rattle.std.proofs.Common.{◌^◌, ◌<◌}
use Rattle.listing.proofs.text.number_of.Given as goal

abbrev pub invariant-loop-b : goal.invariant-loop-b
invariant-loop-b l = l.n < 16 ^ l.b-index
