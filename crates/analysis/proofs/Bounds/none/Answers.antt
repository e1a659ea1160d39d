-- `analysis::Bounds::none` meets its contract: the infinities are their bits (`of_bits`).
use lib.Ieee.{of_bits}
use Rattle.analysis.proofs.Bounds.none.Goals as goal

pub returns : goal.returns
unfolding of_bits
returns c = cc
