-- `analysis::Bounds::of` meets its contract: the bounds are those of the first k lookups (`lookup_turn`).
use mathlib.Core.Path.{◌∙◌}
use Rattle.std.proofs.Common.{arith}
use Rattle.analysis.proofs.Ranges.{lookup_turn, lookup_none}
use Rattle.analysis.proofs.Bounds.of.Goals as goal

pub loop-k-init : goal.loop-k-init
loop-k-init g c = λ f h. c.none-bounds.ensures ∙ lookup_none f

pub loop-k-preserved : goal.loop-k-preserved
loop-k-preserved g c = λ f h. lookup_turn f c.loop-k.k _ _ _ (c.loop-k.invariant f h) c.add-bounds.ensures (h c.loop-k.k _ (omega arith) c.value.ensures)
