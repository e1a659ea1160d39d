use Rattle.std.proofs.Common.{set, take, ap, ◌∙◌, arith}
use Rattle.std.proofs.lemmas.List.{get_or_default}
use Rattle.std.proofs.lemmas.List.Edits.{map_over_more}
use Rattle.pointwise.specs.Each.{changed}
use Rattle.pointwise.proofs.change_first.Goals as goal

pub loop-p-preserved : goal.loop-p-preserved
loop-p-preserved c =
    let a = c.args in
    let h = c.loop-p in
    ap (set h.p-items h.p-index) c.apply.ensures
    ∙ map_over_more (changed a.change) (take a.n a.places.now) h.p-items h.p-index _ (omega arith) h.invariant (get_or_default h.p-items h.p-index _ _ (omega arith))
