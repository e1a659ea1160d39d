use Rattle.std.proofs.Common.{rules}
use Rattle.std.proofs.lemmas.List.Sorted.{answers_always}
use Rattle.points.specs.Points.{time_key}
use Rattle.insert.proofs.Inserting.{goes_to}
use Rattle.insert.proofs.place_of.Goals as goal

pub returns : goal.returns
returns c =
    let found = c.binary_search_by_key in
    goes_to c.args.p c.args.points.now _ _ c.key.ensures c.requires found.ensures.bound
    (found.ensures.position time_key (answers_always _ _ _ (λ f a r f' h. search rules)))
