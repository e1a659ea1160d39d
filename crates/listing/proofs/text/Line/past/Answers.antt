-- `listing::text::Line::past` meets its contract: what is gone past is w.
use Rattle.std.proofs.lemmas.Bool.Decides.{Decides-eqb}
use Rattle.std.proofs.lemmas.Slice.Eq.{strip_prefix_is}
use Rattle.listing.proofs.text.Line.past.Goals as goal

pub returns : goal.returns
returns c =
    let h = strip_prefix_is Decides-eqb c.args.self.now.rest.now c.args.w.now c.strip_prefix.result c.strip_prefix.ensures.cases in
    let k = rw c.in_ok-self.was at h in
    k
