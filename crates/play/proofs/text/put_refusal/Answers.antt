use Rattle.points.specs.Refusal.{number}
use Rattle.play.proofs.Texts.{refusal_made}
use Rattle.play.proofs.text.put_refusal.Goals as goal

pub returns : goal.returns
returns c = refusal_made (number c.args.why.refusal) c.args.why.line c.requires c.fit_text-a.ensures (rw c.number.ensures at c.fit_decimal-b.ensures) c.fit_decimal.ensures
