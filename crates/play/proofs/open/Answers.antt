use borrow.Author.Rules.{rules}
use Rattle.play.proofs.Opening.{names_open, refusal_opens}
use Rattle.play.proofs.open.Goals as goal

pub returns-in-Ok : goal.returns-in-Ok
returns-in-Ok c = names_open _ _ c.in-Ok.ensures c.fit_text.ensures (search rules)

pub returns-in-Err : goal.returns-in-Err
returns-in-Err c = refusal_opens _ _ c.in-Err.ensures c.put_refusal.ensures (search rules)
