use Rattle.fields.proofs.Stores.{text_put}
use Rattle.fields.proofs.write.fit_text.Goals as goal

pub returns-in-Some : goal.returns-in-Some
returns-in-Some c = text_put _ _ _ _ _ c.in-Some.ensures.1 c.if-end-out.true c.copy_from_slice.ensures.after
