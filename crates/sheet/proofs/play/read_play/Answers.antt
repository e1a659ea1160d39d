use Rattle.sheet.proofs.Sheets.{program_names}
use Rattle.sheet.proofs.play.read_play.Goals as goal

-- the block's names stand there
pub returns-in_err-s : goal.returns-in_err-s
returns-in_err-s c = let names = program_names _ _ _ c.in_ok-envelope.ensures in let none = c.in_err-s.ensures.err.0 in cc
