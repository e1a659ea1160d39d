-- What the code's answers say, in the terms of the definitions.
use Rattle.std.specs.Prelude.{Err, Ok, Result}
use Rattle.points.specs.Refusal.{number}
use Rattle.envelope.specs.declared.AutomationEnvelope.{AutomationEnvelope}
use Rattle.lines.specs.declared.SheetRefusal.{SheetRefusal}
use Rattle.sheet.specs.Sheet.{Read, refusal, sheet, Input, declined, input}
use Rattle.sheet.specs.declared.play.PlayInput.{PlayInput}

-- the reader's answer
abbrev pub told_read : Result AutomationEnvelope SheetRefusal → Read
told_read (Ok e) = sheet e
told_read (Err r) = refusal (number r.refusal) r.line

-- the program's answer to its input
abbrev pub told_input : Result PlayInput SheetRefusal → Input
told_input (Ok p) = input p.envelope (record { rate = p.rate; duration = p.duration })
told_input (Err r) = declined (number r.refusal) r.line
