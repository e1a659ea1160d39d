-- What the code's answers say, in the terms of the definitions: a value and a reference to the bytes after it, or a refusal.
use Rattle.std.specs.Prelude.{ℕ, List, Err, Ok, Result}
use Rattle.std.specs.Borrow.{Bor}
use Rattle.points.specs.Refusal.{number}
use Rattle.points.specs.declared.refusal.Refusal.{Refusal}
use Rattle.lines.specs.Lines.{Line, refused, line}
use Rattle.lines.specs.PointLines.{Lines, stop, lines}
use Rattle.lines.specs.declared.SheetRefusal.{SheetRefusal}

-- a line
abbrev pub told_line : {A : Type 0} → Result (A × Bor (List ℕ)) Refusal → Line A
told_line (Ok p) = line p.0 p.1.now
told_line (Err r) = refused (number r)

-- some lines
abbrev pub told_lines : {A : Type 0} → Result (A × Bor (List ℕ)) SheetRefusal → Lines A
told_lines (Ok p) = lines p.0 p.1.now
told_lines (Err r) = stop (number r.refusal) r.line
