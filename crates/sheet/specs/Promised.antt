-- What is promised beyond the functions' contracts: statements alone, each proved by the law that its comment names.
use Rattle.std.specs.Prelude.{ℕ, ◌≡◌, true, List}
use Rattle.envelope.specs.Envelope.{valid_envelope}
use Rattle.envelope.specs.Typed.{typed}
use Rattle.envelope.specs.declared.AutomationEnvelope.{AutomationEnvelope}
use Rattle.sheet.specs.Sheet.{sheet, read_sheet}
use Rattle.sheet.specs.Text.{sheet_text}

-- the two round trips (proofs/RoundTrip): what the writer writes, the reader reads back as the same envelope (`written_is_read`)
abbrev pub WrittenIsRead : Type 0
WrittenIsRead = (e : AutomationEnvelope) → valid_envelope e ≡ true → typed e ≡ true → read_sheet (sheet_text e) ≡ sheet e

-- and what the reader accepts, the writer writes as the same bytes (`read_is_written`)
abbrev pub ReadIsWritten : Type 0
ReadIsWritten = (l : List ℕ) (e : AutomationEnvelope) → read_sheet l ≡ sheet e → sheet_text e ≡ l

-- what the reader accepts is a valid envelope (`read_is_valid`)
abbrev pub ReadIsValid : Type 0
ReadIsValid = (l : List ℕ) (e : AutomationEnvelope) → read_sheet l ≡ sheet e → valid_envelope e ≡ true
