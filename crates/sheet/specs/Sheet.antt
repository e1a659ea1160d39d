-- 01, "The sheet": its lines one after the other, and the program's input. "Sheet: line by line", lines counted from 1.
use Rattle.std.specs.Prelude.{ℕ, ◌+◌, Bool, true, false, cond, List, [], length, drop}
use Rattle.points.specs.declared.Points.{Points}
use Rattle.envelope.specs.declared.AutomationEnvelope.{AutomationEnvelope}
use Rattle.fields.specs.Form.{text, starts_with}
use Rattle.lines.specs.Lines.{Line, refused, line, settings_line, block_line}
use Rattle.lines.specs.PointLines.{Lines, stop, lines, onward, block_names, is_empty, point_lines}
use Rattle.lines.specs.declared.settings.Settings.{Settings}
use Rattle.lines.specs.declared.block.Block.{Block}

-- line k has to be these names, else 9; then the lines after it
abbrev pub named : {B : Type 0} → ℕ → List ℕ → List ℕ → (List ℕ → Lines B) → Lines B
named k names l next = cond (starts_with names l) (next (drop (length names) l)) (stop 9 k)

-- line 1: 01's names, and "a column after step in the sheet (named hard, 0 or 1; a sheet without it gives 9 ..)" (F-1)
abbrev pub setting_names : List ℕ
setting_names = text "target enabled min max step hard\n"

-- line 3
abbrev pub point_names : List ℕ
point_names = text "time position value curve cp1 cp2\n"

-- ---- a sheet's lines, up to where the points end

-- the envelope with these settings and points
abbrev pub envelope_from : Settings → Points → AutomationEnvelope
envelope_from s ps = record { target = s.target; points = ps; enabled = s.enabled; min_value = s.min; max_value = s.max; step_size = s.step; hard = s.hard }

-- the points with the settings of line 2
abbrev pub with_settings : Settings → Lines Points → Lines AutomationEnvelope
with_settings s (stop n k) = stop n k
with_settings s (lines ps rest) = lines (envelope_from s ps) rest

-- names, settings, names, points
unfoldable pub sheet_lines : Bool → List ℕ → Lines AutomationEnvelope
sheet_lines program l =
    named 1 setting_names l (λ l1.
    onward 2 (settings_line l1) (λ settings l2.
    named 3 point_names l2 (λ l3.
    with_settings settings (point_lines program 256 [] l3))))

-- ---- the sheet reader: a refusal "returns its number (the sheet reader adds the line, from 1)"

pub data Read : Type 0 where
  refusal : ℕ → ℕ → Read
  sheet : AutomationEnvelope → Read

-- the envelope, or the refusal with its line
abbrev pub read_from : Lines AutomationEnvelope → Read
read_from (stop n k) = refusal n k
read_from (lines e rest) = sheet e

-- the sheet reader
unfoldable pub read_sheet : List ℕ → Read
read_sheet l = read_from (sheet_lines false l)

-- ---- the program's input: "The program reads a sheet and one more block"

pub data Input : Type 0 where
  declined : ℕ → ℕ → Input
  input : AutomationEnvelope → Block → Input

-- "one too many at the end, is 9 at its number"
abbrev pub last_line : AutomationEnvelope → ℕ → Line Block → Input
last_line e k (refused n) = declined n k
last_line e k (line b rest) = cond (is_empty rest) (input e b) (declined 9 (k + 1))

-- the names stand at line 4 after no points, and the numbers a line later
abbrev pub block_from : Lines AutomationEnvelope → Input
block_from (stop n k) = declined n k
block_from (lines e rest) = last_line e (e.points.count + 5) (block_line (drop (length block_names) rest))

-- the program's input: a sheet and its block
unfoldable pub play_input : List ℕ → Input
play_input l = block_from (sheet_lines true l)
