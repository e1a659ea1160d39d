-- 01's example of "The sheet", read and written, and refusals with their lines.
use Rattle.std.specs.Prelude.{ℕ, ◌≡◌, refl, Bool, true, false, List, [], ◌∷◌, ◌++◌, map, None}
use Prim.Native.String.{String}
use Rattle.std.specs.Float.Ieee.{of_bits, to_bits}
use Rattle.std.specs.Float.{binary32, binary64}
use Rattle.numbers.specs.Bounds.{finite}
use Rattle.numbers.specs.Order.{order_key}
use Rattle.curve.specs.Curve.{code, controls, curve_of}
use Rattle.curve.specs.declared.CurveType.TheVariants.{Linear}
use Rattle.points.specs.Points.{holding, rising_by}
use Rattle.points.specs.declared.AutomationPoint.{AutomationPoint}
use Rattle.envelope.specs.declared.AutomationEnvelope.{AutomationEnvelope}
use Rattle.fields.specs.Form.{text, starts_with, next_is, read_digits, number_form, optional_form, decimals, next_digit, target_form}
use Rattle.lines.specs.Lines.{settings_form, limit_of, finite_bits, settings_meaning, settings_line, controls_form, point_form, point_meaning, point_line, block_form, block_meaning, block_line}
use Rattle.lines.specs.PointLines.{stop, block_names, is_empty, points_end, cut_short, line_after, point_lines}
use Rattle.sheet.specs.Sheet.{setting_names, point_names, sheet_lines, Read, refusal, sheet, read_sheet, Input, declined, input, play_input}
use Rattle.fields.specs.Text.{digit_byte, digits_of, optional_text, places_of}
use Rattle.sheet.specs.Text.{settings_text, point_text, raw_settings, raw_point, point_texts, sheet_text}

-- ---- 01's example; "01's example gains a 0" (F-1)

abbrev head : List ℕ
head = setting_names ++ text "0 1 - - - 0\n" ++ point_names

abbrev first : List ℕ
first = text "0000000000000000 - 00000000 00 - -\n"

abbrev second : List ℕ
second = text "4010000000000000 - 3F800000 00 - -\n"

abbrev block : List ℕ
block = block_names ++ text "3FF0000000000000 4008000000000000\n"

-- a point by the bits of its time and value, Linear
abbrev linear : ℕ → ℕ → AutomationPoint
linear time value = record { time = of_bits binary64 time; sample_position = None; value = of_bits binary32 value; curve = Linear }

-- the settings of line 2, with this hard and these points
abbrev with_points : Bool → List AutomationPoint → AutomationEnvelope
with_points hard ps = record {
  target = 0;
  points = holding ps;
  enabled = true;
  min_value = None;
  max_value = None;
  step_size = None;
  hard = hard;
}

-- (0, 0) and (4, 1)
abbrev envelope : AutomationEnvelope
envelope = with_points false (linear 0 0 ∷ linear 0x4010_0000_0000_0000 0x3F80_0000 ∷ [])

pub example_read : read_sheet (head ++ first ++ second) ≡ sheet envelope
unfolding starts_with next_is read_digits number_form optional_form decimals next_digit target_form settings_form limit_of finite_bits settings_meaning settings_line controls_form point_form point_meaning point_line is_empty points_end point_lines sheet_lines read_sheet finite of_bits to_bits order_key rising_by curve_of
example_read = refl

-- one sample a second, for 3 seconds
pub example_input : play_input (head ++ first ++ second ++ block) ≡ input envelope (record { rate = of_bits binary64 0x3FF0_0000_0000_0000; duration = of_bits binary64 0x4008_0000_0000_0000 })
unfolding starts_with next_is read_digits number_form optional_form decimals next_digit target_form settings_form limit_of finite_bits settings_meaning settings_line controls_form point_form point_meaning point_line block_form block_meaning block_line is_empty points_end point_lines sheet_lines play_input finite of_bits to_bits order_key rising_by curve_of
example_input = refl

pub example_written : sheet_text envelope ≡ head ++ first ++ second
unfolding digit_byte digits_of optional_text places_of settings_text point_text raw_settings raw_point point_texts sheet_text of_bits to_bits code controls
example_written = refl

-- ---- other sheets: most are refused, each with its number and its line

abbrev settings : String → List ℕ
settings line = setting_names ++ text line

-- hard is 1 on line 2, and there are no points
abbrev hardened : List ℕ
hardened = settings "0 1 - - - 1\n" ++ point_names

abbrev point : String → List ℕ
point line = head ++ text line

-- the times of the points on lines 4 and 5
abbrev times : String → String → List ℕ
times a b = head ++ text a ++ text " - 00000000 00 - -\n" ++ text b ++ text " - 00000000 00 - -\n"

abbrev cases : List (List ℕ × Read)
cases =
    -- nothing, names without their 0A, and names "without it" (F-1)
    ([], refusal 9 1)
    ∷ (text "target enabled min max step hard", refusal 9 1)
    ∷ (text "target enabled min max step\n" ++ text "0 1 - - - 0\n" ++ point_names, refusal 9 1)
    -- a leading zero, 2^32, enabled 2, an infinite minimum
    ∷ (settings "00 1 - - - 0\n", refusal 9 2)
    ∷ (settings "4294967296 1 - - - 0\n", refusal 9 2)
    ∷ (settings "4294967295 2 - - - 0\n", refusal 9 2)
    ∷ (settings "4294967295 1 FF800000 - - 0\n", refusal 3 2)
    -- no hard, hard 2, a dash for it
    ∷ (settings "0 1 - - -\n", refusal 9 2)
    ∷ (settings "0 1 - - - 2\n", refusal 9 2)
    ∷ (settings "0 1 - - - -\n", refusal 9 2)
    -- an infinite minimum, and a step of one digit or hard 2: the form comes first
    ∷ (settings "0 1 7F800000 - 0 0\n", refusal 9 2)
    ∷ (settings "0 1 7F800000 - - 2\n", refusal 9 2)
    -- no names of the points
    ∷ (settings "0 0 - - - 0\n", refusal 9 3)
    -- no points at all, and so with hard 1
    ∷ (head, sheet (with_points false []))
    ∷ (hardened, sheet (with_points true []))
    -- a lower-case digit, two spaces, a line without its 0A
    ∷ (point "0000000000000000 - 3f800000 00 - -\n", refusal 9 4)
    ∷ (point "0000000000000000  - 3F800000 00 - -\n", refusal 9 4)
    ∷ (point "0000000000000000 - 3F800000 00 - -", refusal 9 4)
    -- curves: 06, 22, 06 with controls, 05 without
    ∷ (point "0000000000000000 - 3F800000 06 - -\n", refusal 2 4)
    ∷ (point "0000000000000000 - 3F800000 22 - -\n", refusal 2 4)
    ∷ (point "0000000000000000 - 3F800000 06 00000000 00000000\n", refusal 9 4)
    ∷ (point "0000000000000000 - 3F800000 05 - -\n", refusal 9 4)
    -- an infinite time stands left of the curve; a control that is no number; the form comes first
    ∷ (point "7FF0000000000000 - 3F800000 06 - -\n", refusal 3 4)
    ∷ (point "0000000000000000 - 3F800000 05 00000000 7FC00000\n", refusal 3 4)
    ∷ (point "7FF0000000000000 - 3F800000 00 - 0\n", refusal 9 4)
    -- the same time again, and −0.0 after 0.0
    ∷ (times "0000000000000000" "0000000000000000", refusal 6 5)
    ∷ (times "0000000000000000" "8000000000000000", refusal 6 5)
    -- 9, 3 and 2 on a line whose time falls come before 6
    ∷ (head ++ second ++ text "0000000000000000 - 3f800000 00 - -\n", refusal 9 5)
    ∷ (head ++ second ++ text "0000000000000000 - 7F800000 00 - -\n", refusal 3 5)
    ∷ (head ++ second ++ text "0000000000000000 - 3F800000 06 - -\n", refusal 2 5)
    -- "line by line": 3 on line 4, 9 on line 5
    ∷ (point "7FF0000000000000 - 3F800000 00 - -\n" ++ text "\n", refusal 3 4)
    -- an empty line at the end
    ∷ (head ++ first ++ second ++ text "\n", refusal 9 6)
    ∷ []

pub cases_hold : map (λ c. read_sheet c.0) cases ≡ map (λ c. c.1) cases
unfolding starts_with next_is read_digits number_form optional_form decimals next_digit target_form settings_form limit_of finite_bits settings_meaning settings_line controls_form point_form point_meaning point_line is_empty points_end point_lines sheet_lines read_sheet finite of_bits to_bits order_key rising_by curve_of
cases_hold = refl

pub hard_written : sheet_text (with_points true []) ≡ hardened
unfolding digit_byte digits_of optional_text places_of settings_text raw_settings point_texts sheet_text
hard_written = refl

abbrev inputs : List (List ℕ × Input)
inputs =
    -- no block, a block whose names have a carriage return, no numbers, a rate that is no number, the form before that, a line too many
    (head ++ first ++ second, declined 9 6)
    ∷ (head ++ first ++ second ++ text "rate duration\r\n", declined 9 6)
    ∷ (head ++ first ++ second ++ block_names, declined 9 7)
    ∷ (head ++ first ++ second ++ block_names ++ text "7FF8000000000000 4008000000000000\n", declined 3 7)
    ∷ (head ++ first ++ second ++ block_names ++ text "7FF8000000000000 400800000000000\n", declined 9 7)
    ∷ (head ++ first ++ second ++ block ++ text "\n", declined 9 8)
    ∷ []

pub inputs_hold : map (λ c. play_input c.0) inputs ≡ map (λ c. c.1) inputs
unfolding starts_with next_is read_digits number_form optional_form decimals next_digit target_form settings_form limit_of finite_bits settings_meaning settings_line controls_form point_form point_meaning point_line block_form block_meaning block_line is_empty points_end point_lines sheet_lines play_input finite of_bits to_bits order_key rising_by curve_of
inputs_hold = refl

-- the program's lines after 256 points, whichever they are: no line, the block's names without their 0A, and others
abbrev after_last : List (List ℕ × ℕ)
after_last =
    ([], 9)
    ∷ (text "rate duration", 9)
    ∷ (text "rate duratio", 5)
    ∷ (text "rate duration\r", 5)
    ∷ (text "rate duration ", 5)
    ∷ (first, 5)
    ∷ []

pub full_hold : (ps : List AutomationPoint) → map (λ c. point_lines true 0 ps c.0) after_last ≡ map (λ c. stop c.1 (line_after ps)) after_last
unfolding starts_with is_empty points_end cut_short point_lines
full_hold ps = refl
