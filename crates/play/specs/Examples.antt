-- 01's example of "The sheet", played, and refusals printed.
use Rattle.std.specs.Prelude.{ℕ, ◌≡◌, refl, List, [], ◌∷◌, ◌++◌, map}
use Prim.Native.String.{String}
use Rattle.std.specs.Float.Ieee.{of_bits, to_bits, to_unsigned, of_int, round, add, sub, mul, div, lt, le, is_nan}
use Rattle.numbers.specs.Bounds.{finite, min_num}
use Rattle.numbers.specs.Narrow.{narrow}
use Rattle.numbers.specs.Order.{order_key}
use Rattle.numbers.specs.Whole.{round_away}
use Rattle.curve.specs.Curve.{code, controls, finite_controls, interpolated, eased, clamped, curve_of}
use Rattle.points.specs.Points.{every, rising_by, valid_points}
use Rattle.points.specs.Search.{place_by}
use Rattle.limits.specs.Limits.{constrained}
use Rattle.lookup.specs.Lookup.{surrounded, fraction, found_at}
use Rattle.lookup.specs.Runs.{run}
use Rattle.fields.specs.Form.{text, starts_with, next_is, read_digits, number_form, optional_form, decimals, next_digit, target_form}
use Rattle.lines.specs.Lines.{settings_form, limit_of, finite_bits, settings_meaning, settings_line, controls_form, point_form, point_meaning, point_line, block_form, block_meaning, block_line}
use Rattle.lines.specs.PointLines.{is_empty, points_end, point_lines}
use Rattle.sheet.specs.Sheet.{sheet_lines, play_input}
use Rattle.fields.specs.Text.{digit_byte, digits_of, places_of}
use Rattle.play.specs.Play.{sample_line, sample_lines, refusal_text, counted, printed, output}
use Rattle.std.specs.Float.{round_with}

-- 01's input, "01's example gains a 0" (F-1), with a line of rate and duration
abbrev sheet : List ℕ
sheet =
    text "target enabled min max step hard\n" ++ text "0 1 - - - 0\n"
    ++ text "time position value curve cp1 cp2\n" ++ text "0000000000000000 - 00000000 00 - -\n" ++ text "4010000000000000 - 3F800000 00 - -\n"
    ++ text "rate duration\n"

-- P7's maximum, step and value with this hard, one sample
abbrev stepped : String → List ℕ
stepped hard =
    text "target enabled min max step hard\n" ++ text "0 1 - 3F800000 3F200000 " ++ text hard ++ text "\n"
    ++ text "time position value curve cp1 cp2\n" ++ text "0000000000000000 - 3F800000 00 - -\n" ++ text "rate duration\n" ++ text "3FF0000000000000 3FF0000000000000\n"

abbrev cases : List (List ℕ × List ℕ)
cases =
    -- 01's example
    (sheet ++ text "3FF0000000000000 4008000000000000\n", text "sample value\n0 00000000\n1 3E800000\n2 3F000000\n")
    -- "1e10 seconds at 48,000": 13 has line 0
    ∷ (sheet ++ text "40E7700000000000 4202A05F20000000\n", text "refusal line\n13 0\n")
    -- a lower-case digit, and nothing at all
    ∷ (sheet ++ text "3ff0000000000000 4008000000000000\n", text "refusal line\n9 7\n")
    ∷ ([], text "refusal line\n9 1\n")
    -- no samples: "prints names"
    ∷ (sheet ++ text "3FF0000000000000 C008000000000000\n", text "sample value\n")
    -- P7, and "P7's sibling with hard (1.0)" (F-1)
    ∷ (stepped "0", text "sample value\n0 3FA00000\n")
    ∷ (stepped "1", text "sample value\n0 3F800000\n")
    ∷ []

pub cases_hold : map (λ c. output c.0) cases ≡ map (λ c. c.1) cases
unfolding output printed counted refusal_text sample_lines sample_line digit_byte digits_of places_of run play_input sheet_lines point_lines points_end is_empty starts_with next_is read_digits number_form optional_form decimals next_digit target_form settings_form limit_of finite_bits settings_meaning settings_line controls_form point_form point_meaning point_line block_form block_meaning block_line finite of_bits to_bits order_key rising_by curve_of valid_points found_at surrounded place_by fraction constrained min_num round_with finite_controls controls code narrow interpolated eased to_unsigned of_int round add sub mul div lt le is_nan
cases_hold = refl
