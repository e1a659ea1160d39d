-- 01, "The sheet": "The program reads a sheet and one more block, and prints names, then sample number in decimal and bits."
use Rattle.std.specs.Prelude.{ℕ, suc, cond, List, [], ◌∷◌, ◌++◌, leb, Float}
use Rattle.std.specs.Float.{binary32}
use Rattle.std.specs.Float.Ieee.{to_bits}
use Rattle.lookup.specs.Runs.{run}
use Rattle.render.specs.Render.{sample_count, most_samples}
use Rattle.envelope.specs.Calls.{samples_of}
use Rattle.fields.specs.Form.{text, space, newline}
use Rattle.sheet.specs.Sheet.{Input, declined, input, play_input}
use Rattle.fields.specs.Text.{digits_of, places_of, number_text, decimal_text}

-- "prints names": those above the samples, and those above a refusal
abbrev pub sample_names : List ℕ
sample_names = text "sample value\n"

-- the names above a refusal
abbrev pub refusal_names : List ℕ
refusal_names = text "refusal line\n"

-- "sample number in decimal and bits"; "Numbers are bits in capital hexadecimal (.. 8 digits f32)"
unfoldable pub sample_line : ℕ → Float → List ℕ
unfolding digits_of places_of
sample_line i x = decimal_text space i ++ number_text 16 8 newline (to_bits binary32 x)

-- the lines of samples, the first of which has the number i
unfoldable pub sample_lines : ℕ → List Float → List ℕ
unfolding sample_line
sample_lines i [] = []
sample_lines i (x ∷ xs) = sample_line i x ++ sample_lines (suc i) xs

-- "A refusal prints only `refusal line` and a line of both numbers in decimal"
unfoldable pub refusal_text : ℕ → ℕ → List ℕ
unfolding digits_of places_of
refusal_text n k = refusal_names ++ (decimal_text space n ++ decimal_text newline k)

-- "13 has line 0": "first sample plus count .. over 2^32 − 1"
unfoldable pub counted : Input → Input
counted (declined n k) = declined n k
counted (input e b) = cond (leb (sample_count b.rate b.duration) most_samples) (input e b) (declined 13 0)

-- the lines of every sample: the count is "duration times rate cut to whole"
unfoldable pub printed : Input → List ℕ
unfolding sample_lines refusal_text run
printed (declined n k) = refusal_text n k
printed (input e b) = sample_names ++ sample_lines 0 (run (samples_of e b.rate) 0 (sample_count b.rate b.duration))

-- what the program prints for an input
unfoldable pub output : List ℕ → List ℕ
unfolding counted printed play_input
output l = printed (counted (play_input l))
