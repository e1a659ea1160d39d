-- 01, "The sheet": the point lines one after the other. "Sheet: line by line", lines counted from 1.
use Rattle.std.specs.Prelude.{ℕ, zero, suc, ◌+◌, Bool, true, false, cond, ◌&&◌, ◌||◌, List, [], ◌∷◌, ◌++◌, length, drop}
use Rattle.points.specs.Points.{holding, rising}
use Rattle.points.specs.declared.AutomationPoint.{AutomationPoint}
use Rattle.points.specs.declared.Points.{Points}
use Rattle.fields.specs.Form.{text, starts_with}
use Rattle.lines.specs.Lines.{Line, refused, line, point_line}

-- some lines: a refusal with its number and its line, or what they say and the bytes after them
pub data Lines (A : Type 0) : Type 0 where
  stop : ℕ → ℕ → Lines A
  lines : A → List ℕ → Lines A

-- a refusal of line k with its number, or the lines after it
abbrev pub onward : {A B : Type 0} → ℕ → Line A → (A → List ℕ → Lines B) → Lines B
onward k (refused n) next = stop n k
onward k (line a rest) next = next a rest

-- the names line above rate and duration
abbrev pub block_names : List ℕ
block_names = text "rate duration\n"

-- no bytes are left
unfoldable pub is_empty : List ℕ → Bool
is_empty [] = true
is_empty (b ∷ l) = false

-- the points end where the bytes do; "In the program the points end at `rate duration`."
unfoldable pub points_end : Bool → List ℕ → Bool
points_end program l = cond program (starts_with block_names l) (is_empty l)

-- in the program: the names above rate and duration without their last byte, and nothing after them
unfoldable pub cut_short : Bool → List ℕ → Bool
cut_short program l = program && (starts_with (text "rate duration") l && is_empty (drop 13 l))

-- the line of the point after these: the first point stands on line 4
abbrev pub line_after : List AutomationPoint → ℕ
line_after ps = length ps + 4

-- the lines after those of the points `before`, with room for so many points more. "the 257th point line is 5", whatever it holds.
-- "A line missing .. is 9 at its number": so it is with no line there, or with the block's, cut short.
-- "then 6": "resulting times don't rise"
unfoldable pub point_lines : Bool → ℕ → List AutomationPoint → List ℕ → Lines Points
point_lines program zero before l =
    cond (points_end program l) (lines (holding before) l)
    (cond (is_empty l || cut_short program l) (stop 9 (line_after before)) (stop 5 (line_after before)))
point_lines program (suc room) before l =
    cond (points_end program l) (lines (holding before) l)
    (onward (line_after before) (point_line l) (λ p rest.
    cond (rising (before ++ (p ∷ []))) (point_lines program room (before ++ (p ∷ [])) rest) (stop 6 (line_after before))))
