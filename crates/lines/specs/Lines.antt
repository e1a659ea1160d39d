-- 01, "The sheet": the settings line, a point's line and the line of rate and duration. Each has a form and a meaning.
-- "Sheet: .. 9, then fields left to right for 3 and 2": the form of the whole line, its 0A included, comes before what its numbers mean.
use Rattle.std.specs.Prelude.{ℕ, Bool, true, false, cond, List, drop, eqb, None, Option, Some, Float}
use Rattle.std.specs.Float.{binary32, binary64}
use Rattle.std.specs.Float.Ieee.{of_bits}
use Rattle.numbers.specs.Bounds.{finite}
use Rattle.curve.specs.Curve.{curve_of, known}
use Rattle.points.specs.Refusal.{Said, refuses, gives}
use Rattle.points.specs.declared.AutomationPoint.{AutomationPoint}
use Rattle.fields.specs.Form.{Got, bad, got, then, space, newline, text, starts_with, number_form, optional_form, target_form}
use Rattle.lines.specs.declared.settings.RawSettings.{RawSettings}
use Rattle.lines.specs.declared.settings.Settings.{Settings}
use Rattle.lines.specs.declared.point.RawPoint.{RawPoint}
use Rattle.lines.specs.declared.block.RawBlock.{RawBlock}
use Rattle.lines.specs.declared.block.Block.{Block}

-- a line: refused with a number, or what it says and the bytes after it
pub data Line (A : Type 0) : Type 0 where
  refused : ℕ → Line A
  line : A → List ℕ → Line A

-- a line of the right form, by the meaning of its numbers: refused, or what it says and the bytes after it
abbrev pub meant : {A : Type 0} → List ℕ → Said A → Line A
meant rest (refuses n) = refused n
meant rest (gives a) = line a rest

-- its form, "else 9", then its meaning
abbrev pub line_of : {A B : Type 0} → (A → Said B) → Got A → Line B
line_of meaning bad = refused 9
line_of meaning (got raw rest) = meant rest (meaning raw)

-- refused with the number n unless the test holds
abbrev pub check : {A : Type 0} → Bool → ℕ → Said A → Said A
check true n x = x
check false n x = refuses n

-- ---- "target enabled min max step", and "a column after step in the sheet (named hard, 0 or 1; a sheet without it gives 9 ..)" (F-1)

-- "Enabled: 0 or 1": one digit of base 2, and so is hard
unfoldable pub settings_form : List ℕ → Got RawSettings
settings_form l =
    then (target_form l) (λ target l1.
    then (number_form 2 1 space l1) (λ enabled l2.
    then (optional_form 8 space l2) (λ min l3.
    then (optional_form 8 space l3) (λ max l4.
    then (optional_form 8 space l4) (λ step l5.
    then (number_form 2 1 newline l5) (λ hard l6.
    got (record { target = target; enabled = enabled; min = min; max = max; step = step; hard = hard }) l6))))))

-- an f32 from its bits, or none
unfoldable pub limit_of : Option ℕ → Option Float
limit_of None = None
limit_of (Some b) = Some (of_bits binary32 b)

-- none, or the bits of a finite f32
unfoldable pub finite_bits : Option ℕ → Bool
finite_bits None = true
finite_bits (Some b) = finite (of_bits binary32 b)

-- 3 for the minimum, the maximum and the step, from the left
unfoldable pub settings_meaning : RawSettings → Said Settings
settings_meaning r =
    check (finite_bits r.min) 3
    (check (finite_bits r.max) 3
    (check (finite_bits r.step) 3
    (gives (record { target = r.target; enabled = eqb r.enabled 1; min = limit_of r.min; max = limit_of r.max; step = limit_of r.step; hard = eqb r.hard 1 }))))

-- the settings line: 9 for its form, then 3
unfoldable pub settings_line : List ℕ → Line Settings
settings_line l = line_of settings_meaning (settings_form l)

-- ---- "time position value curve cp1 cp2"

-- "`-` .. required for the controls of every code but 05", which has two numbers
abbrev pub dashes : List ℕ
dashes = text "- -\n"

-- the last two fields of a point's line, with the 0A; 0 and 0 where they are dashes
unfoldable pub controls_form : ℕ → List ℕ → Got (ℕ × ℕ)
controls_form code l =
    cond (eqb code 5)
    (then (number_form 16 8 space l) (λ cp1 m. then (number_form 16 8 newline m) (λ cp2 n. got (cp1, cp2) n)))
    (cond (starts_with dashes l) (got (0, 0) (drop 4 l)) bad)

-- "Curve: two decimal digits"
unfoldable pub point_form : List ℕ → Got RawPoint
point_form l =
    then (number_form 16 16 space l) (λ time l1.
    then (optional_form 16 space l1) (λ position l2.
    then (number_form 16 8 space l2) (λ value l3.
    then (number_form 10 2 space l3) (λ curve l4.
    then (controls_form curve l4) (λ controls l5.
    got (record { time = time; position = position; value = value; curve = curve; cp1 = controls.0; cp2 = controls.1 }) l5)))))

-- 3 for time, value and controls, 2 for the curve, from the left. A plain curve's controls are 0.0.
unfoldable pub point_meaning : RawPoint → Said AutomationPoint
point_meaning r =
    let time = of_bits binary64 r.time in
    let value = of_bits binary32 r.value in
    let cp1 = of_bits binary32 r.cp1 in
    let cp2 = of_bits binary32 r.cp2 in
    check (finite time) 3
    (check (finite value) 3
    (check (known r.curve) 2
    (check (finite cp1) 3
    (check (finite cp2) 3
    (gives (record { time = time; sample_position = r.position; value = value; curve = curve_of r.curve cp1 cp2 }))))))

-- a point's line: 9 for its form, then 3 and 2
unfoldable pub point_line : List ℕ → Line AutomationPoint
point_line l = line_of point_meaning (point_form l)

-- ---- "rate duration"

-- the rate and the duration, "16 digits f64"
unfoldable pub block_form : List ℕ → Got RawBlock
block_form l =
    then (number_form 16 16 space l) (λ rate l1.
    then (number_form 16 16 newline l1) (λ duration l2.
    got (record { rate = rate; duration = duration }) l2))

-- 3 for the rate, then for the duration
unfoldable pub block_meaning : RawBlock → Said Block
block_meaning r =
    let rate = of_bits binary64 r.rate in
    let duration = of_bits binary64 r.duration in
    check (finite rate) 3 (check (finite duration) 3 (gives (record { rate = rate; duration = duration })))

-- the line of rate and duration: 9 for its form, then 3
unfoldable pub block_line : List ℕ → Line Block
block_line l = line_of block_meaning (block_form l)
