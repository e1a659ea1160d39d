-- 01, "The sheet": what the writer writes.
use Rattle.std.specs.Prelude.{ℕ, cond, List, [], ◌∷◌, ◌++◌, length, drop, leb, eqb, Option, option_map, Float}
use Rattle.std.specs.List.{flat_map}
use Rattle.std.specs.Float.{binary32, binary64}
use Rattle.std.specs.Float.Ieee.{to_bits}
use Rattle.curve.specs.Curve.{code, controls}
use Rattle.points.specs.Refusal.{Said, refuses, gives}
use Rattle.points.specs.Points.{list_of}
use Rattle.points.specs.declared.AutomationPoint.{AutomationPoint}
use Rattle.envelope.specs.Envelope.{valid_envelope}
use Rattle.envelope.specs.declared.AutomationEnvelope.{AutomationEnvelope}
use Rattle.fields.specs.Form.{space, newline}
use Rattle.fields.specs.Text.{digits_of, number_text, optional_text, places_of, decimal_text}
use Rattle.lines.specs.Lines.{dashes}
use Rattle.sheet.specs.Sheet.{setting_names, point_names}
use Rattle.lines.specs.declared.settings.RawSettings.{RawSettings}
use Rattle.lines.specs.declared.point.RawPoint.{RawPoint}

-- ---- lines

-- the settings line, with hard "after step" (F-1)
unfoldable pub settings_text : RawSettings → List ℕ
unfolding digits_of places_of optional_text
settings_text r =
    decimal_text space r.target ++ (number_text 2 1 space r.enabled
    ++ (optional_text 8 space r.min ++ (optional_text 8 space r.max ++ (optional_text 8 space r.step ++ number_text 2 1 newline r.hard))))

-- the two last fields: numbers for 05, dashes for every other code
abbrev pub controls_text : ℕ → ℕ → ℕ → List ℕ
controls_text code cp1 cp2 = cond (eqb code 5) (number_text 16 8 space cp1 ++ number_text 16 8 newline cp2) dashes

-- a point's line
unfoldable pub point_text : RawPoint → List ℕ
unfolding digits_of optional_text
point_text r =
    number_text 16 16 space r.time ++ (optional_text 16 space r.position
    ++ (number_text 16 8 space r.value ++ (number_text 10 2 space r.curve ++ controls_text r.curve r.cp1 r.cp2)))

-- ---- "Numbers are bits"

-- a limit's bits, or none
abbrev pub limit_bits : Option Float → Option ℕ
limit_bits p = option_map (λ x. to_bits binary32 x) p

-- the settings' numbers
unfoldable pub raw_settings : AutomationEnvelope → RawSettings
raw_settings e = record {
  target = e.target;
  enabled = cond e.enabled 1 0;
  min = limit_bits e.min_value;
  max = limit_bits e.max_value;
  step = limit_bits e.step_size;
  hard = cond e.hard 1 0;
}

-- a point's numbers
unfoldable pub raw_point : AutomationPoint → RawPoint
raw_point p = record {
  time = to_bits binary64 p.time;
  position = p.sample_position;
  value = to_bits binary32 p.value;
  curve = code p.curve;
  cp1 = to_bits binary32 (controls p.curve).cp1;
  cp2 = to_bits binary32 (controls p.curve).cp2;
}

-- ---- the whole sheet

-- the lines of the points, one after the other
unfoldable pub point_texts : List AutomationPoint → List ℕ
unfolding raw_point point_text
point_texts ps = flat_map (λ p. point_text (raw_point p)) ps

-- names, settings, names, points
unfoldable pub sheet_text : AutomationEnvelope → List ℕ
unfolding settings_text raw_settings point_texts
sheet_text e = setting_names ++ (settings_text (raw_settings e) ++ (point_names ++ point_texts (list_of e.points)))

-- ---- the writer: what it says, and the lent list after it

pub record WriteTold : Type 0 where
  pub said : Said ℕ
  pub bytes : List ℕ

-- 1, then 8: "the answer needs more places than the lent part has". Else the bytes stand from the start, and the places after them stay.
unfoldable pub write_sheet : AutomationEnvelope → List ℕ → WriteTold
unfolding sheet_text
write_sheet e out =
    cond (valid_envelope e)
    (cond (leb (length (sheet_text e)) (length out))
    (record { said = gives (length (sheet_text e)); bytes = sheet_text e ++ drop (length (sheet_text e)) out })
    (record { said = refuses 8; bytes = out }))
    (record { said = refuses 1; bytes = out })
