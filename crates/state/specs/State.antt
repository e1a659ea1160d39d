-- 01, the session: "A stored state is 1,028 words (4 of settings, 4 a point), packed one-to-one as docs/ records." docs/STATE.md has the layout.
use Rattle.std.specs.Prelude.{ℕ, zero, suc, ◌+◌, ◌*◌, ◌/◌, ◌%◌, Bool, cond, ◌&&◌, List, [], ◌∷◌, ◌++◌, ltb, eqb, length, get_or, drop, Float, None, Option, Some, is_some, unwrap_or}
use Rattle.std.specs.List.{flat_map}
use Rattle.std.specs.Float.{binary32, binary64}
use Rattle.std.specs.Float.Ieee.{of_bits, to_bits}
use Rattle.curve.specs.Curve.{code, controls, curve_of}
use Rattle.curve.specs.declared.CurveType.{CurveType}
use Rattle.points.specs.Refusal.{Said, refuses, gives}
use Rattle.points.specs.Points.{every_pair}
use Rattle.points.specs.declared.AutomationPoint.{AutomationPoint}
use Rattle.limits.specs.Limits.{has_limit}
use Rattle.limits.specs.declared.Limits.{Limits}
use Rattle.envelope.specs.Envelope.{limits_of, valid_envelope}
use Rattle.envelope.specs.declared.AutomationEnvelope.{AutomationEnvelope}

-- "1,028 words": 4 + 4 * 256
abbrev pub state_words : ℕ
state_words = 1028

-- ---- a word of two halves of 32 bits

-- the word of its halves
abbrev pub halves : ℕ → ℕ → ℕ
halves high low = high * 0x1_0000_0000 + low

-- the upper half
abbrev pub high : ℕ → ℕ
high w = w / 0x1_0000_0000

-- the lower half
abbrev pub low : ℕ → ℕ
low w = w % 0x1_0000_0000

-- ---- a flag, and the bit of worth d in a number

-- 1 where it holds
abbrev pub flag : Bool → ℕ
flag b = cond b 1 0

-- whether that bit is set
abbrev pub bit : ℕ → ℕ → Bool
bit d n = eqb (n / d % 2) 1

-- ---- a number or none: a flag, and the number's bits or 0

-- its bits, or 0
abbrev pub limit_bits : Option Float → ℕ
limit_bits None = 0
limit_bits (Some x) = to_bits binary32 x

-- back from the flag and the bits
abbrev pub limit_of : Bool → ℕ → Option Float
limit_of has bits = cond has (Some (of_bits binary32 bits)) None

-- the position, or 0
abbrev pub position_word : Option ℕ → ℕ
position_word p = unwrap_or p 0

-- back from the flag and the word
abbrev pub position_of : Bool → ℕ → Option ℕ
position_of has n = cond has (Some n) None

-- ---- "4 of settings": the flags and the target; the count; the maximum and the minimum; the step

-- the flags: enabled, and whether there is a minimum, a maximum, a step; F-1's hard
abbrev pub flags : Bool → Limits → ℕ
flags enabled l =
    flag enabled + 2 * flag (has_limit l.min_value) + 4 * flag (has_limit l.max_value) + 8 * flag (has_limit l.step_size) + 16 * flag l.hard

-- the maximum above the minimum
abbrev pub bounds_word : Limits → ℕ
bounds_word l = halves (limit_bits l.max_value) (limit_bits l.min_value)

-- the four words of settings
unfoldable pub pack_settings : AutomationEnvelope → List ℕ
pack_settings e = halves (flags e.enabled (limits_of e)) e.target ∷ e.points.count ∷ bounds_word (limits_of e) ∷ limit_bits e.step_size ∷ []

-- ---- "4 a point": the time; the position; the controls, the second in the upper half; the curve's number with the position's flag, and the value

-- 0.0 stands for each control that a curve does not have, so the word is 0
abbrev pub controls_word : CurveType → ℕ
controls_word c = halves (to_bits binary32 (controls c).cp2) (to_bits binary32 (controls c).cp1)

-- the curve's number and the position's flag above the value
abbrev pub value_word : AutomationPoint → ℕ
value_word p = halves (code p.curve * 2 + flag (is_some p.sample_position)) (to_bits binary32 p.value)

-- the four words of a point
unfoldable pub pack_point : AutomationPoint → List ℕ
pack_point p = to_bits binary64 p.time ∷ position_word p.sample_position ∷ controls_word p.curve ∷ value_word p ∷ []

-- what stands in four words, whatever they are
unfoldable pub point_of : List ℕ → AutomationPoint
point_of w = record {
  time = of_bits binary64 (get_or w 0 0);
  sample_position = position_of (bit 1 (high (get_or w 3 0))) (get_or w 1 0);
  value = of_bits binary32 (low (get_or w 3 0));
  curve = curve_of (high (get_or w 3 0) / 2) (of_bits binary32 (low (get_or w 2 0))) (of_bits binary32 (high (get_or w 2 0)));
}

-- point after point
unfoldable pub pack_points : List AutomationPoint → List ℕ
pack_points = flat_map pack_point

-- n points, four words each
unfoldable pub points_of : ℕ → List ℕ → List AutomationPoint
points_of zero w = []
points_of (suc n) w = point_of w ∷ points_of n (drop 4 w)

-- ---- the whole state; the places past the count are packed too

-- the words of an envelope
unfoldable pub pack : AutomationEnvelope → List ℕ
pack e = pack_settings e ++ pack_points e.points.places

-- what stands in the words, whatever they are
unfoldable pub state_of : List ℕ → AutomationEnvelope
state_of w = record {
  target = low (get_or w 0 0);
  points = record { count = get_or w 1 0; places = points_of 256 (drop 4 w) };
  enabled = bit 1 (high (get_or w 0 0));
  min_value = limit_of (bit 2 (high (get_or w 0 0))) (low (get_or w 2 0));
  max_value = limit_of (bit 4 (high (get_or w 0 0))) (high (get_or w 2 0));
  step_size = limit_of (bit 8 (high (get_or w 0 0))) (low (get_or w 3 0));
  hard = bit 16 (high (get_or w 0 0));
}

-- x where the test holds
abbrev pub if_test : {A : Type 0} → Bool → A → Option A
if_test b x = cond b (Some x) None

-- the valid envelope that packs to these very words, if there is one
unfoldable pub unpacked : List ℕ → Option AutomationEnvelope
unpacked w = if_test (valid_envelope (state_of w) && every_pair eqb (pack (state_of w)) w) (state_of w)

-- ---- the calls

-- the answer of reading: 12, "stored state doesn't pack a valid envelope"
abbrev pub read_as : Option AutomationEnvelope → Said AutomationEnvelope
read_as None = refuses 12
read_as (Some e) = gives e

-- reading a state from lent words
unfoldable pub read_state : List ℕ → Said AutomationEnvelope
read_state w = read_as (unpacked w)

-- a state from the start of lent words, if they have room for it: the words after it stay
unfoldable pub state_over : AutomationEnvelope → List ℕ → List ℕ
state_over e w = cond (ltb (length w) state_words) w (pack e ++ drop state_words w)

-- the answer of writing, and the lent words after it
pub record WordsTold : Type 0 where
  pub said : Said (Unit {0})
  pub words : List ℕ

-- writing a state into lent words: 1, then 8, "the answer needs more places than the lent part has". Else the state stands from the start, and the words after it stay.
unfoldable pub write_state : AutomationEnvelope → List ℕ → WordsTold
write_state e w =
    cond (valid_envelope e)
    (cond (ltb (length w) state_words)
    (record { said = refuses 8; words = w })
    (record { said = gives tt; words = pack e ++ drop state_words w }))
    (record { said = refuses 1; words = w })
