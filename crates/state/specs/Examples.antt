-- The example of docs/STATE.md.
use Rattle.std.specs.Prelude.{◌≡◌, refl, true, false, [], ◌∷◌, drop, replicate, None, Some}
use Rattle.std.specs.Float.{binary32, binary64}
use Rattle.std.specs.Float.Ieee.{of_bits, to_bits}
use Rattle.curve.specs.Curve.{code, controls}
use Rattle.curve.specs.declared.CurveType.TheVariants.{QuadIn}
use Rattle.points.specs.Points.{holding}
use Rattle.points.specs.declared.AutomationPoint.{AutomationPoint}
use Rattle.envelope.specs.declared.AutomationEnvelope.{AutomationEnvelope}
use Rattle.state.specs.State.{pack_settings, pack_point, pack_points, pack}

-- time 0.25, position 0, value 1.0
abbrev point : AutomationPoint
point = record { time = of_bits binary64 0x3FD0_0000_0000_0000; sample_position = Some 0; value = of_bits binary32 0x3F80_0000; curve = QuadIn }

-- minimum -1.0, step 0.5
abbrev envelope : AutomationEnvelope
envelope =
    record {
      target = 7;
      points = holding (point ∷ []);
      enabled = true;
      min_value = Some (of_bits binary32 0xBF80_0000);
      max_value = None;
      step_size = Some (of_bits binary32 0x3F00_0000);
      hard = false;
    }

-- the four words of settings
pub settings_words : pack_settings envelope ≡ 0x0000_000B_0000_0007 ∷ 1 ∷ 0xBF80_0000 ∷ 0x3F00_0000 ∷ []
unfolding pack_settings of_bits to_bits
settings_words = refl

-- the four words of the point
pub point_words : pack_point point ≡ 0x3FD0_0000_0000_0000 ∷ 0 ∷ 0 ∷ 0x0000_0015_3F80_0000 ∷ []
unfolding pack_point of_bits to_bits code controls
point_words = refl

-- "and 1,020 words of 0"
pub rest_words : drop 8 (pack envelope) ≡ replicate 1020 0
unfolding pack_settings pack_point pack_points pack of_bits to_bits code controls
rest_words = refl
