-- 01's "Proved examples": "These are one table in the specs, established together". P1 to P14, F-1's sibling of P7, two of F-2 and two of F-3, on envelopes; those of lookups and ranges are what the crates below establish.
use Rattle.std.specs.Prelude.{◌≡◌, refl, List, [], ◌∷◌, pos, Float, None, Option, Some}
use Rattle.std.specs.Float.{binary32, round_with}
use Rattle.std.specs.Float.Ieee.{of_bits, to_bits, of_int, to_unsigned, round, neg, add, sub, mul, div, lt, le, is_nan}
use Rattle.numbers.specs.Bounds.{finite, min_num, max_num}
use Rattle.numbers.specs.Narrow.{narrow}
use Rattle.numbers.specs.Order.{order_key}
use Rattle.numbers.specs.Root.{sqrt}
use Rattle.curve.specs.F32.{f32, f0, f1, f2, f0·5}
use Rattle.curve.specs.Curve.{code, controls, finite_controls, cubic_bezier, in_out, eased, interpolated}
use Rattle.curve.specs.declared.CurveType.{CurveType}
use Rattle.curve.specs.declared.CurveType.TheVariants.{Linear, Logarithmic, Bezier, QuadIn, CubicInOut}
use Rattle.points.specs.Points.{holding, every_pair, rising_by, valid_points}
use Rattle.points.specs.Checks.{first_failing}
use Rattle.points.specs.Refusal.{refuses, gives}
use Rattle.points.specs.Search.{place_by}
use Rattle.points.specs.declared.AutomationPoint.{AutomationPoint}
use Rattle.lookup.specs.Examples as lookups
use Rattle.lookup.specs.Examples.{minus_zero, at, rise, limits, hardened, t0, t1, t2, t10, t20}
use Rattle.limits.specs.Limits.{constrained}
use Rattle.lookup.specs.Lookup.{surrounded, fraction, found_at, found_at_sample, get_value_at, get_value_at_sample}
use Rattle.lookup.specs.Runs.{run}
use Rattle.limits.specs.declared.Limits.{Limits}
use Rattle.analysis.specs.Examples as ranges
use Rattle.analysis.specs.Analysis.{given_values, range_of, raw_inside, get_range}
use Rattle.envelope.specs.Envelope.{new}
use Rattle.envelope.specs.Calls.{value_at_of, value_at_sample_of, range_between_of}
use Rattle.envelope.specs.Edit.{with_points, with_settings, edit_of, join_of}
use Rattle.envelope.specs.declared.AutomationEnvelope.{AutomationEnvelope}
use Rattle.insert.specs.Insert.{insert_point}
use Rattle.shape.specs.Shape.{firsts}
use Rattle.equal.specs.Equal.{bit_equal}
use Rattle.ask.specs.Ask.{ask_of}
use Rattle.history.specs.Rule.{new_hist, made, up_to, rule_of, answers_after}
use Rattle.history.specs.Examples.{p13_calls, idle_calls, zero_calls, one, commit_calls}

-- ---- envelopes: 000's `new` with points and limits

-- `new` with these points
abbrev with_list : List AutomationPoint → AutomationEnvelope
with_list l = with_points (new 0) (holding l)

-- (0,0),(4,1) by a curve
abbrev rise_of : CurveType → AutomationEnvelope
rise_of c = with_list (rise c)

-- one point at time 0, with limits
abbrev point_within : Limits → Float → AutomationEnvelope
point_within l v =
    let e = with_list (at t0 v ∷ []) in
    with_settings e e.enabled l

-- with a maximum and a step
abbrev limited : Option Float → Option Float → Float → AutomationEnvelope
limited max step v = point_within (limits max step) v

-- ---- the table

-- P1 to P14, F-1's, F-2's and F-3's
pub record Table : Type 0 where
  -- "P1 empty: silent."
  pub p1 : value_at_of (new 0) t1 ≡ gives None
  -- "P2 (0,0),(4,1) at 1: 0.25."
  pub p2 : value_at_of (rise_of Linear) t1 ≡ gives (Some (f32 0x3E80_0000))
  -- "P3 QuadIn at 2: 0.25."
  pub p3 : value_at_of (rise_of QuadIn) t2 ≡ gives (Some (f32 0x3E80_0000))
  -- "P4 Logarithmic at 1: 0.5."
  pub p4 : value_at_of (rise_of Logarithmic) t1 ≡ gives (Some f0·5)
  -- "P5 CubicInOut at 1: 0.0625."
  pub p5 : value_at_of (rise_of CubicInOut) t1 ≡ gives (Some (f32 0x3D80_0000))
  -- "P6 Bezier(1,1) at 2: 0.875."
  pub p6 : value_at_of (rise_of (Bezier f1 f1)) t2 ≡ gives (Some (f32 0x3F60_0000))
  -- "P7 maximum 1, step 0.625, value 1: 1.25."
  pub p7 : value_at_of (limited (Some f1) (Some (f32 0x3F20_0000)) f1) t0 ≡ gives (Some (f32 0x3FA0_0000))
  -- F-1: "P7's sibling with hard (1.0)"
  pub p7_hard : value_at_of (point_within (hardened (limits (Some f1) (Some (f32 0x3F20_0000)))) f1) t0 ≡ gives (Some f1)
  -- "P8 step 1, value −2.5: −3."
  pub p8 : value_at_of (limited None (Some f1) (f32 0xC020_0000)) t0 ≡ gives (Some (f32 0xC040_0000))
  -- "P9 alone, −0.0 stays; as the middle of three, at its time, 0.0."
  pub p9_alone : value_at_of (with_list (at t1 minus_zero ∷ [])) t1 ≡ gives (Some minus_zero)
  pub p9_middle : value_at_of (with_list (at t0 f1 ∷ at t1 minus_zero ∷ at t2 f1 ∷ [])) t1 ≡ gives (Some f0)
  -- "P10 times 10 and 20, no positions: sample 5 silent, sample 0 the first value."
  pub p10_silent : value_at_sample_of (with_list (at t10 f1 ∷ at t20 f0 ∷ [])) 5 ≡ gives None
  pub p10_first : value_at_sample_of (with_list (at t10 f1 ∷ at t20 f0 ∷ [])) 0 ≡ gives (Some f1)
  -- "P11 16,777,219 to f32: 16,777,220."
  pub p11 : of_int binary32 (pos 16777219) ≡ f32 0x4B80_0002
  -- "P12 value 2, maximum 1, time 0, range 0 to 1: (1, 2)."
  pub p12 : range_between_of (limited (Some f1) None f2) t0 t1 ≡ gives (Some (f1, f2))
  -- "P13 D = 1: edit, edit, back, back (10), forward."
  pub p13 : answers_after (new 3) 1 new_hist p13_calls ≡ gives tt ∷ gives tt ∷ gives tt ∷ refuses 10 ∷ gives tt ∷ []
  -- F-2: an edit that alters nothing takes no step, and leaves the steps ahead standing
  pub idle : answers_after (new 3) 1 new_hist idle_calls ≡ gives tt ∷ gives tt ∷ gives tt ∷ gives tt ∷ gives tt ∷ refuses 10 ∷ []
  -- F-2: "bit-equal": 0.0 and −0.0 are not
  pub idle_zero : answers_after (new 3) 2 new_hist zero_calls ≡ gives tt ∷ gives tt ∷ gives tt ∷ gives tt ∷ gives tt ∷ refuses 10 ∷ []
  -- F-3: ask "how many points a merge will give": a point on itself is one
  pub ask_count : (ask_of one one t0).said ≡ gives 1
  -- F-3: "It refuses with 14, after 11 and before 10, a commit whose session envelope differs by a bit from the ticket's first."
  pub commit : answers_after (new 3) 1 new_hist commit_calls ≡ gives tt ∷ refuses 14 ∷ refuses 14 ∷ gives tt ∷ refuses 3 ∷ gives tt ∷ []
  -- "P14 square root of 2: 3FB504F3."
  pub p14 : sqrt binary32 f2 ≡ f32 0x3FB5_04F3

pub table : Table
unfolding answers_after rule_of ask_of join_of first_failing bit_equal every_pair firsts up_to made edit_of insert_point new get_value_at get_value_at_sample get_range range_of given_values raw_inside run valid_points rising_by found_at found_at_sample surrounded place_by fraction constrained code controls finite_controls cubic_bezier in_out eased interpolated finite min_num max_num narrow order_key sqrt round_with of_bits to_bits of_int to_unsigned round neg add sub mul div lt le is_nan
table =
    record {
      p1 = lookups.p1;
      p2 = lookups.p2;
      p3 = refl;
      p4 = refl;
      p5 = refl;
      p6 = refl;
      p7 = lookups.p7;
      p7_hard = lookups.p7_hard;
      p8 = lookups.p8;
      p9_alone = lookups.p9_alone;
      p9_middle = lookups.p9_middle;
      p10_silent = lookups.p10_silent;
      p10_first = lookups.p10_first;
      p11 = refl;
      p12 = ranges.p12;
      p13 = refl;
      idle = refl;
      idle_zero = refl;
      ask_count = refl;
      commit = refl;
      p14 = refl;
    }
