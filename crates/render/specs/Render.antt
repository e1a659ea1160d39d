-- 01, "Rendering": a run of samples, `to_buffer`, and the walk of `iter_samples`. A run's pieces are in Pieces.antt.
use Rattle.std.specs.Prelude.{ℕ, ◌+◌, ◌-◌, Bool, cond, ◌&&◌, List, ◌++◌, length, take, drop, ltb, leb, pos, Float, None, Option, unwrap_or}
use Rattle.std.specs.Float.{binary32, binary64}
use Rattle.std.specs.Float.Ieee.{mul, div, of_int, to_unsigned, of_bits}
use Rattle.numbers.specs.Bounds.{finite}
use Rattle.points.specs.Refusal.{Said, refuses, gives}
use Rattle.points.specs.declared.Points.{Points}
use Rattle.lookup.specs.Valid.{valid}
use Rattle.lookup.specs.Lookup.{value_at}
use Rattle.lookup.specs.Runs.{run}
use Rattle.limits.specs.declared.Limits.{Limits}
use Rattle.render.specs.declared.SampleIterator.{SampleIterator}

-- "i / rate"
abbrev pub sample_time : Float → ℕ → Float
sample_time rate i = div binary64 (of_int binary64 (pos i)) rate

-- "Sample i is the lookup at i / rate"
abbrev pub value_of_sample : Points → Bool → Limits → Float → ℕ → Option Float
value_of_sample points enabled limits rate i = value_at points enabled limits (sample_time rate i)

-- the sample's value, or another number where it is silent
abbrev pub sample_or : Float → Points → Bool → Limits → Float → ℕ → Float
sample_or silent points enabled limits rate i = unwrap_or (value_of_sample points enabled limits rate i) silent

-- "0.0 where silent"
abbrev pub sample_at : Points → Bool → Limits → Float → ℕ → Float
sample_at points enabled limits rate i = sample_or (of_bits binary32 0) points enabled limits rate i

-- "written from a stated place of the lent buffer; all other places stay"
abbrev pub written : {A : Type 0} → ℕ → List A → List A → List A
written place new buffer = take place buffer ++ (new ++ drop (place + length new) buffer)

-- what a rendering says, and the buffer it leaves
pub record Rendered : Type 0 where
  pub said : Said (Unit {0})
  pub buffer : List Float

-- "A refusal .. changes nothing": the buffer stays
abbrev pub declined : ℕ → List Float → Rendered
declined n buffer = record { said = refuses n; buffer = buffer }

-- 01's "2^32 − 1": no more samples are numbered
abbrev pub most_samples : ℕ
most_samples = 4294967295

-- 13, "first sample plus count .. over 2^32 − 1", then 8, "the answer needs more places than the lent part has (past the buffer's end: none)"; else the samples f gives are written
unfoldable pub run_into : (ℕ → Float) → ℕ → ℕ → ℕ → List Float → Rendered
unfolding run
run_into f first count place buffer =
    cond (leb (first + count) most_samples)
    (cond (leb count (length buffer - place)) (record { said = gives tt; buffer = written place (run f first count) buffer })
    (declined 8 buffer))
    (declined 13 buffer)

-- a run: "a rate, first sample, count and place", with refusals 1, 3, 13, 8
unfoldable pub render : Points → Bool → Limits → Float → ℕ → ℕ → ℕ → List Float → Rendered
unfolding run_into
render points enabled limits rate first count place buffer =
    cond (valid points limits)
    (cond (finite rate) (run_into (sample_at points enabled limits rate) first count place buffer)
    (declined 3 buffer))
    (declined 1 buffer)

-- "duration times rate cut to whole"
abbrev pub sample_count : Float → Float → ℕ
sample_count rate duration = to_unsigned 64 (mul binary64 duration rate)

-- "`to_buffer` starts at 0, its count being duration times rate cut to whole"
unfoldable pub to_buffer : Points → Bool → Limits → Float → Float → ℕ → List Float → Rendered
unfolding run_into
to_buffer points enabled limits rate duration place buffer =
    cond (valid points limits)
    (cond (finite rate && finite duration) (run_into (sample_at points enabled limits rate) 0 (sample_count rate duration) place buffer)
    (declined 3 buffer))
    (declined 1 buffer)

-- ---- `iter_samples`: "a walk that holds rate, place and count"

-- opening one: 1, 3, and 13 for "a walk: its count"
unfoldable pub iter_samples : Points → Limits → Float → Float → Said SampleIterator
iter_samples points limits rate duration =
    cond (valid points limits)
    (cond (finite rate && finite duration)
    (cond (leb (sample_count rate duration) most_samples)
    (gives (record { sample_rate = rate; current_sample = 0; total_samples = sample_count rate duration }))
    (refuses 13))
    (refuses 3))
    (refuses 1)

-- what a call says, and the walk it leaves
pub record WalkStep : Type 0 where
  pub said : Said (Option Float)
  pub walk : SampleIterator

-- "ends at a silent sample; that call still advances the place"; past the count there is none, and nothing advances
unfoldable pub next_sample : Points → Bool → Limits → SampleIterator → WalkStep
next_sample points enabled limits w =
    cond (valid points limits)
    (cond (finite w.sample_rate)
    (cond (leb w.total_samples most_samples)
    (cond (ltb w.current_sample w.total_samples)
    (record {
      said = gives (value_of_sample points enabled limits w.sample_rate w.current_sample);
      walk = record { sample_rate = w.sample_rate; current_sample = w.current_sample + 1; total_samples = w.total_samples };
    })
    (record { said = gives None; walk = w }))
    (record { said = refuses 13; walk = w }))
    (record { said = refuses 3; walk = w }))
    (record { said = refuses 1; walk = w })
