-- Each call on an envelope under one name: what the crates below say of its points, switch and limits.
-- The contracts of its methods cite these names, and so does all above that speaks of such a call.
use Rattle.std.specs.Prelude.{ℕ, Bool, List, Float, Option}
use Rattle.points.specs.Refusal.{Said}
use Rattle.points.specs.declared.AutomationPoint.{AutomationPoint}
use Rattle.lookup.specs.Lookup.{get_value_at, get_value_at_sample}
use Rattle.render.specs.Render.{Rendered, WalkStep, sample_at, render, to_buffer, iter_samples, next_sample}
use Rattle.render.specs.declared.SampleIterator.{SampleIterator}
use Rattle.analysis.specs.Analysis.{Filled, get_range, get_range_samples, get_slope_at, find_middles}
use Rattle.envelope.specs.Envelope.{limits_of}
use Rattle.envelope.specs.declared.AutomationEnvelope.{AutomationEnvelope}

-- ---- the lookups

-- `get_value_at`: the lookup by time
abbrev pub value_at_of : AutomationEnvelope → Float → Said (Option Float)
value_at_of e time = get_value_at e.points e.enabled (limits_of e) time

-- `get_value_at_sample`: the lookup by sample
abbrev pub value_at_sample_of : AutomationEnvelope → ℕ → Said (Option Float)
value_at_sample_of e sample = get_value_at_sample e.points e.enabled (limits_of e) sample

-- ---- rendering

-- the samples at a rate, from number 0 on
abbrev pub samples_of : AutomationEnvelope → Float → ℕ → Float
samples_of e rate = sample_at e.points e.enabled (limits_of e) rate

-- `render`: "a rate, first sample, count and place", into a lent buffer
abbrev pub render_of : AutomationEnvelope → Float → ℕ → ℕ → ℕ → List Float → Rendered
render_of e rate first count place buffer = render e.points e.enabled (limits_of e) rate first count place buffer

-- `to_buffer`: from sample 0 on, by a rate and a duration
abbrev pub to_buffer_of : AutomationEnvelope → Float → Float → ℕ → List Float → Rendered
to_buffer_of e rate duration place buffer = to_buffer e.points e.enabled (limits_of e) rate duration place buffer

-- `iter_samples`: a walk over the samples, opened by a rate and a duration
abbrev pub iter_samples_of : AutomationEnvelope → Float → Float → Said SampleIterator
iter_samples_of e rate duration = iter_samples e.points (limits_of e) rate duration

-- `next`: the walk's next sample, and the walk after it
abbrev pub next_sample_of : AutomationEnvelope → SampleIterator → WalkStep
next_sample_of e walk = next_sample e.points e.enabled (limits_of e) walk

-- ---- the analyses

-- `get_range`: the least and the greatest between two times
abbrev pub range_between_of : AutomationEnvelope → Float → Float → Said (Option (Float × Float))
range_between_of e start end = get_range e.points e.enabled (limits_of e) start end

-- `get_range_samples`: the same between two samples
abbrev pub range_samples_of : AutomationEnvelope → ℕ → ℕ → Said (Option (Float × Float))
range_samples_of e start end = get_range_samples e.points e.enabled (limits_of e) start end

-- `get_slope_at`: the slope at a time
abbrev pub slope_at_of : AutomationEnvelope → Float → Said (Option Float)
slope_at_of e time = get_slope_at e.points e.enabled (limits_of e) time

-- `find_peaks` and `find_valleys`: by the test of a point and its neighbours, into a lent list of times and one of values
abbrev pub find_middles_of : (AutomationPoint → AutomationPoint → AutomationPoint → Bool) → AutomationEnvelope → List Float → List Float → Filled
find_middles_of q e times values = find_middles q e.points (limits_of e) times values
