-- `analysis::get_range_samples` meets its contract: valid, with ends that don't cross, room for a next place and keys that rise (`tested`), the bounds are those of the lookups.
use Prim.Native.Nat.{ℕ, ◌+◌, ◌-◌, ◌*◌, ◌/◌, ◌<◌}
use mathlib.Core.Path.{◌≡◌, ap, ◌∙◌}
use native.Mathlib.Omega.{arith}
use borrow.Author.Tests.{le-leb, lt-ltb}
use Rattle.std.proofs.Common.{rules, of_calls}
use Rattle.points.specs.Refusal.{gives}
use Rattle.lookup.specs.Lookup.{value_at_sample, keys_rise}
use Rattle.lookup.specs.Runs.{run}
use Rattle.lookup.specs.Valid.{valid}
use Rattle.lookup.proofs.ValidLaws.{tested}
use Rattle.analysis.specs.Analysis.{given_values, range_of, get_range_samples, sample_step, sample_stops}
use Rattle.analysis.specs.Ranges.{as_range}
use Rattle.analysis.proofs.Ranges.{range_is, next_place}
use Rattle.analysis.proofs.get_range_samples.Goals as goal

pub returns : goal.returns
unfolding get_range_samples
returns c =
    let a = c.args in
    let h = a.heard.now in
    let start = a.start_sample in
    let end = a.end_sample in
    let step = c.sample_step-step.result in
    let v = tested (valid h.points h.limits) h c.in_ok-valid.valid _ c.valid.result c.valid.ensures c.in_ok-valid.was in
    let keyed : c.keyed.result ≡ _ = c.keyed.ensures in
    let k = tested (keys_rise c.in_ok-valid.valid.points c.in_ok-valid.valid.enabled) c.in_ok-valid.valid c.in_ok-keyed.keyed _ c.keyed.result c.keyed.ensures c.in_ok-keyed.was in
    let rise : keys_rise h.points h.enabled ≡ _ = rw v.1 at k.0 in
    let e : c.in_ok-keyed.keyed ≡ h = k.1 ∙ v.1 in
    let s : step ≡ sample_step start end = c.sample_step-step.ensures in
    let fits : start + (end - start) / step * step + step < 18446744073709551616 = search rules in
    let room : start + sample_stops start end * sample_step start end < 18446744073709551616 = rw s at (rw (next_place start (end - start) step) at fits) in
    let lookups = c.of-lookups.ensures (λ (n : ℕ). value_at_sample h.points h.enabled h.limits (start + n * step)) (λ n y b p. search (rules, of_calls)) in
    rw (v.0, le-leb start end (omega arith), lt-ltb _ _ room, rise)
    (ap gives
    (c.range.ensures
    ∙ ap as_range lookups
    ∙ range_is _
    ∙ ap (λ (n : ℕ). range_of (given_values (run (λ m. value_at_sample h.points h.enabled h.limits (start + m * n)) 0 ((end - start) / n + 1)))) s))
