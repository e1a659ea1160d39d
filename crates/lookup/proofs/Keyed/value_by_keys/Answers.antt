-- `lookup::Keyed::value_by_keys` meets its contract: where the search over the keys ends is the place (`by_keys`).
use Prim.Native.Nat.{◌≤◌, min}
use mathlib.Core.Path.{◌≡◌}
use mathlib.Core.Bool.{true}
use native.Mathlib.Omega.{arith}
use lib.ListN.{length, length-take}
use Rattle.std.proofs.Common.{rules, of_calls}
use Rattle.points.specs.Points.{list_of, rising_by}
use Rattle.points.specs.Search.{place_by}
use Rattle.points.proofs.ValidLaws.{valid_count}
use Rattle.lookup.specs.Keys.{EndsAt}
use Rattle.lookup.specs.Lookup.{sample_key, between_samples, around_at, surrounded, found_at_sample}
use Rattle.lookup.proofs.KeyLaws.{by_keys}
use Rattle.lookup.proofs.LookupLaws.{around_is}
use Rattle.lookup.proofs.ValidLaws.{points_valid}
use Rattle.lookup.proofs.Keyed.value_by_keys.Goals as goal

pub returns : goal.returns
unfolding found_at_sample
returns c = λ v e.
    let h = c.args.self.now in
    let sample = c.args.sample in
    let l = list_of h.points in
    let few : length l ≤ 256 = omega (arith, valid_count h.points (points_valid h.points h.limits v), length-take h.points.count h.points.places) in
    let inner = surrounded sample_key sample (between_samples sample) l in
    let found = c.value_at.ensures inner (λ on i p.
    let rise : rising_by sample_key l ≡ true = search rules in
    let s : EndsAt c.args.keys.now (min (length l) 256) sample i = search (rules, of_calls) in
    let j : i ≡ place_by sample_key sample l = by_keys sample_key l c.args.keys.now few e rise sample i s in
    let w : around_at sample_key sample (between_samples sample) l i ≡ inner = around_is sample_key sample (between_samples sample) l i j in
    search rules) in
    search rules
