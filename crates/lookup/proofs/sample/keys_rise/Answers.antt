-- `lookup::sample::keys_rise` meets its contract: `is_sorted_by` of the keys by "below the next" is `rising_by` (points' `keys_rise`).
use Rattle.std.proofs.Common.{rules}
use Rattle.std.proofs.lemmas.Iterator.{YieldsList-from_slice, YieldsList-from_map}
use Rattle.points.proofs.SliceLaws.{keys_rise}
use Rattle.lookup.specs.Lookup.{sample_key}
use Rattle.lookup.proofs.sample.keys_rise.Goals as goal

pub returns : goal.returns
returns c =
    keys_rise sample_key c.args.points.now _ _
    (YieldsList-from_map _ sample_key (YieldsList-from_slice c.args.points.now cc) c.map.ensures.closure (λ x r q k. search rules))
    _ c.is_sorted_by.ensures.runs (λ x y r f' k. search rules)
