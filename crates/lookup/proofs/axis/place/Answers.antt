-- `lookup::axis::place` meets its contract: it halves over the points' keys, and of keys that rise there is one such place (`ends_where`).
use mathlib.Core.Path.{◌≡◌, sym, ◌∙◌}
use mathlib.Core.List.{map}
use lib.ListN.{length, get_or}
use Rattle.std.proofs.Common.{rules, of_calls}
use Rattle.std.proofs.lemmas.List.{get_or-map}
use Rattle.points.specs.Point.{any_point}
use Rattle.lookup.specs.Keys.{EndsAt}
use Rattle.lookup.proofs.KeyLaws.{ends_where}
use Rattle.lookup.proofs.axis.place.Goals as goal

pub returns-clause-ends : goal.returns-clause-ends
returns-clause-ends g c =
    let l = c.args.points.now in
    let key = g.A.Axis.key_of in
    let e : EndsAt (map key l) (length l) c.key.result c.halve.result =
    c.halve.ensures (map key l) (λ i k h p. let e : k ≡ key (get_or l i any_point) = search (rules, of_calls) in e ∙ sym (get_or-map key l i any_point 0 h)) in
    rw (sym c.key.ensures) e

pub returns-clause-rising : goal.returns-clause-rising
returns-clause-rising g c = ends_where g.A.Axis.key_of (g.A.Axis.key c.args.at) c.args.points.now c.halve.result (returns-clause-ends g c)
