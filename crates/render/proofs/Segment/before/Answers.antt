use Prim.Native.Nat.{◌+◌, ◌-◌, ◌<◌}
use mathlib.Core.Path.{◌≡◌}
use lib.ListN.{length}
use Rattle.std.proofs.Common.{rules}
use Rattle.points.specs.Points.{list_of}
use Rattle.lookup.specs.Lookup.{point_at}
use Rattle.render.specs.Writer.{segment_of, Serves}
use Rattle.render.proofs.Segments.{serves_heard}
use Rattle.render.proofs.Segment.before.Goals as goal

pub returns-in_ok-q-in-len2-up : goal.returns-in_ok-q-in-len2-up
returns-in_ok-q-in-len2-up c =
    let l = c.points-points.result.now in
    let i = c.args.place in
    let p = c.in_ok-p-in-len2-up.p.now in
    let q = c.in_ok-q-in-len2-up.q.now in
    let h = c.valid.inside.heard.now in
    let k : c.in_ok-checked_sub-in-len2-up.field-0 + 1 ≡ i = search rules in
    let e : p ≡ point_at l (i - 1) = search rules in
    let f : q ≡ point_at l i = search rules in
    let b : i < length l = search rules in
    let s : Serves (list_of h.points) (segment_of p q) =
    serves_heard h c.valid.invariant l c.points-points.ensures p q i (search rules) b e f c.new.ensures.numbers c.new-way.ensures.numbers in
    search rules
