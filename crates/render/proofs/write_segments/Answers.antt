-- `render::write_segments` meets its contract: outside all points a sample is an end's (`sample_outside`), inside a segment that serves them the segment's (`sample_inside`), else the lookup's.
use Prim.Native.Nat.{◌+◌, ◌≤◌, ◌<◌}
use mathlib.Core.Path.{◌≡◌, ap, ◌∙◌}
use mathlib.Core.Logic.{⊎_elim}
use native.Mathlib.Omega.{arith}
use lib.ListN.{length, length-set}
use lib.Ieee.{Float}
use Rattle.std.proofs.Common.{rules, Option, unwrap_or}
use Rattle.std.proofs.lemmas.Bool.{cases_lt}
use Rattle.lookup.specs.Heard.{Heard}
use Rattle.lookup.proofs.RunLaws.{place_next}
use Rattle.render.specs.Render.{sample_or}
use Rattle.render.proofs.Writing.{sample_inside, sample_outside}
use Rattle.render.proofs.write_segments.Goals as goal

pub loop-i-preserved-in-Some : goal.loop-i-preserved-in-Some
loop-i-preserved-in-Some c =
    let a = c.args in
    let h = a.valid.now in
    let l = c.loop-i in
    let v = c.in-Some.v in
    let f = sample_or a.silent h.points h.enabled h.limits a.rate in
    let own : v ≡ f (a.first + l.i) = sample_outside a.silent a.rate h c.requires.enabled a.ends c.requires.two c.requires.ends (a.first + l.i) v (search rules) in (
      length-set l.out l.i v ∙ l.invariant.0,
      omega (arith, l.invariant.0),
      place_next f a.first l.out l.i v (omega (arith, l.invariant.0)) own l.invariant.2,
    )

pub loop-i-preserved-in-Some-before : goal.loop-i-preserved-in-Some-before
loop-i-preserved-in-Some-before c =
    let a = c.args in
    let h = a.valid.now in
    let l = c.loop-i in
    let s = c.in-Some-before.s in
    let w = c.write-i.ensures in
    let limits : c.heard.inside.limits ≡ h.limits = ap (λ (v : Heard). v.limits) (c.heard.view_is ∙ c.valid.view_is) in
    let most : c.write-i.result ≤ length l.out = w.most (omega (arith, l.invariant.0, l.invariant.1)) in (
      search rules,
      omega (arith, most, l.invariant.0),
      λ k d b.
          ⊎_elim
          (λ (p : k < l.i). w.before k d p ∙ l.invariant.2 k d p)
          (λ (p : l.i ≤ k).
          let v = w.within k d p b (omega (arith, most)) in
          v.1 ∙ sample_inside a.silent a.rate h _ limits c.requires.enabled (a.first + k) s (v.0, c.in-Some-before.ensures.1))
          (cases_lt k l.i),
    )

pub loop-i-preserved : goal.loop-i-preserved
loop-i-preserved c =
    let a = c.args in
    let h = a.valid.now in
    let l = c.loop-i in
    let x = c.unwrap_or.result in
    let f = sample_or a.silent h.points h.enabled h.limits a.rate in
    let own : x ≡ f (a.first + l.i) = c.unwrap_or.ensures ∙ ap (λ (o : Option Float). unwrap_or o a.silent) (c.value_near.ensures.searched c.place_by_guess-place.ensures) in (
      length-set l.out l.i x ∙ l.invariant.0,
      omega (arith, l.invariant.0),
      place_next f a.first l.out l.i x (omega (arith, l.invariant.0)) own l.invariant.2,
    )
