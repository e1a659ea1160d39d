-- `render::Segment::write` meets its contract: each turn writes a sample whose time lies inside, and the first that doesn't ends it.
use Prim.Native.Nat.{ℕ, ◌+◌, ◌<◌}
use mathlib.Core.Path.{◌≡◌, sym, ap, ◌∙◌}
use mathlib.Core.Bool.{true, false, false≢true}
use mathlib.Core.Logic.{⊎_elim}
use native.Mathlib.Nat.{eq-or-lt_of_le, le_of_suc-le-suc}
use native.Mathlib.Numerals.{add-one}
use native.Mathlib.Omega.{arith}
use lib.ListN.{length-set}
use Rattle.std.proofs.Common.{rules, get_or-set_same, get_or-set_other}
use Rattle.render.specs.Render.{sample_time}
use Rattle.render.specs.Writer.{inside, segment_at}
use Rattle.render.proofs.Segment.write.Goals as goal

pub returns-then-not-holds : goal.returns-then-not-holds
returns-then-not-holds c =
    let a = c.args in
    let l = c.loop-i in
    let off : inside a.self (sample_time a.rate (a.first + l.i)) ≡ false = search rules in
    record {
      least = l.invariant.1;
      most = λ h. omega (arith, l.invariant.0);
      moves = λ h e.
          ⊎_elim
          (λ (q : a.place ≡ l.i). absurd (false≢true (sym off ∙ ap (λ (n : ℕ). inside a.self (sample_time a.rate (a.first + n))) (sym q) ∙ e)))
          (λ (s : a.place < l.i). s)
          (eq-or-lt_of_le l.invariant.1);
      before = l.invariant.2;
      within = λ k d p q r. l.invariant.3 k d p q;
    }

pub loop-i-preserved : goal.loop-i-preserved
loop-i-preserved c =
    let a = c.args in
    let l = c.loop-i in
    let x = c.value_at.result in
    let on : inside a.self (sample_time a.rate (a.first + l.i)) ≡ true = search rules in
    let own : x ≡ segment_at a.limits a.self (sample_time a.rate (a.first + l.i)) = c.value_at.ensures in (
      length-set l.out l.i x ∙ l.invariant.0,
      omega (arith, l.invariant.1),
      λ k d h. get_or-set_other l.out l.i k x d (λ m. omega (arith, l.invariant.1)) ∙ l.invariant.2 k d h,
      λ k d p h.
          ⊎_elim
          (λ (q : k ≡ l.i). (
            ap (λ (n : ℕ). inside a.self (sample_time a.rate (a.first + n))) q ∙ on,
            rw q (get_or-set_same l.out l.i x d (omega (arith, l.invariant.0))) ∙ own ∙ ap (λ (n : ℕ). segment_at a.limits a.self (sample_time a.rate (a.first + n))) (sym q),
          ))
          (λ (s : k < l.i). (
            (l.invariant.3 k d p s).0,
            get_or-set_other l.out l.i k x d (λ m. omega arith) ∙ (l.invariant.3 k d p s).1,
          ))
          (eq-or-lt_of_le (le_of_suc-le-suc (rw add-one at h))),
    )

pub returns : goal.returns
returns c =
    let a = c.args in
    let l = c.loop-i in
    record {
      least = omega (arith, c.max.ensures);
      most = λ h. omega (arith, c.max.ensures, l.invariant.0);
      moves = λ h e. omega (arith, c.max.ensures, l.invariant.0);
      before = l.invariant.2;
      within = λ k d p q r. l.invariant.3 k d p (omega (arith, l.invariant.0));
    }
