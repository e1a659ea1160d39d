-- What is read, with the first bytes written for it. Assumes nothing.
use Rattle.std.specs.Prelude.{Err, Ok}
use Prim.Native.Nat.{ℕ, ◌≤◌, ◌<◌}
use mathlib.Core.Path.{◌≡◌, refl, sym, ap, subst, ◌∙◌}
use mathlib.Core.List.{List}
use native.Mathlib.Omega.{arith}
use native.Mathlib.Nat.{zero-add}
use borrow.Author.Tests.{le-leb, lt-leb}
use lib.ListN.{length}
use Rattle.points.specs.Refusal.{number}
use Rattle.points.specs.declared.refusal.Refusal.TheVariants.{TooManySamples}
use Rattle.render.specs.Render.{sample_count, most_samples}
use Rattle.envelope.specs.declared.AutomationEnvelope.{AutomationEnvelope}
use Rattle.lines.specs.declared.SheetRefusal.{SheetRefusal}
use Rattle.lines.specs.declared.block.Block.{Block}
use Rattle.sheet.specs.Sheet.{Input, declined, input}
use Rattle.fields.specs.Told.{Put, Fitted}
use Rattle.fields.proofs.Stores.{put_fits, put_all}
use Rattle.play.specs.Play.{sample_names, refusal_text, counted}
use Rattle.play.specs.Blocks.{first_text, first_play, Leaves, Opens}
use Rattle.play.specs.declared.Play.{Play}
use Rattle.play.proofs.Texts.{refusal_length}

-- ---- what is to be played: the input's refusal, too many samples, or as many as it counts

module _ (i : Input) where
  pub refused_leaves : (e : SheetRefusal) → declined (number e.refusal) e.line ≡ i → Leaves (counted i) (Err e)
  unfolding counted
  refused_leaves e q = rw (← q) (refl, refl)

  module _ (e : AutomationEnvelope) (b : Block) (q : input e b ≡ i) (n : ℕ) (s : n ≡ sample_count b.rate b.duration) where
    pub many_leaves : most_samples < n → Leaves (counted i) (Err (record { refusal = TooManySamples; line = 0 }))
    unfolding counted
    many_leaves h = let t = lt-leb (sample_count b.rate b.duration) most_samples (rw s at h) in rw (← q, t) (refl, refl)

    pub few_leaves : n ≤ most_samples → Leaves (counted i) (Ok (record { envelope = e; rate = b.rate; count = n; next = 0 }))
    unfolding counted first_play
    few_leaves h = let t = le-leb (sample_count b.rate b.duration) most_samples (rw s at h) in rw (← q, t, s)

-- ---- the first bytes

module _ {out m : List ℕ} {n : ℕ} where
  pub names_open : (i : Input) (p : Play) → Leaves i (Ok p) → Fitted out 0 sample_names m n → 13 ≤ length out → Opens i out (record { bytes = n; play = Ok p }) m
  unfolding first_text
  names_open (declined k l) p h f r = absurd h
  names_open (input e b) p h f r =
      let q = put_fits f (omega arith) in
      record { bytes = q.next ∙ zero-add (length sample_names); play = h; lent = put_all out sample_names m n q (omega arith) }

  pub refusal_opens : (i : Input) (e : SheetRefusal) → Leaves i (Err e) → Put out 0 (refusal_text (number e.refusal) e.line) m n → 35 ≤ length out
      → Opens i out (record { bytes = n; play = Err e }) m
  unfolding first_text
  refusal_opens (declined k l) e h q r =
      let t = refusal_text (number e.refusal) e.line in
      let same : t ≡ refusal_text k l = rw (h.0, h.1) in
      record {
        bytes = q.next ∙ zero-add (length t) ∙ ap length same;
        play = h;
        lent = rw same at (put_all out t m n q (omega (arith, refusal_length (number e.refusal) e.line)));
      }
  refusal_opens (input a b) e h q r = cc
