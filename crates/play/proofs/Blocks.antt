-- A block: what the rendering says of it, and its lines. Assumes nothing.
use Prim.Native.Nat.{ℕ, ◌+◌, ◌-◌, ◌*◌, ◌≤◌, ◌<◌}
use mathlib.Core.Path.{◌≡◌, refl, sym, ap, ◌∙◌}
use mathlib.Core.Bool.{Bool, true, false, cond}
use mathlib.Core.List.{List}
use native.Mathlib.Omega.{arith}
use borrow.Author.Tests.{le-leb, leb-true}
use lib.Dec.{leb}
use lib.Ieee.{Float}
use lib.ListN.{length, take, drop, length-append}
use lib.Seq.{take_at}
use Rattle.numbers.specs.Bounds.{finite}
use Rattle.points.proofs.CheckLaws.{never}
use Rattle.points.specs.Refusal.{refuses, gives}
use Rattle.render.specs.Render.{written, Rendered, declined, most_samples, run_into}
use Rattle.lookup.specs.Runs.{run}
use Rattle.lookup.proofs.RunLaws.{run_long}
use Rattle.envelope.specs.Envelope.{valid_envelope}
use Rattle.envelope.specs.Calls.{samples_of, render_of}
use Rattle.envelope.proofs.CallLaws.{render_is}
use Rattle.fields.specs.Told.{Put}
use Rattle.fields.proofs.Stores.{put_all}
use Rattle.play.specs.Play.{sample_lines}
use Rattle.play.specs.Blocks.{over, block_count, block_text, after, BlockTold, declines, next_block}
use Rattle.play.specs.declared.Play.{Play}
use Rattle.play.proofs.Texts.{lines_length}

module _ (p : Play) (room : List Float) (long : 1024 ≤ length room) where
  -- the block's samples, rendered into the room
  abbrev rendered : Rendered
  rendered = render_of p.envelope p.rate p.next (block_count p) 0 room

  abbrev samples : List Float
  samples = run (samples_of p.envelope p.rate) p.next (block_count p)

  -- by the three tests that are left: it has room
  rendered_is : rendered
      ≡ cond (valid_envelope p.envelope)
      (cond (finite p.rate)
      (cond (leb (p.next + block_count p) most_samples) (record { said = gives tt; buffer = written 0 samples room }) (declined 13 room))
      (declined 3 room))
      (declined 1 room)
  unfolding run_into
  rendered_is = render_is p.envelope p.rate p.next (block_count p) 0 room ∙ rw (le-leb (block_count p) (length room - 0) (omega arith))

  pub refused_block : (k : ℕ) (out : List ℕ) → rendered.said ≡ refuses k → next_block p out ≡ declines k p out
  unfolding next_block
  refused_block k out q = go (valid_envelope p.envelope) (finite p.rate) (leb (p.next + block_count p) most_samples) (sym (ap (λ (x : Rendered). x.said) rendered_is) ∙ q)
    where
      go : (v f t : Bool) → (cond v (cond f (cond t (record { said = gives tt; buffer = written 0 samples room }) (declined 13 room)) (declined 3 room)) (declined 1 room)).said ≡ refuses k
          → cond v (cond f (cond t (record { said = gives (length (block_text p)); play = after p; bytes = over (block_text p) out }) (declines 13 p out)) (declines 3 p out))
          (declines 1 p out)
          ≡ declines k p out
      go true true true e = never (sym e)
      go true true false e = let z : 13 ≡ k = cc in rw z
      go true false t e = let z : 3 ≡ k = cc in rw z
      go false f t e = let z : 1 ≡ k = cc in rw z

  pub record Given : Type 0 where
    pub few : p.next + block_count p ≤ most_samples
    pub told : (out : List ℕ) → next_block p out ≡ record { said = gives (length (block_text p)); play = after p; bytes = over (block_text p) out }
    pub buffer : rendered.buffer ≡ written 0 samples room

  pub given : rendered.said ≡ gives tt → Given
  unfolding next_block
  given q = go (valid_envelope p.envelope) refl (finite p.rate) refl (leb (p.next + block_count p) most_samples) refl (sym (ap (λ (x : Rendered). x.said) rendered_is) ∙ q)
    where
      go : (v : Bool) → valid_envelope p.envelope ≡ v → (f : Bool) → finite p.rate ≡ f → (t : Bool) → leb (p.next + block_count p) most_samples ≡ t
          → (cond v (cond f (cond t (record { said = gives tt; buffer = written 0 samples room }) (declined 13 room)) (declined 3 room)) (declined 1 room)).said ≡ gives tt
          → Given
      go true a true b true c e = record { few = leb-true _ _ c; told = λ out. rw (a, b, c); buffer = ap (λ (x : Rendered). x.buffer) rendered_is ∙ rw (a, b, c) }
      go true a true b false c e = never e
      go true a false b t c e = never e
      go false a f b t c e = never e

  module _ (g : Given) where
    pub taken : take (block_count p) rendered.buffer ≡ samples
    taken = ap (take (block_count p)) g.buffer ∙ take_at samples (drop (0 + length samples) room) (block_count p) (run_long (samples_of p.envelope p.rate) p.next (block_count p))

    pub enough : block_count p ≤ length rendered.buffer
    enough = rw g.buffer (omega (arith, length-append samples (drop (0 + length samples) room), run_long (samples_of p.envelope p.rate) p.next (block_count p)))

    pub made : {out m : List ℕ} {b : ℕ} → 20480 ≤ length out → Put out 0 (sample_lines p.next (take (block_count p) rendered.buffer)) m b
        → (gives b ≡ (next_block p out).said) × ((after p ≡ (next_block p out).play) × (m ≡ (next_block p out).bytes))
    unfolding block_text
    made {out} {m} {b} h q =
        let r : Put out 0 (sample_lines p.next samples) m b = rw taken at q in
        let w = sample_lines p.next samples in
        let fits : length w ≤ length out = omega (arith, lines_length p.next samples, run_long (samples_of p.envelope p.rate) p.next (block_count p)) in
        let n : b ≡ length w = omega (arith, r.next) in (
          ap gives n ∙ sym (ap (λ (x : BlockTold). x.said) (g.told out)),
          (sym (ap (λ (x : BlockTold). x.play) (g.told out)), put_all out w m b r fits ∙ sym (ap (λ (x : BlockTold). x.bytes) (g.told out))),
        )

-- ---- as the code has it: n samples, rendered into the room

module _ (p : Play) (n : ℕ) (e : n ≡ block_count p) (room : List Float) (long : 1024 ≤ length room) where
  abbrev block : Rendered
  block = render_of p.envelope p.rate p.next n 0 room

  same : block ≡ rendered p room long
  same = ap (λ (k : ℕ). render_of p.envelope p.rate p.next k 0 room) e

  pub block_refused : (k : ℕ) (out : List ℕ) → block.said ≡ refuses k → (refuses k ≡ (next_block p out).said) × ((p ≡ (next_block p out).play) × (out ≡ (next_block p out).bytes))
  block_refused k out q =
      let w = refused_block p room long k out (sym (ap (λ (x : Rendered). x.said) same) ∙ q) in
      (sym (ap (λ (x : BlockTold). x.said) w), (sym (ap (λ (x : BlockTold). x.play) w), sym (ap (λ (x : BlockTold). x.bytes) w)))

  module _ (q : block.said ≡ gives tt) {samples : List Float} (s : samples ≡ block.buffer) where
    accepted : Given p room long
    accepted = given p room long (sym (ap (λ (x : Rendered). x.said) same) ∙ q)

    is : samples ≡ (rendered p room long).buffer
    is = s ∙ ap (λ (x : Rendered). x.buffer) same

    pub block_room : (out : List ℕ) → 20480 ≤ length out → (n ≤ 1024) × (n ≤ length samples) × (p.next + n ≤ 4294967295) × (20 * n ≤ length out)
    block_room out h = (omega arith, rw is (omega (arith, enough p room long accepted)), omega (arith, accepted.few), omega arith)

    pub block_made : {out m : List ℕ} {b : ℕ} → 20480 ≤ length out → Put out 0 (sample_lines p.next (take n samples)) m b
        → (gives b ≡ (next_block p out).said)
        × ((record { envelope = p.envelope; rate = p.rate; count = p.count; next = p.next + n } ≡ (next_block p out).play) × (m ≡ (next_block p out).bytes))
    block_made {out} {m} {b} h w = rw e (made p room long accepted h (rw (e, is) at w))

-- ---- for the caller that prints: the bytes lie within the lent ones, and the play moves on

block_length : (p : Play) → length (block_text p) ≤ 20480
unfolding block_text
block_length p =
    omega (
      arith,
      lines_length p.next (run (samples_of p.envelope p.rate) p.next (block_count p)),
      run_long (samples_of p.envelope p.rate) p.next (block_count p),
    )

pub moved : (p : Play) (out : List ℕ) (n : ℕ) → gives n ≡ (next_block p out).said → (n ≤ 20480) × ((next_block p out).play ≡ after p)
unfolding next_block
moved p out n = go (valid_envelope p.envelope) (finite p.rate) (leb (p.next + block_count p) most_samples)
  where
    no : {k : ℕ} → gives n ≡ refuses k → (n ≤ 20480) × (p ≡ after p)
    no q = let z : ◌≡◌ {A = ℕ} 0 1 = cc in absurd (omega arith)

    go : (v f t : Bool)
        → gives n
        ≡ (cond v (cond f (cond t (record { said = gives (length (block_text p)); play = after p; bytes = over (block_text p) out }) (declines 13 p out)) (declines 3 p out))
        (declines 1 p out)).said
        → (n ≤ 20480)
        × ((cond v (cond f (cond t (record { said = gives (length (block_text p)); play = after p; bytes = over (block_text p) out }) (declines 13 p out)) (declines 3 p out))
        (declines 1 p out)).play
        ≡ after p)
    go true true true q = let k : n ≡ length (block_text p) = cc in (omega (arith, block_length p), refl)
    go true true false q = no q
    go true false t q = no q
    go false f t q = no q

pub moves_on : (p : Play) (out : List ℕ) (n : ℕ) (r : Play) → gives n ≡ (next_block p out).said → r ≡ (next_block p out).play → p.next < p.count
    → (r.count ≡ p.count) × (p.next < r.next)
moves_on p out n r q e h =
    let m = e ∙ (moved p out n q).1 in
    (ap (λ (x : Play). x.count) m, rw m (omega arith))
