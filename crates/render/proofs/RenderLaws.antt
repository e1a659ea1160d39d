-- What a rendering says and leaves, each way out as a law, and a run in two pieces. Assumes nothing.
use Prim.Native.Nat.{ℕ, ◌+◌, ◌-◌, ◌≤◌, ◌<◌}
use mathlib.Core.Path.{◌≡◌, refl, sym, ap, ap₂, ◌∙◌}
use mathlib.Core.Bool.{Bool, true, false, cond}
use mathlib.Core.List.{List, ◌++◌, append_assoc}
use native.Mathlib.Nat.{add-zero}
use native.Mathlib.Omega.{arith}
use lib.Dec.{leb}
use lib.ListN.{length, get_or, take, drop, take-append-drop, length-append, length-drop}
use lib.Seq.{length-take-le, take_at, drop-append-add, drop-drop, get_or-append-add}
use lib.Ieee.{Float}
use borrow.Author.Tests.{le-leb, leb-true, leb-false}
use Rattle.numbers.specs.Bounds.{finite}
use Rattle.points.proofs.CheckLaws.{never}
use Rattle.points.specs.Refusal.{Said, gives}
use Rattle.points.specs.declared.Points.{Points}
use Rattle.lookup.specs.Valid.{valid}
use Rattle.render.specs.Render.{sample_at, written, Rendered, declined, most_samples, run_into, render, to_buffer}
use Rattle.lookup.specs.Runs.{run}
use Rattle.lookup.proofs.RunLaws.{run_long, run_cut, run_at}
use Rattle.limits.specs.declared.Limits.{Limits}

-- what a function says and leaves, where that is one rendering's and the rendering is another
pub answers : {s : Said (Unit {0})} {b : List Float} {x y : Rendered} → s ≡ x.said → b ≡ x.buffer → x ≡ y → (s ≡ y.said) × (b ≡ y.buffer)
answers p q e = (p ∙ ap (λ (r : Rendered). r.said) e, q ∙ ap (λ (r : Rendered). r.buffer) e)

-- ---- a run of any samples
module _ (f : ℕ → Float) (first count place : ℕ) (buffer : List Float) where
  pub accepted : first + count ≤ most_samples → count ≤ length buffer - place
      → run_into f first count place buffer ≡ record { said = gives tt; buffer = written place (run f first count) buffer }
  unfolding run_into
  accepted h k = rw (le-leb (first + count) most_samples h, le-leb count (length buffer - place) k)

  pub written_is : written place (run f first count) buffer ≡ take place buffer ++ (run f first count ++ drop (place + count) buffer)
  written_is = ap (λ (n : ℕ). take place buffer ++ (run f first count ++ drop (place + n) buffer)) (run_long f first count)

  -- each sample at its place
  written_at : count ≤ length buffer - place → (i : ℕ) (d : Float) → i < count → get_or (written place (run f first count) buffer) (place + i) d ≡ f (first + i)
  written_at room i d h =
      let long = length-take-le place buffer (omega arith) in
      ap (λ (j : ℕ). get_or (written place (run f first count) buffer) (j + i) d) (sym long)
      ∙ get_or-append-add (take place buffer) (run f first count ++ drop (place + length (run f first count)) buffer) i d
      ∙ run_at f first count i _ d h

  -- and so in what a run that isn't refused leaves
  pub ran : (run_into f first count place buffer).said ≡ gives tt → (i : ℕ) (d : Float) → i < count → get_or (run_into f first count place buffer).buffer (place + i) d ≡ f (first + i)
  unfolding run_into
  ran = go (leb (first + count) most_samples) (leb count (length buffer - place)) refl
    where
      go : (b c : Bool) → leb count (length buffer - place) ≡ c
          → (cond b (cond c (record { said = gives tt; buffer = written place (run f first count) buffer }) (declined 8 buffer)) (declined 13 buffer)).said ≡ gives tt
          → (i : ℕ) (d : Float) → i < count
          → get_or (cond b (cond c (record { said = gives tt; buffer = written place (run f first count) buffer }) (declined 8 buffer)) (declined 13 buffer)).buffer (place + i) d
          ≡ f (first + i)
      go true true k h i d s = written_at (leb-true count (length buffer - place) k) i d s
      go true false k h i d s = never h
      go false c k h i d s = never h

  -- no samples: nothing changes
  pub none_written : count ≡ 0 → written place (run f first count) buffer ≡ buffer
  unfolding run
  none_written e = rw e (ap (λ (n : ℕ). take place buffer ++ drop n buffer) (add-zero place) ∙ take-append-drop place buffer)

-- ---- a run in two pieces
module _ (f : ℕ → Float) (first n m place : ℕ) (buffer : List Float) (room : n + m ≤ length buffer - place) where
  -- the first piece leaves the length
  pub written_long : length (written place (run f first n) buffer) ≡ length buffer
  written_long = go (leb place (length buffer)) refl
    where
      go : (b : Bool) → leb place (length buffer) ≡ b → length (written place (run f first n) buffer) ≡ length buffer
      go true h =
          let k = leb-true place (length buffer) h in
          ap length (written_is f first n place buffer)
          ∙ simp (length-append, length-drop) (omega (arith, length-take-le place buffer k, run_long f first n))
      go false h = ap length (none_written f first n place buffer (omega (arith, leb-false place (length buffer) h)))

  pub written_cut : written (place + n) (run f (first + n) m) (written place (run f first n) buffer) ≡ written place (run f first (n + m)) buffer
  written_cut = go (leb place (length buffer)) refl
    where
      go : (b : Bool) → leb place (length buffer) ≡ b → written (place + n) (run f (first + n) m) (written place (run f first n) buffer) ≡ written place (run f first (n + m)) buffer
      go true h =
          let k = leb-true place (length buffer) h in
          let p = take place buffer ++ run f first n in
          let q = drop (place + n) buffer in
          let long : length p ≡ place + n = length-append (take place buffer) (run f first n) ∙ ap₂ (λ (x y : ℕ). x + y) (length-take-le place buffer k) (run_long f first n) in
          let old : written place (run f first n) buffer ≡ p ++ q = written_is f first n place buffer ∙ sym (append_assoc (take place buffer) (run f first n) q) in
          let e : place + n + m ≡ length p + m = omega arith in
          let d : place + n + m ≡ place + (n + m) = omega arith in
          written_is f (first + n) m (place + n) (written place (run f first n) buffer)
          ∙ ap₂ (λ (x y : List Float). x ++ (run f (first + n) m ++ y))
          (ap (take (place + n)) old ∙ take_at p q (place + n) long)
          (ap (drop (place + n + m)) old ∙ ap (λ (j : ℕ). drop j (p ++ q)) e ∙ drop-append-add p q m ∙ drop-drop m (place + n) buffer ∙ ap (λ (j : ℕ). drop j buffer) d)
          ∙ append_assoc (take place buffer) (run f first n) (run f (first + n) m ++ drop (place + (n + m)) buffer)
          ∙ ap (λ (l : List Float). take place buffer ++ l) (sym (append_assoc (run f first n) (run f (first + n) m) (drop (place + (n + m)) buffer)))
          ∙ ap (λ (l : List Float). take place buffer ++ (l ++ drop (place + (n + m)) buffer)) (sym (run_cut f first n m))
          ∙ sym (written_is f first (n + m) place buffer)
      go false h =
          let z = leb-false place (length buffer) h in
          none_written f (first + n) m (place + n) (written place (run f first n) buffer) (omega arith)
          ∙ none_written f first n place buffer (omega arith)
          ∙ sym (none_written f first (n + m) place buffer (omega arith))

-- ---- an envelope's
module _ (points : Points) (enabled : Bool) (limits : Limits) (rate : Float) where
  module _ (first count place : ℕ) (buffer : List Float) where
    pub render_invalid : valid points limits ≡ false → render points enabled limits rate first count place buffer ≡ declined 1 buffer
    unfolding render
    render_invalid v = rw v

    pub render_runs : valid points limits ≡ true → finite rate ≡ true
        → render points enabled limits rate first count place buffer ≡ run_into (sample_at points enabled limits rate) first count place buffer
    unfolding render
    render_runs v h = rw (v, h)

  module _ (duration : Float) (place : ℕ) (buffer : List Float) where
    pub buffer_invalid : valid points limits ≡ false → to_buffer points enabled limits rate duration place buffer ≡ declined 1 buffer
    unfolding to_buffer
    buffer_invalid v = rw v
