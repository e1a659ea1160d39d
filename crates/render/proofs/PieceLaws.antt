-- A run that isn't refused passed every test, so each of its pieces does: `NoPieceRefused` of specs/Promised. Assumes nothing.
use Prim.Native.Nat.{ℕ, ◌+◌, ◌-◌, ◌≤◌}
use mathlib.Core.Path.{◌≡◌, refl, sym, ap, ◌∙◌}
use mathlib.Core.Bool.{Bool, true, false, cond}
use mathlib.Core.List.{List, [], ◌∷◌}
use native.Mathlib.Omega.{arith}
use lib.Dec.{leb}
use lib.ListN.{length, replicate}
use lib.Ieee.{Float}
use borrow.Author.Tests.{leb-true}
use Rattle.numbers.specs.Bounds.{finite}
use Rattle.points.proofs.CheckLaws.{never}
use Rattle.points.specs.Refusal.{gives}
use Rattle.points.specs.declared.Points.{Points}
use Rattle.lookup.specs.Valid.{valid}
use Rattle.render.specs.Render.{sample_at, written, Rendered, declined, most_samples, render}
use Rattle.lookup.specs.Runs.{run}
use Rattle.render.proofs.RenderLaws.{accepted, none_written, written_cut, written_long, render_runs}
use Rattle.limits.specs.declared.Limits.{Limits}
use Rattle.render.specs.Pieces.{total, Pieces, pieces}
use Rattle.render.specs.Promised.{NoPieceRefused}

-- ---- a run that isn't refused passed every test

record Passed (points : Points) (limits : Limits) (rate : Float) (first count place : ℕ) (buffer : List Float) : Type 0 where
  valid_is : valid points limits ≡ true
  finite_is : finite rate ≡ true
  few : first + count ≤ most_samples
  room : count ≤ length buffer - place

module _ (points : Points) (enabled : Bool) (limits : Limits) (rate : Float) where
  passed : (first count place : ℕ) (buffer : List Float) → (render points enabled limits rate first count place buffer).said ≡ gives tt → Passed points limits rate first count place buffer
  unfolding render
  passed first count place buffer = go (valid points limits) refl (finite rate) refl (leb (first + count) most_samples) refl (leb count (length buffer - place)) refl
    where
      go : (a : Bool) → valid points limits ≡ a → (b : Bool) → finite rate ≡ b → (c : Bool) → leb (first + count) most_samples ≡ c → (d : Bool)
          → leb count (length buffer - place) ≡ d
          → (cond a
          (cond b
          (cond c (cond d (record { said = gives tt; buffer = written place (run (sample_at points enabled limits rate) first count) buffer }) (declined 8 buffer)) (declined 13 buffer))
          (declined 3 buffer))
          (declined 1 buffer)).said
          ≡ gives tt
          → Passed points limits rate first count place buffer
      go true p true q true r true s h = record { valid_is = p; finite_is = q; few = leb-true _ _ r; room = leb-true _ _ s }
      go true p true q true r false s h = never h
      go true p true q false r d s h = never h
      go true p false q c r d s h = never h
      go false p b q c r d s h = never h

  rendered : (first count place : ℕ) (buffer : List Float) → Passed points limits rate first count place buffer
      → render points enabled limits rate first count place buffer ≡ record { said = gives tt; buffer = written place (run (sample_at points enabled limits rate) first count) buffer }
  rendered first count place buffer p =
      render_runs points enabled limits rate first count place buffer p.valid_is p.finite_is ∙ accepted (sample_at points enabled limits rate) first count place buffer p.few p.room

  cut_run : (first place : ℕ) (buffer : List Float) (counts : List ℕ) → (render points enabled limits rate first (total counts) place buffer).said ≡ gives tt
      → pieces points enabled limits rate first place buffer counts
      ≡ record { said = replicate (length counts) (gives tt); buffer = (render points enabled limits rate first (total counts) place buffer).buffer }
  unfolding pieces total
  cut_run first place buffer [] h =
      let p = passed first 0 place buffer h in
      ap (λ (b : List Float). record { said = []; buffer = b })
      (sym (ap (λ (x : Rendered). x.buffer) (rendered first 0 place buffer p) ∙ none_written (sample_at points enabled limits rate) first 0 place buffer refl))
  cut_run first place buffer (n ∷ counts) h =
      let f = sample_at points enabled limits rate in
      let m = total counts in
      let p = passed first (n + m) place buffer h in
      let w = rendered first n place buffer (record { valid_is = p.valid_is; finite_is = p.finite_is; few = omega arith; room = omega arith }) in
      let b = (render points enabled limits rate first n place buffer).buffer in
      let e : b ≡ written place (run f first n) buffer = ap (λ (x : Rendered). x.buffer) w in
      let long : length b ≡ length buffer = ap length e ∙ written_long f first n m place buffer p.room in
      let next = rendered (first + n) m (place + n) b (record { valid_is = p.valid_is; finite_is = p.finite_is; few = omega arith; room = omega arith }) in
      let rest = cut_run (first + n) (place + n) b counts (ap (λ (x : Rendered). x.said) next) in
      let same : (pieces points enabled limits rate (first + n) (place + n) b counts).buffer ≡ (render points enabled limits rate first (n + m) place buffer).buffer =
      ap (λ (x : Pieces). x.buffer) rest ∙ ap (λ (x : Rendered). x.buffer) next ∙ ap (written (place + n) (run f (first + n) m)) e
      ∙ written_cut f first n m place buffer p.room ∙ sym (ap (λ (x : Rendered). x.buffer) (rendered first (n + m) place buffer p)) in
      λ i. record { said = (w i).said ∷ (rest i).said; buffer = same i }

pub no_piece_refused : NoPieceRefused
no_piece_refused points enabled limits rate first place buffer counts h = cut_run points enabled limits rate first place buffer counts h
