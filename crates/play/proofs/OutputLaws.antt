-- Laws behind Output: a block's lines and those after it, and what is read.
use Prim.Native.Nat.{ℕ, suc, ◌+◌, ◌-◌, ◌≤◌}
use mathlib.Core.Path.{◌≡◌, refl, sym, ap, ◌∙◌}
use mathlib.Core.Bool.{Bool, true, false, cond}
use mathlib.Core.List.{List, [], ◌∷◌, ◌++◌, append_assoc, append-nil}
use native.Mathlib.Nat.{add-zero, sub-zero, add-suc, suc-add}
use native.Mathlib.Omega.{arith}
use lib.ListN.{length, drop}
use lib.Ieee.{Float, binary64, of_bits}
use Rattle.numbers.specs.Bounds.{finite}
use Rattle.points.specs.Refusal.{gives}
use Rattle.lookup.specs.Runs.{run}
use Rattle.lookup.proofs.RunLaws.{run_long, run_cut}
use Rattle.envelope.specs.Envelope.{valid_envelope}
use Rattle.envelope.specs.Calls.{samples_of}
use Rattle.envelope.specs.declared.AutomationEnvelope.{AutomationEnvelope}
use Rattle.fields.specs.Form.{Got, bad, got}
use Rattle.lines.specs.Lines.{Line, refused, line, meant, line_of, check, block_form, block_line, block_meaning}
use Rattle.lines.specs.PointLines.{Lines, stop, lines, is_empty}
use Rattle.sheet.specs.Sheet.{Input, declined, input, sheet_lines, block_from, last_line, play_input}
use Rattle.lines.specs.declared.block.RawBlock.{RawBlock}
use Rattle.lines.specs.declared.block.Block.{Block}
use Rattle.sheet.proofs.Sheets.{sheet_read}
use Rattle.play.specs.Play.{sample_line, sample_lines, refusal_text, printed}
use Rattle.play.specs.Blocks.{first_text, first_play, block_count, block_text, after}
use Rattle.play.specs.declared.Play.{Play}

-- ---- lines one after the other

-- the lines of samples, cut in two
pub lines_append : (i : ℕ) (xs ys : List Float) → sample_lines i (xs ++ ys) ≡ sample_lines i xs ++ sample_lines (i + length xs) ys
unfolding sample_lines
lines_append i [] ys = ap (λ (k : ℕ). sample_lines k ys) (sym (add-zero i))
lines_append i (x ∷ xs) ys =
    ap (λ (l : List ℕ). sample_line i x ++ l) (lines_append (suc i) xs ys ∙ ap (λ (k : ℕ). sample_lines (suc i) xs ++ sample_lines k ys) (suc-add i (length xs) ∙ sym (add-suc i (length xs))))
    ∙ sym (append_assoc (sample_line i x) (sample_lines (suc i) xs) (sample_lines (i + suc (length xs)) ys))

-- the same of a run of samples
lines_cut : (f : ℕ → Float) (i n m : ℕ) → sample_lines i (run f i (n + m)) ≡ sample_lines i (run f i n) ++ sample_lines (i + n) (run f (i + n) m)
lines_cut f i n m =
    ap (sample_lines i) (run_cut f i n m)
    ∙ lines_append i (run f i n) (run f (i + n) m)
    ∙ ap (λ (k : ℕ). sample_lines i (run f i n) ++ sample_lines (i + k) (run f (i + n) m)) (run_long f i n)

-- ---- the samples that are left

-- the samples from the next on
abbrev pub left : Play → List ℕ
left p = sample_lines p.next (run (samples_of p.envelope p.rate) p.next (p.count - p.next))

-- a block, and the samples after it
pub left_cut : (p : Play) → p.next ≤ p.count → left p ≡ block_text p ++ left (after p)
unfolding block_text
left_cut p h =
    let e : p.count - p.next ≡ block_count p + (p.count - (p.next + block_count p)) = omega arith in
    ap (λ (n : ℕ). sample_lines p.next (run (samples_of p.envelope p.rate) p.next n)) e
    ∙ lines_cut (samples_of p.envelope p.rate) p.next (block_count p) (p.count - (p.next + block_count p))

-- after the last sample
pub nothing_left : (p : Play) → p.count ≤ p.next → left p ≡ []
unfolding run sample_lines
nothing_left p h = let e : p.count - p.next ≡ 0 = omega arith in rw e

-- an opened play starts with sample 0
pub starts : (i : Input) → (first_play i).next ≡ 0
unfolding first_play
starts (declined n k) = refl
starts (input e b) = refl

-- the first bytes and the lines of all samples are the output
pub whole : (i : Input) → first_text i ++ left (first_play i) ≡ printed i
unfolding first_text first_play printed run sample_lines
whole (declined n k) = append-nil (refusal_text n k)
whole (input e b) = rw sub-zero

-- ---- what is read

-- a refusal is no input
no_input : {C : Type 0} {n k : ℕ} {e : AutomationEnvelope} {b : Block} → declined n k ≡ input e b → C
no_input q = let z : ◌≡◌ {A = ℕ} 0 1 = cc in absurd (omega arith)

-- a rate that is read is finite
rate_finite : (l : List ℕ) (b : Block) (rest : List ℕ) → block_line l ≡ line b rest → finite b.rate ≡ true
unfolding block_line block_meaning
rate_finite l b rest = on (block_form l)
  where
    meaning : (r : RawBlock) (m : List ℕ) (s : Bool) → finite (of_bits binary64 r.rate) ≡ s → (t : Bool)
        → meant m (check s 3 (check t 3 (gives (record { rate = of_bits binary64 r.rate; duration = of_bits binary64 r.duration })))) ≡ line b rest → finite b.rate ≡ true
    meaning r m true e true q = let k : b ≡ record { rate = of_bits binary64 r.rate; duration = of_bits binary64 r.duration } = cc in rw k e
    meaning r m true e false q = cc
    meaning r m false e t q = cc

    on : (x : Got RawBlock) → line_of block_meaning x ≡ line b rest → finite b.rate ≡ true
    on bad q = cc
    on (got r m) q = meaning r m (finite (of_bits binary64 r.rate)) refl (finite (of_bits binary64 r.duration)) q

-- what is read is a valid envelope and a finite rate
pub input_playable : (l : List ℕ) (e : AutomationEnvelope) (b : Block) → play_input l ≡ input e b → (valid_envelope e ≡ true) × (finite b.rate ≡ true)
unfolding play_input
input_playable l e b = on (sheet_lines true l) refl
  where
    end : (d : AutomationEnvelope) (k : ℕ) (m : List ℕ) (a : Block) (rest : List ℕ) → block_line m ≡ line a rest → valid_envelope d ≡ true
        → (t : Bool) → cond t (input d a) (declined 9 (k + 1)) ≡ input e b → (valid_envelope e ≡ true) × (finite b.rate ≡ true)
    end d k m a rest r v true q = let i : e ≡ d = cc in let j : b ≡ a = cc in (rw i v, rw j (rate_finite m a rest r))
    end d k m a rest r v false q = no_input q

    last : (d : AutomationEnvelope) (k : ℕ) (m : List ℕ) (x : Line Block) → block_line m ≡ x → valid_envelope d ≡ true → last_line d k x ≡ input e b
        → (valid_envelope e ≡ true) × (finite b.rate ≡ true)
    last d k m (refused n) r v q = no_input q
    last d k m (line a rest) r v q = end d k m a rest r v (is_empty rest) q

    on : (x : Lines AutomationEnvelope) → sheet_lines true l ≡ x → block_from x ≡ input e b → (valid_envelope e ≡ true) × (finite b.rate ≡ true)
    on (stop n k) r q = no_input q
    on (lines d rest) r q = last d (d.points.count + 5) (drop 14 rest) (block_line (drop 14 rest)) refl (sheet_read true l d rest r).valid q
