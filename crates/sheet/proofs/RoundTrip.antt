-- The sheet's two theorems, and that what the reader accepts is valid: specs/Promised. Assumes nothing.
use Prim.Native.Nat.{ℕ, ◌≤◌}
use mathlib.Core.Path.{◌≡◌, refl, sym, ap, ◌∙◌}
use mathlib.Core.Bool.{Bool, true, false, cond}
use mathlib.Core.List.{List, [], ◌∷◌, ◌++◌, append-nil}
use native.Mathlib.Omega.{arith}
use borrow.Author.Tests.{le-leb}
use lib.Dec.{leb}
use lib.ListN.{length, take, drop}
use lib.Seq.{take-append_seam}
use Rattle.points.specs.Refusal.{refuses, gives}
use Rattle.envelope.specs.Envelope.{valid_envelope}
use Rattle.envelope.specs.Typed.{typed}
use Rattle.envelope.specs.declared.AutomationEnvelope.{AutomationEnvelope}
use Rattle.lines.specs.PointLines.{Lines, stop, lines, is_empty, points_end}
use Rattle.sheet.specs.Sheet.{sheet_lines, sheet, read_from, read_sheet}
use Rattle.sheet.specs.Text.{sheet_text, WriteTold, write_sheet}
use Rattle.sheet.specs.Promised.{WrittenIsRead, ReadIsWritten, ReadIsValid}
use Rattle.sheet.proofs.Sheets.{SheetRead, sheet_read, sheet_written}

-- what the writer writes, the reader reads back as the same envelope
pub written_is_read : WrittenIsRead
unfolding read_sheet
written_is_read e v t = rw (sheet_written e t v)

accepted : (l : List ℕ) (e : AutomationEnvelope) → read_sheet l ≡ sheet e → SheetRead false l e []
unfolding read_sheet points_end is_empty
accepted l e q = on (sheet_lines false l) refl q
  where
    whole : (f : AutomationEnvelope) (rest : List ℕ) → sheet f ≡ sheet e → SheetRead false l f rest → SheetRead false l e []
    whole f [] q w = let same : f ≡ e = cc in rw (← same) w
    whole f (b ∷ rest) q w = let z : false ≡ true = w.end in let n : ◌≡◌ {A = ℕ} 0 1 = cc in absurd (omega arith)

    on : (x : Lines AutomationEnvelope) → sheet_lines false l ≡ x → read_from x ≡ sheet e → SheetRead false l e []
    on (stop n k) p q = let z : ◌≡◌ {A = ℕ} 0 1 = cc in absurd (omega arith)
    on (lines f rest) p q = whole f rest q (sheet_read false l f rest p)

-- what the reader accepts, the writer writes as the same bytes
pub read_is_written : ReadIsWritten
read_is_written l e q = sym ((accepted l e q).text ∙ append-nil (sheet_text e))

-- what the reader accepts is a valid envelope
pub read_is_valid : ReadIsValid
read_is_valid l e q = (accepted l e q).valid

-- ---- the same of the writer's call on a lent list

-- what it leaves in the places that it counts is read back
pub call_is_read : (e : AutomationEnvelope) (out : List ℕ) (n : ℕ) → typed e ≡ true → (write_sheet e out).said ≡ gives n → read_sheet (take n (write_sheet e out).bytes) ≡ sheet e
unfolding write_sheet
call_is_read e out n t q = on (valid_envelope e) refl (leb (length (sheet_text e)) (length out)) q
  where
    told : Bool → Bool → WriteTold
    told v b = cond v (cond b (record { said = gives (length (sheet_text e)); bytes = sheet_text e ++ drop (length (sheet_text e)) out }) (record { said = refuses 8; bytes = out }))
        (record { said = refuses 1; bytes = out })

    on : (v : Bool) → valid_envelope e ≡ v → (b : Bool) → (told v b).said ≡ gives n → read_sheet (take n (told v b).bytes) ≡ sheet e
    on true v true q =
        let k : length (sheet_text e) ≡ n = cc in
        ap (λ (m : ℕ). read_sheet (take m (sheet_text e ++ drop (length (sheet_text e)) out))) (sym k)
        ∙ ap read_sheet (take-append_seam (sheet_text e) (drop (length (sheet_text e)) out))
        ∙ written_is_read e v t
    on true v false q = let z : ◌≡◌ {A = ℕ} 0 1 = cc in absurd (omega arith)
    on false v b q = let z : ◌≡◌ {A = ℕ} 0 1 = cc in absurd (omega arith)

-- a sheet that was read is written as the same bytes, where there is room for them
pub read_is_called : (l : List ℕ) (e : AutomationEnvelope) (out : List ℕ) → read_sheet l ≡ sheet e → length l ≤ length out
    → write_sheet e out ≡ record { said = gives (length l); bytes = l ++ drop (length l) out }
unfolding write_sheet
read_is_called l e out q h = rw (read_is_valid l e q) (go (sheet_text e) (read_is_written l e q))
  where
    whole : List ℕ → WriteTold
    whole w = record { said = gives (length w); bytes = w ++ drop (length w) out }

    go : (w : List ℕ) → w ≡ l → cond (leb (length w) (length out)) (whole w) (record { said = refuses 8; bytes = out }) ≡ whole l
    go w k = rw (k, le-leb (length l) (length out) h)
