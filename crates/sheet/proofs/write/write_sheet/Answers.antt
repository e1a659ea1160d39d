use mathlib.Core.Path.{sym, ◌∙◌}
use native.Mathlib.Omega.{arith}
use borrow.Author.Tests.{le-leb}
use lib.ListN.{length}
use Rattle.fields.proofs.Stores.{put_all}
use Rattle.sheet.specs.Text.{sheet_text, write_sheet}
use Rattle.sheet.proofs.write.write_sheet.Goals as goal

pub returns-clause-out_after : goal.returns-clause-out_after
unfolding write_sheet
returns-clause-out_after c =
    let e = c.args.envelope.now in
    let room = le-leb (length (sheet_text e)) (length c.args.out.now) (omega (arith, c.sheet_length.ensures, c.if-out-sheet_length.false)) in
    let valid = sym c.if-not-is_valid.ensures in
    rw (valid, room) (put_all _ _ _ _ c.put_sheet.ensures (omega (arith, c.sheet_length.ensures, c.if-out-sheet_length.false)))
