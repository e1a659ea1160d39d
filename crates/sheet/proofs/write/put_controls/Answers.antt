use Prim.Native.Nat.{ℕ, ◌+◌, ◌≤◌}
use mathlib.Core.Path.{sym, subst}
use mathlib.Core.List.{List}
use lib.ListN.{length}
use Rattle.fields.specs.Told.{Put}
use Rattle.fields.specs.Text.{number_text}
use Rattle.fields.proofs.Stores.{put_fits, room_after, fit_then}
use Rattle.sheet.proofs.Texts.{controls_five}
use Rattle.sheet.proofs.write.put_controls.Goals as goal

pub returns-then-r-eq-BEZIER : goal.returns-then-r-eq-BEZIER
returns-then-r-eq-BEZIER c =
    let args = c.args in
    let five = controls_five args.r.curve args.r.cp1 args.r.cp2 c.if-r-eq-BEZIER.true in
    let first = c.fit_bits-next in
    let second = c.fit_bits in
    let u = number_text 16 8 10 args.r.cp2 in
    let h = subst (λ (l : List ℕ). args.at + length l ≤ length args.out.now) (sym five) c.requires in
    subst (λ (l : List ℕ). Put args.out.now args.at l second.new.out second.result) five (fit_then first.ensures u h (put_fits second.ensures (room_after first.ensures u h)))
