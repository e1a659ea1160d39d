use Prim.Native.Nat.{ℕ, ◌≤◌}
use mathlib.Core.Path.{◌≡◌, sym}
use mathlib.Core.List.{List}
use native.Mathlib.Omega.{arith}
use lib.Ieee.{Float, binary32, of_bits}
use lib.ListN.{length, replicate, length-replicate, length-take}
use Rattle.std.proofs.lemmas.Result.{err_from_is_err_and}
use Rattle.points.specs.Refusal.{number}
use Rattle.play.proofs.Blocks.{block_refused, block_room, block_made}
use borrow.Author.Rules.{rules}
use Rattle.play.proofs.next_block.Goals as goal

-- the samples before they are rendered
silent : List Float
silent = replicate 1024 (of_bits binary32 0)

long : 1024 ≤ length silent
unfolding silent
long = omega (arith, length-replicate 1024 (of_bits binary32 0))

pub returns-in_err-render : goal.returns-in_err-render
unfolding silent
returns-in_err-render c =
    let p = err_from_is_err_and c.from_residual.result c.from_residual.ensures.1 in
    let why = number c.in_err-render.field-0.0 in
    let refused = block_refused c.args.play.now c.block_count-n.result c.block_count-n.ensures silent long why c.args.out.now (sym c.in_err-render.ensures.answer) in
    rw (p.1, p.2) (record { answer = refused.0; left = refused.1.0; out_after = refused.1.1 })

pub put_lines-bytes-requires : goal.put_lines-bytes-requires
unfolding silent
put_lines-bytes-requires c =
    let n = c.block_count-n.result in
    let out = c.render.new.out in
    let room = block_room c.args.play.now n c.block_count-n.ensures silent long (sym c.in_ok-render.ensures.answer) c.render.ensures.out_after c.args.out.now (search rules) in
    record { numbers = omega (arith, room.2, length-take n out); room = omega (arith, room.3, length-take n out) }

pub returns : goal.returns
unfolding silent
returns c =
    let said = sym c.in_ok-render.ensures.answer in
    let out = c.render.new.out in
    let made = block_made c.args.play.now c.block_count-n.result c.block_count-n.ensures silent long said c.render.ensures.out_after (search rules) c.put_lines-bytes.ensures in
    record { answer = made.0; left = made.1.0; out_after = made.1.1 }
