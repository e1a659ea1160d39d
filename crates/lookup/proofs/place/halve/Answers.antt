-- `lookup::place::halve` meets its contract: a turn keeps `Halving` and brings low and high nearer (`halving_up`, `halving_down`), and where they meet it is `EndsAt` (`halving_end`).
use Prim.Native.Nat.{◌+◌, ◌-◌, ◌/◌}
use native.Mathlib.Omega.{arith}
use Rattle.points.proofs.SearchLaws.{halving_start, halving_up, halving_down}
use Rattle.lookup.proofs.KeyLaws.{itself, halving_end}
use Rattle.lookup.proofs.place.halve.Goals as goal

pub loop-low-init : goal.loop-low-init
loop-low-init g c = (omega arith, omega arith, λ keys h. halving_start itself 0 c.args.key keys c.args.n)

pub key_at-requires : goal.key_at-requires
key_at-requires g c = c.requires _ (omega arith)

pub loop-low-preserved-then-key_at-key : goal.loop-low-preserved-then-key_at-key
loop-low-preserved-then-key_at-key g c =
    let l = c.loop-low in
    let a = c.args in
    let mid = l.low + (l.high - l.low) / 2 in (
      omega arith,
      omega arith,
      λ keys h.
          let k = h mid _ (omega arith) c.key_at.ensures in
          halving_up itself 0 a.key keys a.n l.low l.high mid (l.invariant.2 keys h) (omega arith) (omega (arith, k, c.if-key_at-key.true)),
    )

pub loop-low-preserved : goal.loop-low-preserved
loop-low-preserved g c =
    let l = c.loop-low in
    let a = c.args in
    let mid = l.low + (l.high - l.low) / 2 in (
      omega arith,
      omega arith,
      λ keys h.
          let k = h mid _ (omega arith) c.key_at.ensures in
          halving_down itself 0 a.key keys a.n l.low l.high mid (l.invariant.2 keys h) (omega arith) (omega arith) (omega (arith, k, c.if-key_at-key.false)),
    )

pub returns : goal.returns
returns g c = λ keys h. halving_end keys c.args.n c.args.key c.loop-low.low c.loop-low.high (c.loop-low.invariant.2 keys h) (omega arith)
