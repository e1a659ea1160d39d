-- `lookup::place::keys` meets its contract: a turn writes the next key (`keys_turn`), and at the end these are the keys of all the points that there are places for (`take_min`).
use Prim.Native.Nat.{ℕ, ◌-◌, min}
use mathlib.Core.Path.{◌≡◌, ap, ap₂, ◌∙◌}
use mathlib.Core.List.{List, ◌++◌, map}
use native.Mathlib.Omega.{arith}
use lib.ListN.{length, take, replicate}
use Rattle.std.proofs.lemmas.List.{take_min}
use Rattle.points.specs.Point.{any_point}
use Rattle.points.specs.declared.AutomationPoint.{AutomationPoint}
use Rattle.lookup.proofs.KeyLaws.{keys_turn}
use Rattle.lookup.proofs.place.keys.Goals as goal

pub loop-i-preserved : goal.loop-i-preserved
loop-i-preserved g c =
    let l = c.args.points.now in
    keys_turn g.A.Axis.key_of l c.loop-i.keys c.loop-i.i any_point c.key_of.result (omega arith) (omega arith) c.loop-i.invariant c.key_of.ensures

pub returns : goal.returns
returns g c =
    let l = c.args.points.now in
    let key = g.A.Axis.key_of in
    let at : c.loop-i.i ≡ min 256 (length l) = omega arith in
    let rest : 256 - min 256 (length l) ≡ 256 - length l = omega arith in
    c.loop-i.invariant
    ∙ ap (λ (n : ℕ). map key (take n l) ++ replicate (256 - n) 0) at
    ∙ ap₂ (λ (m : List AutomationPoint) (n : ℕ). map key m ++ replicate n 0) (take_min 256 l) rest
