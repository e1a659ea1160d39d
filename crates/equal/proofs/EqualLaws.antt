-- Bit-equality leaves no bit out: of valid envelopes it is being the same. Assumes nothing.
use Rattle.std.specs.Prelude.{None, Option, Some}
use Prim.Native.Nat.{ℕ}
use mathlib.Core.Path.{◌≡◌, refl, sym, ap, ◌∙◌}
use mathlib.Core.Bool.{Bool, true, false, ◌&&◌, beq}
use mathlib.Core.List.{List, [], ◌∷◌}
use native.Mathlib.Omega.{arith}
use lib.Dec.{eqb}
use lib.Ieee.{Float, Format, binary32, binary64, fits, to_bits}
use borrow.Author.Tests.{eqb-true, eq-eqb}
use Rattle.std.proofs.lemmas.Bool.Decides.{nat_tests}
use Rattle.numbers.proofs.BitLaws.{same_bits_lem}
use Rattle.numbers.proofs.Tests.{yes}
use Rattle.curve.specs.Curve.{code, controls, curve_of}
use Rattle.curve.proofs.Laws.{curve_of-code}
use Rattle.curve.specs.declared.CurveType.{CurveType}
use Rattle.points.specs.Points.{list_of, holding, every, every_pair}
use Rattle.points.proofs.ValidLaws.{holding_list_of}
use Rattle.points.specs.declared.AutomationPoint.{AutomationPoint}
use Rattle.envelope.specs.Envelope.{valid_envelope}
use Rattle.envelope.specs.Typed.{typed_curve, typed_point, typed_limit, typed}
use Rattle.envelope.proofs.TypedLists.{list_of_typed}
use Rattle.envelope.proofs.TypedParts.{parted, places_length}
use Rattle.envelope.specs.declared.AutomationEnvelope.{AutomationEnvelope}
use Rattle.equal.specs.Equal.{same_bits, bit_equal_limit, bit_equal_position, bit_equal_curve, bit_equal_point, bit_equal_settings, bit_equal}
use Rattle.equal.specs.Promised.{BitEqualIsSame, BitEqualToItself}

-- ---- what is bit-equal is the same

bits_same : (f : Format) (x y : Float) → fits f x ≡ true → fits f y ≡ true → same_bits f x y ≡ true → x ≡ y
bits_same f x y t u h = (same_bits_lem f x y (yes t) (yes u)).0 h

limit_same : (a b : Option Float) → typed_limit a ≡ true → typed_limit b ≡ true → bit_equal_limit a b ≡ true → a ≡ b
limit_same a b t u h = grind (arith, bits_same)

position_same : (a b : Option ℕ) → bit_equal_position a b ≡ true → a ≡ b
position_same a b h = grind (arith, nat_tests)

-- a curve is its number and its controls
curve_same : (c d : CurveType) → typed_curve c ≡ true → typed_curve d ≡ true → bit_equal_curve c d ≡ true → c ≡ d
curve_same c d t u h =
    let number : code c ≡ code d = grind (arith, nat_tests) in
    let first : (controls c).cp1 ≡ (controls d).cp1 = grind (arith, bits_same) in
    let second : (controls c).cp2 ≡ (controls d).cp2 = grind (arith, bits_same) in
    sym (curve_of-code c) ∙ (λ i. curve_of (number i) (first i) (second i)) ∙ curve_of-code d

point_same : (p q : AutomationPoint) → typed_point p ≡ true → typed_point q ≡ true → bit_equal_point p q ≡ true → p ≡ q
point_same p q t u h =
    let time = bits_same binary64 p.time q.time (grind arith) (grind arith) (grind arith) in
    let position = position_same p.sample_position q.sample_position (grind arith) in
    let value = bits_same binary32 p.value q.value (grind arith) (grind arith) (grind arith) in
    let curve = curve_same p.curve q.curve (grind arith) (grind arith) (grind arith) in
    λ i. record { time = time i; sample_position = position i; value = value i; curve = curve i }

points_same : (l m : List AutomationPoint) → every typed_point l ≡ true → every typed_point m ≡ true → every_pair bit_equal_point l m ≡ true → l ≡ m
unfolding every_pair
points_same [] [] t u h = refl
points_same [] (q ∷ m) t u h = grind arith
points_same (p ∷ l) [] t u h = grind arith
points_same (p ∷ l) (q ∷ m) t u h = λ i. point_same p q (grind arith) (grind arith) (grind arith) i ∷ points_same l m (grind arith) (grind arith) (grind arith) i

pub bit_equal_same : BitEqualIsSame
unfolding bit_equal
bit_equal_same e f t u v w h =
    let pe = parted e t in
    let pf = parted f u in
    let listed = points_same (list_of e.points) (list_of f.points) (list_of_typed e.points pe.points) (list_of_typed f.points pf.points) (grind arith) in
    let target : e.target ≡ f.target = grind (arith, nat_tests) in
    let enabled : e.enabled ≡ f.enabled = grind arith in
    let hard : e.hard ≡ f.hard = grind arith in
    let least = limit_same e.min_value f.min_value pe.least pf.least (grind arith) in
    let greatest = limit_same e.max_value f.max_value pe.greatest pf.greatest (grind arith) in
    let step = limit_same e.step_size f.step_size pe.step pf.step (grind arith) in
    let points = sym (holding_list_of e.points (grind arith) (places_length e t)) ∙ ap holding listed ∙ holding_list_of f.points (grind arith) (places_length f u) in
    λ i. record { target = target i; points = points i; enabled = enabled i; hard = hard i; min_value = least i; max_value = greatest i; step_size = step i }

-- ---- an envelope and itself

bits_self : (f : Format) (x : Float) → same_bits f x x ≡ true
bits_self f x = grind (arith, nat_tests)

limit_self : (l : Option Float) → bit_equal_limit l l ≡ true
limit_self l = grind (arith, bits_self)

point_self : (p : AutomationPoint) → bit_equal_point p p ≡ true
point_self p = grind (arith, nat_tests, bits_self)

points_self : (l : List AutomationPoint) → every_pair bit_equal_point l l ≡ true
unfolding every_pair
points_self [] = refl
points_self (p ∷ l) = grind (arith, point_self, points_self l)

pub bit_equal_self : BitEqualToItself
unfolding bit_equal
bit_equal_self e = grind (arith, nat_tests, limit_self, points_self)
