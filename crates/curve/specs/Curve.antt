-- 01's "Curves": what 001's `interpolate` gives, by its own f32 operations from left to right.
use Rattle.std.specs.Prelude.{ℕ, Bool, not, cond, ◌&&◌, List, [], ◌∷◌, eqb, ltb, get_or, Float}
use Rattle.std.specs.Float.Ieee as Ieee
use Rattle.std.specs.Float.{binary32}
use Rattle.std.specs.Float.Ieee.{neg}
use Rattle.numbers.specs.Bounds.{finite, clamped_to}
use Rattle.numbers.specs.Root.{sqrt}
use Rattle.curve.specs.F32.{◌+ᶠ◌, ◌-ᶠ◌, ◌*ᶠ◌, ◌/ᶠ◌, ◌<ᶠ◌, f0, f1, f2, f3, f4, f8, f16, f0·5, f0·75, f0·9375, f0·984375, f1·5, f1·70158, f2·25, f2·5, f2·625, f2·75}
use Rattle.curve.specs.F32.{f7·5625}
use Rattle.curve.specs.declared.CurveType.{CurveType}
use Rattle.curve.specs.declared.Controls.{Controls}
use Rattle.curve.specs.declared.CurveType.TheVariants.{Linear, Exponential, Logarithmic, SCurve, Stepped, Bezier, Bounce, Back, Circular, QuadIn, QuadOut, QuadInOut, CubicIn, CubicOut}
use Rattle.curve.specs.declared.CurveType.TheVariants.{CubicInOut, QuartIn, QuartOut, QuartInOut, QuintIn, QuintOut, QuintInOut}

-- 01: "first clamps the fraction t to 0..1 (NaN stays)"; a -0.0 stays too
abbrev pub clamped : Float → Float
clamped t = clamped_to f0 f1 t

-- 001's `cubic_bezier`
unfoldable pub cubic_bezier : Float → Float → Float → Float
cubic_bezier t cp1 cp2 =
    let t2 = t *ᶠ t in
    let t3 = t2 *ᶠ t in
    let mt = f1 -ᶠ t in
    let mt2 = mt *ᶠ mt in
    f3 *ᶠ mt2 *ᶠ t *ᶠ cp1 +ᶠ f3 *ᶠ mt *ᶠ t2 *ᶠ cp2 +ᶠ t3

-- twice what is left of 1, as 001's in-out curves have it: `-2.0 * t + 2.0`
abbrev pub twice_the_rest : Float → Float
twice_the_rest t = neg f2 *ᶠ t +ᶠ f2

-- a curve of two halves: 001's `if t < 0.5 { early } else { 1.0 - late / 2.0 }`
unfoldable pub in_out : Float → Float → Float → Float
in_out t early late = cond (t <ᶠ f0·5) early (f1 -ᶠ late /ᶠ f2)

-- 001's SCurve and QuadInOut
unfoldable pub quad_in_out : Float → Float
quad_in_out t = let u = twice_the_rest t in in_out t (f2 *ᶠ t *ᶠ t) (u *ᶠ u)

-- 01: "Branches use 001's comparisons, so Stepped with t NaN gives 1."
unfoldable pub stepped : Float → Float
stepped t = cond (t <ᶠ f1) f0 f1

-- 001's Bounce, of 1.0 - t
unfoldable pub bounced : Float → Float
bounced t =
    let parabola : Float → Float → Float = λ u d. f7·5625 *ᶠ u *ᶠ u +ᶠ d in
    cond (t <ᶠ f1 /ᶠ f2·75) (f7·5625 *ᶠ t *ᶠ t)
    (cond (t <ᶠ f2 /ᶠ f2·75) (parabola (t -ᶠ f1·5 /ᶠ f2·75) f0·75)
    (cond (t <ᶠ f2·5 /ᶠ f2·75) (parabola (t -ᶠ f2·25 /ᶠ f2·75) f0·9375)
    (parabola (t -ᶠ f2·625 /ᶠ f2·75) f0·984375)))

-- 01: "eases it with 001's f32 operations from left to right without fusing": 001's arms
unfoldable pub eased : CurveType → Float → Float
eased Linear t = t
eased Exponential t = t *ᶠ t
eased Logarithmic t = sqrt binary32 t
eased SCurve t = quad_in_out t
eased Stepped t = stepped t
eased (Bezier cp1 cp2) t = cubic_bezier t cp1 cp2
eased Bounce t = f1 -ᶠ bounced (f1 -ᶠ t)
eased Back t = t *ᶠ t *ᶠ ((f1·70158 +ᶠ f1) *ᶠ t -ᶠ f1·70158)
eased Circular t = f1 -ᶠ sqrt binary32 (f1 -ᶠ t *ᶠ t)
eased QuadIn t = t *ᶠ t
eased QuadOut t = f1 -ᶠ (f1 -ᶠ t) *ᶠ (f1 -ᶠ t)
eased QuadInOut t = quad_in_out t
eased CubicIn t = t *ᶠ t *ᶠ t
eased CubicOut t = let u = f1 -ᶠ t in f1 -ᶠ u *ᶠ u *ᶠ u
eased CubicInOut t = let u = twice_the_rest t in in_out t (f4 *ᶠ t *ᶠ t *ᶠ t) (u *ᶠ u *ᶠ u)
eased QuartIn t = t *ᶠ t *ᶠ t *ᶠ t
eased QuartOut t = let u = f1 -ᶠ t in f1 -ᶠ u *ᶠ u *ᶠ u *ᶠ u
eased QuartInOut t = let u = twice_the_rest t in in_out t (f8 *ᶠ t *ᶠ t *ᶠ t *ᶠ t) (u *ᶠ u *ᶠ u *ᶠ u)
eased QuintIn t = t *ᶠ t *ᶠ t *ᶠ t *ᶠ t
eased QuintOut t = let u = f1 -ᶠ t in f1 -ᶠ u *ᶠ u *ᶠ u *ᶠ u *ᶠ u
eased QuintInOut t = let u = twice_the_rest t in in_out t (f16 *ᶠ t *ᶠ t *ᶠ t *ᶠ t *ᶠ t) (u *ᶠ u *ᶠ u *ᶠ u *ᶠ u)

-- 01: "gives start + (end − start) times the eased t"
unfoldable pub interpolated : CurveType → Float → Float → Float → Float
interpolated c start end t = start +ᶠ (end -ᶠ start) *ᶠ eased c (clamped t)

-- 01: "Curve: two decimal digits, 001's order from 00". 06 is 001's Elastic, which is left out.
unfoldable pub code : CurveType → ℕ
code Linear = 0
code Exponential = 1
code Logarithmic = 2
code SCurve = 3
code Stepped = 4
code (Bezier cp1 cp2) = 5
code Bounce = 7
code Back = 8
code Circular = 9
code QuadIn = 10
code QuadOut = 11
code QuadInOut = 12
code CubicIn = 13
code CubicOut = 14
code CubicInOut = 15
code QuartIn = 16
code QuartOut = 17
code QuartInOut = 18
code QuintIn = 19
code QuintOut = 20
code QuintInOut = 21

-- the number of the Linear curve is 0
abbrev pub is_linear : CurveType → Bool
is_linear c = eqb (code c) 0

-- 01: "The Bezier curve carries its two control numbers". A plain curve has none, and 0.0 stands for each.
abbrev pub no_controls : Controls
no_controls = record { cp1 = f0; cp2 = f0 }

-- the control numbers of each case
unfoldable pub controls : CurveType → Controls
controls Linear = no_controls
controls Exponential = no_controls
controls Logarithmic = no_controls
controls SCurve = no_controls
controls Stepped = no_controls
controls (Bezier cp1 cp2) = record { cp1 = cp1; cp2 = cp2 }
controls Bounce = no_controls
controls Back = no_controls
controls Circular = no_controls
controls QuadIn = no_controls
controls QuadOut = no_controls
controls QuadInOut = no_controls
controls CubicIn = no_controls
controls CubicOut = no_controls
controls CubicInOut = no_controls
controls QuartIn = no_controls
controls QuartOut = no_controls
controls QuartInOut = no_controls
controls QuintIn = no_controls
controls QuintOut = no_controls
controls QuintInOut = no_controls

-- the curves in 001's order; Linear stands for Elastic
abbrev pub curves : Float → Float → List CurveType
curves cp1 cp2 =
    Linear ∷ Exponential ∷ Logarithmic ∷ SCurve ∷ Stepped ∷ Bezier cp1 cp2 ∷ Linear ∷ Bounce ∷ Back ∷ Circular
    ∷ QuadIn ∷ QuadOut ∷ QuadInOut ∷ CubicIn ∷ CubicOut ∷ CubicInOut ∷ QuartIn ∷ QuartOut ∷ QuartInOut ∷ QuintIn ∷ QuintOut ∷ QuintInOut ∷ []

-- the curve of a number: back from `code` and `controls`. A number that is no curve's gives Linear.
unfoldable pub curve_of : ℕ → Float → Float → CurveType
curve_of n cp1 cp2 = get_or (curves cp1 cp2) n Linear

-- a number that is a curve's, so that 01's refusal 2, "sheet curve 6 or above 21", isn't given
abbrev pub known : ℕ → Bool
known n = not (eqb n 6) && ltb n 22

-- 01: "both finite"
unfoldable pub finite_controls : CurveType → Bool
finite_controls c = finite (controls c).cp1 && finite (controls c).cp2

-- 001's derived `==`: the same case, and equal controls as numbers, so that -0.0 equals 0.0 and a NaN nothing
unfoldable pub same_curve : CurveType → CurveType → Bool
same_curve c d = eqb (code c) (code d) && Ieee.eq (controls c).cp1 (controls d).cp1 && Ieee.eq (controls c).cp2 (controls d).cp2
