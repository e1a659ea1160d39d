-- The first 16,543 bytes decide what the program reads: bytes after them change no answer. Assumes nothing.
use Rattle.std.specs.Prelude.{None, Some}
use Prim.Native.Nat.{ℕ, zero, suc, ◌+◌, ◌*◌, ◌^◌, ◌≤◌, ◌<◌}
use mathlib.Core.Path.{◌≡◌, refl, sym, ap, subst, ◌∙◌}
use mathlib.Core.Bool.{Bool, true, false, cond, ◌&&◌, ◌||◌, and-false}
use mathlib.Core.List.{List, [], ◌∷◌, ◌++◌}
use native.Mathlib.Nat.{pow-suc, pow-zero, mul-one, mul-le-mul_right}
use native.Mathlib.Omega.{arith}
use borrow.Author.Tests.{leb-true, leb-false, ltb-true, lt-ltb, le-ltb, eqb-false}
use lib.Dec.{ltb, eqb, leb}
use lib.ListN.{length, take, drop, length-append, length-take, length-drop, take-append-drop}
use lib.Seq.{take_all, drop-append-le, drop-cons}
use Rattle.points.specs.Points.{holding, rising}
use Rattle.points.specs.Refusal.{Said, refuses, gives}
use Rattle.points.specs.declared.AutomationPoint.{AutomationPoint}
use Rattle.points.specs.declared.Points.{Points}
use Rattle.envelope.specs.declared.AutomationEnvelope.{AutomationEnvelope}
use Rattle.fields.specs.Form.{Got, bad, got, then, text, starts_with, next_is, ended, digit, read_digits, number_form, optional_form, decimals, next_digit, target_form}
use Rattle.lines.specs.Lines.{Line, refused, line, meant, line_of, settings_form, settings_line, settings_meaning, dashes, controls_form, point_form, point_line, point_meaning, block_form, block_line}
use Rattle.lines.specs.Lines.{block_meaning}
use Rattle.lines.specs.PointLines.{Lines, stop, lines, onward, block_names, is_empty, points_end, cut_short, line_after, point_lines}
use Rattle.sheet.specs.Sheet.{named, setting_names, point_names, with_settings, sheet_lines, last_line, block_from, play_input, read_from, read_sheet}
use Rattle.fields.specs.Text.{places_of, decimal_text}
use Rattle.lines.specs.declared.settings.RawSettings.{RawSettings}
use Rattle.lines.specs.declared.settings.Settings.{Settings}
use Rattle.lines.specs.declared.point.RawPoint.{RawPoint}
use Rattle.lines.specs.declared.block.RawBlock.{RawBlock}
use Rattle.lines.specs.declared.block.Block.{Block}
use Rattle.fields.proofs.Stores.{length-number}
use Rattle.fields.proofs.Places.{places_le}
use Rattle.fields.proofs.Target.{grows, write_target}

-- ---- a form that k bytes decide

-- the same answer, with m after the rest
abbrev more : {A : Type 0} → List ℕ → Got A → Got A
more m bad = bad
more m (got a rest) = got a (rest ++ m)

-- at least so many bytes are left
abbrev Left : {A : Type 0} → ℕ → Got A → Type 0
Left n bad = Unit
Left n (got a rest) = n ≤ length rest

-- of n + k bytes at least n are left, and bytes after them do not change the answer
record Decided {A : Type 0} (k : ℕ) (f : List ℕ → Got A) : Type 0 where
  same : (l m : List ℕ) → k ≤ length l → f (l ++ m) ≡ more m (f l)
  left : (n : ℕ) (l : List ℕ) → n + k ≤ length l → Left n (f l)

-- one after the other
both : {A B : Type 0} (j k : ℕ) (f : List ℕ → Got A) (g : A → List ℕ → Got B) → Decided j f → ((a : A) → Decided k (g a)) → Decided (j + k) (λ l. then (f l) g)
both {A} {B} j k f g p q = record {
  same = λ l m h. ap (λ (x : Got A). then x g) (p.same l m (omega arith)) ∙ on_same m (f l) (p.left k l (omega arith));
  left = λ n l h. on_left n (f l) (p.left (n + k) l (omega arith));
}
  where
    on_same : (m : List ℕ) (x : Got A) → Left k x → then (more m x) g ≡ more m (then x g)
    on_same m bad h = refl
    on_same m (got a rest) h = (q a).same rest m h

    on_left : (n : ℕ) (x : Got A) → Left (n + k) x → Left n (then x g)
    on_left n bad h = tt
    on_left n (got a rest) h = (q a).left n rest h

-- fewer bytes decide it too
wider : {A : Type 0} {j : ℕ} (k : ℕ) {f : List ℕ → Got A} → j ≤ k → Decided j f → Decided k f
wider k h p = record { same = λ l m e. p.same l m (omega arith); left = λ n l e. p.left n l (omega arith) }

-- no byte is taken
found : {A B : Type 0} (f : A → B) (a : A) → Decided 0 (λ l. got (f a) l)
found f a = record { same = λ l m e. refl; left = λ n l e. omega arith }

-- by a test
pick_same : {A : Type 0} (t : Bool) (m : List ℕ) (x y : Got A) {u v : Got A} → u ≡ more m x → v ≡ more m y → cond t u v ≡ more m (cond t x y)
pick_same true m x y p q = p
pick_same false m x y p q = q

pick_left : {A : Type 0} (t : Bool) (n : ℕ) (x y : Got A) → Left n x → Left n y → Left n (cond t x y)
pick_left true n x y p q = p
pick_left false n x y p q = q

-- ---- fields

ended_same : {A : Type 0} (e : ℕ) (a : A) (l m : List ℕ) → 1 ≤ length l → ended e a (l ++ m) ≡ more m (ended e a l)
unfolding next_is
ended_same e a [] m h = absurd (omega arith)
ended_same e a (b ∷ l) m h = pick_same (eqb b e) m (got a l) bad refl refl

ended_left : {A : Type 0} (e : ℕ) (a : A) (n : ℕ) (l : List ℕ) → n + 1 ≤ length l → Left n (ended e a l)
unfolding next_is
ended_left e a n [] h = absurd (omega arith)
ended_left e a n (b ∷ l) h = pick_left (eqb b e) n (got a l) bad (omega arith) tt

ended_decided : {A : Type 0} (e : ℕ) (a : A) → Decided 1 (ended e a)
ended_decided e a = record { same = ended_same e a; left = ended_left e a }

digits_same : (base w v : ℕ) (l m : List ℕ) → w ≤ length l → read_digits base w v (l ++ m) ≡ more m (read_digits base w v l)
unfolding read_digits
digits_same base zero v l m h = refl
digits_same base (suc w) v [] m h = absurd (omega arith)
digits_same base (suc w) v (b ∷ l) m h = pick_same (ltb (digit b) base) m (read_digits base w (v * base + digit b) l) bad (digits_same base w (v * base + digit b) l m (omega arith)) refl

digits_left : (base w v n : ℕ) (l : List ℕ) → n + w ≤ length l → Left n (read_digits base w v l)
unfolding read_digits
digits_left base zero v n l h = omega arith
digits_left base (suc w) v n [] h = absurd (omega arith)
digits_left base (suc w) v n (b ∷ l) h = pick_left (ltb (digit b) base) n (read_digits base w (v * base + digit b) l) bad (digits_left base w (v * base + digit b) n l (omega arith)) tt

number_decided : (base w e : ℕ) → Decided (w + 1) (number_form base w e)
unfolding number_form
number_decided base w e = both w 1 (read_digits base w 0) (λ v. ended e v) (record { same = digits_same base w 0; left = digits_left base w 0 }) (λ v. ended_decided e v)

some_decided : (w e : ℕ) → Decided (w + 1 + 0) (λ l. then (number_form 16 w e l) (λ v rest. got (Some v) rest))
some_decided w e = both (w + 1) 0 (number_form 16 w e) (λ v rest. got (Some v) rest) (number_decided 16 w e) (found Some)

optional_same : (w e : ℕ) → 1 ≤ w → (l m : List ℕ) → w + 1 ≤ length l → optional_form w e (l ++ m) ≡ more m (optional_form w e l)
unfolding optional_form next_is
optional_same w e p [] m h = absurd (omega arith)
optional_same w e p (b ∷ l) m h = pick_same (eqb b 45) m (ended e None l) (then (number_form 16 w e (b ∷ l)) (λ v rest. got (Some v) rest))
    (ended_same e None l m (omega arith)) ((some_decided w e).same (b ∷ l) m (omega arith))

optional_left : (w e : ℕ) → 1 ≤ w → (n : ℕ) (l : List ℕ) → n + (w + 1) ≤ length l → Left n (optional_form w e l)
unfolding optional_form next_is
optional_left w e p n [] h = absurd (omega arith)
optional_left w e p n (b ∷ l) h = pick_left (eqb b 45) n (ended e None l) (then (number_form 16 w e (b ∷ l)) (λ v rest. got (Some v) rest))
    (ended_left e None n l (omega arith)) ((some_decided w e).left n (b ∷ l) (omega arith))

optional_decided : (w e : ℕ) → 1 ≤ w → Decided (w + 1) (optional_form w e)
optional_decided w e p = record { same = optional_same w e p; left = optional_left w e p }

-- ---- the target

-- decimal digits and the space after them, read onto v
abbrev spaced : ℕ → List ℕ → Got ℕ
spaced v l = then (decimals v l) (λ u rest. ended 32 u rest)

-- so many digits more are too many
abbrev Near : ℕ → ℕ → Type 0
Near k v = 2 ^ 32 ≤ v * 10 ^ k

nearer : (k v d : ℕ) → Near (suc k) v → Near k (v * 10 + d)
nearer k v d h = let g : 2 ^ 32 ≤ v * (10 ^ k * 10) = subst (λ (x : ℕ). 2 ^ 32 ≤ v * x) (pow-suc 10 k) h in omega (arith, grows v d (10 ^ k))

-- one more digit: too large, or nearer
next_digit_same : (k v d : ℕ) (l m : List ℕ) → Near k v → suc k ≤ suc (length l)
    → ((j : ℕ) → k ≡ suc j → spaced (v * 10 + d) (l ++ m) ≡ more m (spaced (v * 10 + d) l))
    → then (cond (ltb (v * 10 + d) 0x1_0000_0000) (decimals (v * 10 + d) (l ++ m)) bad) (λ u rest. ended 32 u rest)
    ≡ more m (then (cond (ltb (v * 10 + d) 0x1_0000_0000) (decimals (v * 10 + d) l) bad) (λ u rest. ended 32 u rest))
next_digit_same zero v d l m n h f = rw (le-ltb (v * 10 + d) 0x1_0000_0000 (omega (arith, rw (pow-zero, mul-one) at n)))
next_digit_same (suc k) v d l m n h f = on (ltb (v * 10 + d) 0x1_0000_0000)
  where
    on : (t : Bool) → then (cond t (decimals (v * 10 + d) (l ++ m)) bad) (λ u rest. ended 32 u rest) ≡ more m (then (cond t (decimals (v * 10 + d) l) bad) (λ u rest. ended 32 u rest))
    on true = f k refl
    on false = refl

spaced_same : (k v : ℕ) (l m : List ℕ) → Near k v → suc k ≤ length l → spaced v (l ++ m) ≡ more m (spaced v l)
unfolding decimals next_is
spaced_same k v [] m n h = absurd (omega arith)
spaced_same zero v (b ∷ l) m n h = on (ltb (digit b) 10)
  where
    on : (t : Bool) → then (cond t (cond (ltb (v * 10 + digit b) 0x1_0000_0000) (decimals (v * 10 + digit b) (l ++ m)) bad) (got v (b ∷ (l ++ m)))) (λ u rest. ended 32 u rest)
        ≡ more m (then (cond t (cond (ltb (v * 10 + digit b) 0x1_0000_0000) (decimals (v * 10 + digit b) l) bad) (got v (b ∷ l))) (λ u rest. ended 32 u rest))
    on true = next_digit_same zero v (digit b) l m n h (λ j e. absurd (omega arith))
    on false = pick_same (eqb b 32) m (got v l) bad refl refl
spaced_same (suc k) v (b ∷ l) m n h = on (ltb (digit b) 10) (spaced_same k (v * 10 + digit b) l m (nearer k v (digit b) n) (omega arith))
  where
    on : (t : Bool) → spaced (v * 10 + digit b) (l ++ m) ≡ more m (spaced (v * 10 + digit b) l)
        → then (cond t (cond (ltb (v * 10 + digit b) 0x1_0000_0000) (decimals (v * 10 + digit b) (l ++ m)) bad) (got v (b ∷ (l ++ m)))) (λ u rest. ended 32 u rest)
        ≡ more m (then (cond t (cond (ltb (v * 10 + digit b) 0x1_0000_0000) (decimals (v * 10 + digit b) l) bad) (got v (b ∷ l))) (λ u rest. ended 32 u rest))
    on true q = next_digit_same (suc k) v (digit b) l m n h (λ j e. q)
    on false q = pick_same (eqb b 32) m (got v l) bad refl refl

target_same : (l m : List ℕ) → 12 ≤ length l → target_form (l ++ m) ≡ more m (target_form l)
unfolding target_form next_digit decimals
target_same [] m h = absurd (omega arith)
target_same (b ∷ l) m h = on (eqb (digit b) 0) refl (ltb (digit b) 10) refl
  where
    whole : Bool → Bool → List ℕ → Got ℕ
    whole t u n = cond t (ended 32 0 n) (cond u (then (cond u (cond (ltb (0 * 10 + digit b) 0x1_0000_0000) (decimals (0 * 10 + digit b) n) bad) (got 0 (b ∷ n))) (λ v rest. ended 32 v rest)) bad)

    on : (t : Bool) → eqb (digit b) 0 ≡ t → (u : Bool) → ltb (digit b) 10 ≡ u → whole t u (l ++ m) ≡ more m (whole t u l)
    on true t u e = ended_same 32 0 l m (omega arith)
    on false t true e =
        let d : 1 ≤ digit b = omega (arith, eqb-false (digit b) 0 t) in
        let z : 0 * 10 + digit b ≡ digit b = omega arith in
        let n : Near 10 (0 * 10 + digit b) = rw z (omega (arith, mul-le-mul_right (10 ^ 10) d)) in
        let s = spaced_same 10 (0 * 10 + digit b) l m n (omega arith) in
        rw (lt-ltb (0 * 10 + digit b) 0x1_0000_0000 (omega (arith, ltb-true (digit b) 10 e))) s
    on false t false e = refl

target_left : (n : ℕ) (l : List ℕ) → n + 12 ≤ length l → Left n (target_form l)
target_left n l h = on (target_form l) refl
  where
    on : (x : Got ℕ) → target_form l ≡ x → Left n x
    on bad e = tt
    on (got v rest) e = omega (arith, ap length (write_target l v rest e), length-append (decimal_text 32 v) rest, length-number 10 (places_of 10 v) 32 v, places_le 10 v)

target_decided : Decided 12 target_form
target_decided = record { same = target_same; left = target_left }

-- ---- texts

starts_same : (w l m : List ℕ) → length w ≤ length l → starts_with w (l ++ m) ≡ starts_with w l
unfolding starts_with
starts_same [] l m h = refl
starts_same (b ∷ w) [] m h = absurd (omega arith)
starts_same (b ∷ w) (c ∷ l) m h = ap (λ (t : Bool). eqb b c && t) (starts_same w l m (omega arith))

text_decided : {A : Type 0} (w : List ℕ) (a : A) → Decided (length w) (λ l. cond (starts_with w l) (got a (drop (length w) l)) bad)
text_decided w a = record {
  same = λ l m h. rw (starts_same w l m h, drop-append-le (length w) l m h) (pick_same (starts_with w l) m (got a (drop (length w) l)) bad refl refl);
  left = λ n l h. pick_left (starts_with w l) n (got a (drop (length w) l)) bad (omega (arith, length-drop (length w) l)) tt;
}

-- ---- lines

settings_decided : Decided 43 settings_form
unfolding settings_form
settings_decided =
    both 12 31 target_form _ target_decided (λ target.
    both 2 29 (number_form 2 1 32) _ (number_decided 2 1 32) (λ enabled.
    both 9 20 (optional_form 8 32) _ (optional_decided 8 32 (omega arith)) (λ min.
    both 9 11 (optional_form 8 32) _ (optional_decided 8 32 (omega arith)) (λ max.
    both 9 2 (optional_form 8 32) _ (optional_decided 8 32 (omega arith)) (λ step.
    both 2 0 (number_form 2 1 10) _ (number_decided 2 1 10) (λ hard.
    found (λ (r : RawSettings). r) (record { target = target; enabled = enabled; min = min; max = max; step = step; hard = hard })))))))

five_decided : Decided {A = ℕ × ℕ} 18 (λ l. then (number_form 16 8 32 l) (λ a m. then (number_form 16 8 10 m) (λ b n. got (a, b) n)))
five_decided = both 9 9 (number_form 16 8 32) _ (number_decided 16 8 32) (λ a. both 9 0 (number_form 16 8 10) _ (number_decided 16 8 10) (λ b. found (λ (r : ℕ × ℕ). r) (a, b)))

dashes_decided : Decided {A = ℕ × ℕ} 18 (λ l. cond (starts_with dashes l) (got (0, 0) (drop 4 l)) bad)
dashes_decided = wider 18 (omega arith) (text_decided dashes (0, 0))

controls_decided : (code : ℕ) → Decided 18 (controls_form code)
unfolding controls_form
controls_decided code = record {
  same = λ l m h. pick_same (eqb code 5) m _ _ (five_decided.same l m h) (dashes_decided.same l m h);
  left = λ n l h. pick_left (eqb code 5) n _ _ (five_decided.left n l h) (dashes_decided.left n l h);
}

point_decided : Decided 64 point_form
unfolding point_form
point_decided =
    both 17 47 (number_form 16 16 32) _ (number_decided 16 16 32) (λ time.
    both 17 30 (optional_form 16 32) _ (optional_decided 16 32 (omega arith)) (λ place.
    both 9 21 (number_form 16 8 32) _ (number_decided 16 8 32) (λ value.
    both 3 18 (number_form 10 2 32) _ (number_decided 10 2 32) (λ curve.
    both 18 0 (controls_form curve) _ (controls_decided curve) (λ two.
    found (λ (r : RawPoint). r) (record { time = time; position = place; value = value; curve = curve; cp1 = two.0; cp2 = two.1 }))))))

block_decided : Decided 34 block_form
unfolding block_form
block_decided =
    both 17 17 (number_form 16 16 32) _ (number_decided 16 16 32) (λ rate.
    both 17 0 (number_form 16 16 10) _ (number_decided 16 16 10) (λ duration.
    found (λ (r : RawBlock). r) (record { rate = rate; duration = duration })))

abbrev more_line : {A : Type 0} → List ℕ → Line A → Line A
more_line m (refused n) = refused n
more_line m (line a rest) = line a (rest ++ m)

abbrev LeftLine : {A : Type 0} → ℕ → Line A → Type 0
LeftLine n (refused k) = Unit
LeftLine n (line a rest) = n ≤ length rest

module _ {A B : Type 0} (meaning : A → Said B) {k : ℕ} {f : List ℕ → Got A} (d : Decided k f) where
  line_same : (l m : List ℕ) → k ≤ length l → line_of meaning (f (l ++ m)) ≡ more_line m (line_of meaning (f l))
  line_same l m h = ap (line_of meaning) (d.same l m h) ∙ on (f l)
    where
      said : (rest : List ℕ) (x : Said B) → meant (rest ++ m) x ≡ more_line m (meant rest x)
      said rest (refuses n) = refl
      said rest (gives b) = refl

      on : (x : Got A) → line_of meaning (more m x) ≡ more_line m (line_of meaning x)
      on bad = refl
      on (got a rest) = said rest (meaning a)

  line_left : (n : ℕ) (l : List ℕ) → n + k ≤ length l → LeftLine n (line_of meaning (f l))
  line_left n l h = on (f l) (d.left n l h)
    where
      said : (rest : List ℕ) (x : Said B) → n ≤ length rest → LeftLine n (meant rest x)
      said rest (refuses k) h = tt
      said rest (gives b) h = h

      on : (x : Got A) → Left n x → LeftLine n (line_of meaning x)
      on bad h = tt
      on (got a rest) h = said rest (meaning a) h

-- ---- the point lines

abbrev more_lines : {A : Type 0} → List ℕ → Lines A → Lines A
more_lines m (stop n k) = stop n k
more_lines m (lines a rest) = lines a (rest ++ m)

abbrev LeftLines : {A : Type 0} → ℕ → Lines A → Type 0
LeftLines n (stop k j) = Unit
LeftLines n (lines a rest) = n ≤ length rest

empty_same : (l m : List ℕ) → 1 ≤ length l → (is_empty (l ++ m) ≡ false) × (is_empty l ≡ false)
unfolding is_empty
empty_same [] m h = absurd (omega arith)
empty_same (b ∷ l) m h = (refl, refl)

end_same : (program : Bool) (l m : List ℕ) → 14 ≤ length l → points_end program (l ++ m) ≡ points_end program l
unfolding points_end
end_same true l m h = starts_same block_names l m h
end_same false l m h = let e = empty_same l m (omega arith) in e.0 ∙ sym e.1

-- the names that are cut short have 13 bytes, and none after them
cut_long : (program : Bool) (l : List ℕ) → 14 ≤ length l → cut_short program l ≡ false
unfolding cut_short is_empty
cut_long program l h = let b : 13 < length l = omega arith in rw (drop-cons l 13 0 b, and-false (starts_with (text "rate duration") l)) (and-false program)

-- the bytes that the block may need are left
abbrev Enough : ℕ → List ℕ → Type 0
Enough room l = room * 64 + 49 ≤ length l

-- the answer after the end test t and the line x, at m more bytes
module _ (program : Bool) (room : ℕ) (before : List AutomationPoint) where
  next : AutomationPoint → List ℕ → Lines Points
  next p rest = cond (rising (before ++ (p ∷ []))) (point_lines program room (before ++ (p ∷ [])) rest) (stop 6 (line_after before))

  step_same : (l m : List ℕ) (t : Bool) (x : Line AutomationPoint) → LeftLine (room * 64 + 49) x
      → ((p : AutomationPoint) (rest : List ℕ) → Enough room rest
      → point_lines program room (before ++ (p ∷ [])) (rest ++ m) ≡ more_lines m (point_lines program room (before ++ (p ∷ [])) rest))
      → cond t (lines (holding before) (l ++ m)) (onward (line_after before) (more_line m x) (λ p rest. next p rest))
      ≡ more_lines m (cond t (lines (holding before) l) (onward (line_after before) x (λ p rest. next p rest)))
  unfolding next
  step_same l m true x h f = refl
  step_same l m false (refused n) h f = refl
  step_same l m false (line p rest) h f = on (rising (before ++ (p ∷ [])))
    where
      on : (t : Bool)
          → cond t (point_lines program room (before ++ (p ∷ [])) (rest ++ m)) (stop 6 (line_after before))
          ≡ more_lines m (cond t (point_lines program room (before ++ (p ∷ [])) rest) (stop 6 (line_after before)))
      on true = f p rest h
      on false = refl

  step_left : (l : List ℕ) (t : Bool) (x : Line AutomationPoint) → 49 ≤ length l → LeftLine (room * 64 + 49) x
      → ((p : AutomationPoint) (rest : List ℕ) → Enough room rest → LeftLines 49 (point_lines program room (before ++ (p ∷ [])) rest))
      → LeftLines 49 (cond t (lines (holding before) l) (onward (line_after before) x (λ p rest. next p rest)))
  unfolding next
  step_left l true x e h f = e
  step_left l false (refused n) e h f = tt
  step_left l false (line p rest) e h f = on (rising (before ++ (p ∷ [])))
    where
      on : (t : Bool) → LeftLines 49 (cond t (point_lines program room (before ++ (p ∷ [])) rest) (stop 6 (line_after before)))
      on true = f p rest h
      on false = tt

points_same : (program : Bool) (room : ℕ) (before : List AutomationPoint) (l m : List ℕ) → Enough room l
    → point_lines program room before (l ++ m) ≡ more_lines m (point_lines program room before l)
unfolding point_lines point_line next
points_same program zero before l m h =
    let e = empty_same l m (omega arith) in
    rw (end_same program l m (omega arith), e.0, e.1, cut_long program (l ++ m) (omega (arith, length-append l m)), cut_long program l (omega arith)) (on (points_end program l))
  where
    on : (t : Bool) → cond t (lines (holding before) (l ++ m)) (stop 5 (line_after before)) ≡ more_lines m (cond t (lines (holding before) l) (stop 5 (line_after before)))
    on true = refl
    on false = refl
points_same program (suc room) before l m h =
    rw (end_same program l m (omega arith), line_same point_meaning point_decided l m (omega arith))
    (step_same program room before l m (points_end program l) (line_of point_meaning (point_form l)) (line_left point_meaning point_decided (room * 64 + 49) l (omega arith))
    (λ p rest e. points_same program room (before ++ (p ∷ [])) rest m e))

points_left : (program : Bool) (room : ℕ) (before : List AutomationPoint) (l : List ℕ) → Enough room l → LeftLines 49 (point_lines program room before l)
unfolding point_lines point_line next
points_left program zero before l h = on (points_end program l) (is_empty l || cut_short program l)
  where
    on : (t u : Bool) → LeftLines 49 (cond t (lines (holding before) l) (cond u (stop 9 (line_after before)) (stop 5 (line_after before))))
    on true u = omega arith
    on false true = tt
    on false false = tt
points_left program (suc room) before l h =
    step_left program room before l (points_end program l) (line_of point_meaning (point_form l)) (omega arith) (line_left point_meaning point_decided (room * 64 + 49) l (omega arith))
    (λ p rest e. points_left program room (before ++ (p ∷ [])) rest e)

-- ---- the sheet and the block

-- a names line, and so many bytes after it
module _ {A : Type 0} (k : ℕ) (w : List ℕ) (n : ℕ) (f : List ℕ → Lines A) (l : List ℕ) (h : n + length w ≤ length l) where
  named_same : (m : List ℕ) → ((r : List ℕ) → n ≤ length r → f (r ++ m) ≡ more_lines m (f r)) → named k w (l ++ m) f ≡ more_lines m (named k w l f)
  named_same m g =
      rw (starts_same w l m (omega arith), drop-append-le (length w) l m (omega arith), g (drop (length w) l) (omega (arith, length-drop (length w) l)))
      (on (starts_with w l))
    where
      on : (t : Bool) → cond t (more_lines m (f (drop (length w) l))) (stop 9 k) ≡ more_lines m (cond t (f (drop (length w) l)) (stop 9 k))
      on true = refl
      on false = refl

  named_left : (c : ℕ) → ((r : List ℕ) → n ≤ length r → LeftLines c (f r)) → LeftLines c (named k w l f)
  named_left c g = on (starts_with w l)
    where
      on : (t : Bool) → LeftLines c (cond t (f (drop (length w) l)) (stop 9 k))
      on true = g (drop (length w) l) (omega (arith, length-drop (length w) l))
      on false = tt

-- the point lines after the second names
settled_same : (program : Bool) (s : Settings) (l m : List ℕ) → Enough 256 l → with_settings s (point_lines program 256 [] (l ++ m)) ≡ more_lines m (with_settings s (point_lines program 256 [] l))
settled_same program s l m h = ap (with_settings s) (points_same program 256 [] l m h) ∙ on (point_lines program 256 [] l)
  where
    on : (x : Lines Points) → with_settings s (more_lines m x) ≡ more_lines m (with_settings s x)
    on (stop n k) = refl
    on (lines ps rest) = refl

settled_left : (program : Bool) (s : Settings) (l : List ℕ) → Enough 256 l → LeftLines 49 (with_settings s (point_lines program 256 [] l))
settled_left program s l h = on (point_lines program 256 [] l) (points_left program 256 [] l h)
  where
    on : (x : Lines Points) → LeftLines 49 x → LeftLines 49 (with_settings s x)
    on (stop n k) h = tt
    on (lines ps rest) h = h

-- the settings line and what follows it
module _ (program : Bool) where
  after : Settings → List ℕ → Lines AutomationEnvelope
  after s l = named 3 point_names l (λ r. with_settings s (point_lines program 256 [] r))

  head_same : (l m : List ℕ) → 16510 ≤ length l → onward 2 (settings_line (l ++ m)) after ≡ more_lines m (onward 2 (settings_line l) after)
  unfolding settings_line after
  head_same l m h = ap (λ (x : Line Settings). onward 2 x after) (line_same settings_meaning settings_decided l m (omega arith))
      ∙ on (line_of settings_meaning (settings_form l)) (line_left settings_meaning settings_decided 16467 l (omega arith))
    where
      on : (x : Line Settings) → LeftLine 16467 x → onward 2 (more_line m x) after ≡ more_lines m (onward 2 x after)
      on (refused n) h = refl
      on (line s rest) h = named_same 3 point_names 16433 (λ r. with_settings s (point_lines program 256 [] r)) rest (omega arith) m (λ r e. settled_same program s r m (omega arith))

  head_left : (l : List ℕ) → 16510 ≤ length l → LeftLines 49 (onward 2 (settings_line l) after)
  unfolding settings_line after
  head_left l h = on (line_of settings_meaning (settings_form l)) (line_left settings_meaning settings_decided 16467 l (omega arith))
    where
      on : (x : Line Settings) → LeftLine 16467 x → LeftLines 49 (onward 2 x after)
      on (refused n) h = tt
      on (line s rest) h = named_left 3 point_names 16433 (λ r. with_settings s (point_lines program 256 [] r)) rest (omega arith) 49 (λ r e. settled_left program s r (omega arith))

  sheet_same : (l m : List ℕ) → 16543 ≤ length l → sheet_lines program (l ++ m) ≡ more_lines m (sheet_lines program l)
  unfolding sheet_lines after
  sheet_same l m h = named_same 1 setting_names 16510 (λ r. onward 2 (settings_line r) after) l (omega arith) m (λ r e. head_same r m e)

  sheet_left : (l : List ℕ) → 16543 ≤ length l → LeftLines 49 (sheet_lines program l)
  unfolding sheet_lines after
  sheet_left l h = named_left 1 setting_names 16510 (λ r. onward 2 (settings_line r) after) l (omega arith) 49 (λ r e. head_left r e)

block_same : (m : List ℕ) (x : Lines AutomationEnvelope) → LeftLines 49 x → block_from (more_lines m x) ≡ block_from x
unfolding block_line
block_same m (stop n k) h = refl
block_same m (lines e rest) h =
    rw (drop-append-le 14 rest m (omega arith), line_same block_meaning block_decided (drop 14 rest) m (omega (arith, length-drop 14 rest)))
    (on (line_of block_meaning (block_form (drop 14 rest))) (line_left block_meaning block_decided 1 (drop 14 rest) (omega (arith, length-drop 14 rest))))
  where
    on : (x : Line Block) → LeftLine 1 x → last_line e (e.points.count + 5) (more_line m x) ≡ last_line e (e.points.count + 5) x
    on (refused n) h = refl
    on (line b r) h = let z = empty_same r m h in rw (z.0, z.1)

-- ---- the first bytes decide

-- of a list that is long enough only the first n bytes matter
first : {B : Type 0} (f : List ℕ → B) → ((l m : List ℕ) → 16543 ≤ length l → f (l ++ m) ≡ f l) → (n : ℕ) (l : List ℕ) → 16543 ≤ n → f (take n l) ≡ f l
first f g n l h = on (leb (length l) n) refl
  where
    on : (t : Bool) → leb (length l) n ≡ t → f (take n l) ≡ f l
    on true e = ap f (take_all n l (leb-true (length l) n e))
    on false e = sym (ap f (sym (take-append-drop n l)) ∙ g (take n l) (drop n l) (omega (arith, length-take n l, leb-false (length l) n e)))

-- of the program's input
pub input_decided : (n : ℕ) (l : List ℕ) → 16543 ≤ n → play_input (take n l) ≡ play_input l
unfolding play_input
input_decided n l h = first play_input (λ r m e. ap block_from (sheet_same true r m e) ∙ block_same m (sheet_lines true r) (sheet_left true r e)) n l h

-- and of a sheet
pub sheet_decided : (n : ℕ) (l : List ℕ) → 16543 ≤ n → read_sheet (take n l) ≡ read_sheet l
unfolding read_sheet
sheet_decided n l h = first read_sheet (λ r m e. ap read_from (sheet_same false r m e) ∙ on (sheet_lines false r) m) n l h
  where
    on : (x : Lines AutomationEnvelope) (m : List ℕ) → read_from (more_lines m x) ≡ read_from x
    on (stop n k) m = refl
    on (lines e rest) m = refl
