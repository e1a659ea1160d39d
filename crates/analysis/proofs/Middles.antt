-- Peaks and valleys: the middle ones of three in a row as the library's windows give them, and a list written from its start. Assumes nothing.
use Rattle.std.specs.Prelude.{None, Option, Some}
use Prim.Native.Nat.{ℕ, zero, suc, ◌+◌, ◌≤◌, ◌<◌}
use mathlib.Core.Path.{◌≡◌, refl, sym, ap, ap₂, ◌∙◌}
use mathlib.Core.Bool.{Bool, true, false, cond}
use mathlib.Core.List.{List, [], ◌∷◌, ◌++◌, map, map-append}
use native.Mathlib.Numerals.{add-one}
use native.Mathlib.Omega.{arith}
use lib.ListN.{length, take, drop, get_or, set, length-map, length-append}
use lib.Seq.{drop-cons, set_at, append_snoc}
use denote.Ref.{Bor}
use Rattle.std.specs.List.{filter, enumerate_from}
use Rattle.std.specs.Slice.Iter.{windows_rest, windows_size}
use Rattle.std.specs.Slice.ArrayWindows.{array_windows_parts, array_windows_steps}
use Rattle.std.specs.declared.slice.ArrayWindows.{ArrayWindows}
use Rattle.std.proofs.lemmas.Iterator.{YieldsList}
use Rattle.std.specs.Iterator.{Yields}
use Rattle.std.proofs.lemmas.Iterator.Consumers.{YieldsList-turn, YieldsList-end}
use Rattle.std.proofs.lemmas.Iterator.Splits.{YieldsList-from_shown_while}
use Rattle.points.specs.Middles.{middles}
use Rattle.points.specs.Point.{any_point}
use Rattle.points.specs.declared.AutomationPoint.{AutomationPoint}

-- ---- the windows of three

pub triples : {A : Type 0} → List A → List (List A)
triples [] = []
triples (a ∷ []) = []
triples (a ∷ (b ∷ [])) = []
triples (a ∷ (b ∷ (c ∷ l))) = (a ∷ b ∷ c ∷ []) ∷ triples (b ∷ (c ∷ l))

module _ {A : Type 0} where
  triples_short : (l : List A) → length l < 3 → length (triples l) ≡ 0
  unfolding triples
  triples_short [] h = refl
  triples_short (a ∷ []) h = refl
  triples_short (a ∷ (b ∷ [])) h = refl
  triples_short (a ∷ (b ∷ (c ∷ l))) h = absurd (omega arith)

  triples_more : (l : List A) → 3 ≤ length l → triples l ≡ take 3 l ∷ triples (drop 1 l)
  unfolding triples
  triples_more [] h = absurd (omega arith)
  triples_more (a ∷ []) h = absurd (omega arith)
  triples_more (a ∷ (b ∷ [])) h = absurd (omega arith)
  triples_more (a ∷ (b ∷ (c ∷ l))) h = refl

  pub windows_give : {s : ArrayWindows A 3} (xs : List A) → windows_size (array_windows_parts s) ≡ 3 → windows_rest (array_windows_parts s) ≡ xs
      → YieldsList (array_windows_steps {A = A} {n = 3}) (λ x. x.now) s (triples xs)
  windows_give {s} xs three rest =
      rw (← rest)
      (YieldsList-from_shown_while array_windows_steps (λ x. x.now) (λ t. triples (windows_rest (array_windows_parts t))) (λ t. windows_size (array_windows_parts t) ≡ 3)
      (λ t u h k. triples_short (windows_rest (array_windows_parts t)) (omega (arith, h, k.1.0)))
      (λ t x u h k.
      let size : windows_size (array_windows_parts t) ≡ 3 = h in
      let w : x.now ≡ take 3 (windows_rest (array_windows_parts t)) = rw h at k.1.1 in (
        k.0 ∙ h,
        triples_more (windows_rest (array_windows_parts t)) (omega (arith, h, k.1.0)) ∙ ap (λ (y : List A). y ∷ triples (drop 1 (windows_rest (array_windows_parts t)))) (sym w)
            ∙ ap (λ (y : List A). x.now ∷ triples y) (sym k.1.2),
      ))
      s three)

-- ---- the test of a window, and its middle one

abbrev pub in_row : (AutomationPoint → AutomationPoint → AutomationPoint → Bool) → List AutomationPoint → Bool
in_row q w = q (get_or w 0 any_point) (get_or w 1 any_point) (get_or w 2 any_point)

abbrev pub middle : List AutomationPoint → AutomationPoint
middle w = get_or w 1 any_point

module _ (q : AutomationPoint → AutomationPoint → AutomationPoint → Bool) where
  pub middles_are : (l : List AutomationPoint) → map middle (filter (in_row q) (triples l)) ≡ middles q l
  unfolding middles triples
  middles_are [] = refl
  middles_are (a ∷ []) = refl
  middles_are (a ∷ (b ∷ [])) = refl
  middles_are (a ∷ (b ∷ (c ∷ l))) = go (q a b c) _ _ (middles_are (b ∷ (c ∷ l)))
    where
      go : (t : Bool) (ws : List (List AutomationPoint)) (ms : List AutomationPoint) → map middle ws ≡ ms → map middle (cond t ((a ∷ b ∷ c ∷ []) ∷ ws) ws) ≡ cond t (b ∷ ms) ms
      go true ws ms e = ap (λ (m : List AutomationPoint). b ∷ m) e
      go false ws ms e = e

  pub middles_count : (l : List AutomationPoint) → length (filter (in_row q) (triples l)) ≡ length (middles q l)
  middles_count l = sym (length-map (filter (in_row q) (triples l)) middle) ∙ ap length (middles_are l)

-- a turn of a loop that writes a number of each from a list's start
pub write_turn : {A B : Type 0} (f : A → B) (m : List A) (x : A) (o out : List B) (k : ℕ) → k ≡ length m → k < length o → out ≡ map f m ++ drop k o
    → set out k (f x) ≡ map f (m ++ (x ∷ [])) ++ drop (k + 1) o
write_turn f m x o out k w h e =
    ap (λ l. set l k (f x)) (e ∙ ap (λ l. map f m ++ l) (drop-cons o k (f x) h))
    ∙ set_at (map f m) _ (drop (suc k) o) (f x) k (length-map m f ∙ sym w)
    ∙ sym (append_snoc (map f m) (f x) (drop (suc k) o))
    ∙ ap (λ l. l ++ drop (suc k) o) (sym (map-append f m (x ∷ [])))
    ∙ ap (λ (j : ℕ). map f (m ++ (x ∷ [])) ++ drop j o) (sym (add-one k))

-- ---- what comes in turn

enumerate_at : {A : Type 0} (l : List A) (n j : ℕ) (d : ℕ × A) → j < length (enumerate_from n l) → ((get_or (enumerate_from n l) j d).0 ≡ n + j) × (j < length l)
enumerate_at [] n j d h = absurd (omega arith)
enumerate_at (x ∷ l) n zero d h = (omega arith, omega arith)
enumerate_at (x ∷ l) n (suc j) d h = let e = enumerate_at l (n + 1) j d (omega arith) in (omega (arith, e.0), omega (arith, e.1))

-- the middle ones of windows that have come, with their numbers
abbrev pub seen : List (ℕ × Bor (List AutomationPoint)) → List AutomationPoint
seen ws = map (λ p. middle p.1.now) ws

pub write_more : {B : Type 0} (f : AutomationPoint → B) (ws : List (ℕ × Bor (List AutomationPoint))) (w : ℕ × Bor (List AutomationPoint)) (o out : List B)
    → w.0 ≡ length ws → length ws < length o → out ≡ map f (seen ws) ++ drop (length ws) o
    → set out w.0 (f (middle w.1.now)) ≡ map f (seen (ws ++ (w ∷ []))) ++ drop (length (ws ++ (w ∷ []))) o
write_more f ws w o out e h i =
    let long : length (seen ws) ≡ length ws = length-map ws (λ p. middle p.1.now) in
    let more : length ws + 1 ≡ length (ws ++ (w ∷ [])) = sym (length-append ws (w ∷ [])) in
    ap (λ (k : ℕ). set out k (f (middle w.1.now))) e
    ∙ (write_turn f (seen ws) (middle w.1.now) o out (length ws) (sym long) h i
    ∙ ap₂ (λ (m : List AutomationPoint) (n : ℕ). map f m ++ drop n o) (sym (map-append (λ p. middle p.1.now) ws (w ∷ []))) more)

seen_are : (ws : List (ℕ × Bor (List AutomationPoint))) (vs : List (List AutomationPoint)) (n : ℕ) → map (λ p. (p.0, p.1.now)) ws ≡ enumerate_from n vs → seen ws ≡ map middle vs
seen_are [] [] n e = refl
seen_are [] (v ∷ vs) n e = cc
seen_are (w ∷ ws) [] n e = cc
seen_are (w ∷ ws) (v ∷ vs) n e =
    let p : ◌≡◌ {A = ℕ × List AutomationPoint} (w.0, w.1.now) (n, v) = cc in
    let r : map (λ p. (p.0, p.1.now)) ws ≡ enumerate_from (n + 1) vs = cc in
    ap₂ (λ (x : ℕ × List AutomationPoint) (m : List AutomationPoint). middle x.1 ∷ m) p (seen_are ws vs (n + 1) r)

-- the windows that pass the test, each with its number
abbrev pub passing : (AutomationPoint → AutomationPoint → AutomationPoint → Bool) → List AutomationPoint → List (ℕ × List AutomationPoint)
passing q l = enumerate_from 0 (filter (in_row q) (triples l))

module _ (q : AutomationPoint → AutomationPoint → AutomationPoint → Bool) (l : List AutomationPoint) {S : Type 0} {steps : S → Option (ℕ × Bor (List AutomationPoint)) → S → Type 0} {s t : S}
    (e : YieldsList steps (λ p. (p.0, p.1.now)) s (passing q l)) (ws : List (ℕ × Bor (List AutomationPoint))) (y : Yields steps s ws t) (r : Option (ℕ × Bor (List AutomationPoint))) (u : S) where
  -- the next one's number is how many came before it, of no more than there are middle ones
  pub numbered : (w : ℕ × Bor (List AutomationPoint)) → r ≡ Some w → steps t r u → (w.0 ≡ length ws) × (length ws < length (middles q l))
  numbered w is p =
      let k = YieldsList-turn e ws t y r u w is p in
      let n = enumerate_at (filter (in_row q) (triples l)) 0 (length ws) (w.0, w.1.now) k.0 in
      let m = middles_count q l in
      let f : w.0 ≡ (get_or (passing q l) (length ws) (w.0, w.1.now)).0 = ap (λ (x : ℕ × List AutomationPoint). x.0) k.1 in
      (omega (arith, f, n.0), omega (arith, m, n.1))

  -- at the end they are the middle ones of the points
  pub all_written : {B : Type 0} (f : AutomationPoint → B) (o : List B) → r ≡ None → steps t r u → map f (seen ws) ++ drop (length ws) o ≡ map f (middles q l) ++ drop (length (middles q l)) o
  all_written f o is p =
      let k = YieldsList-end e ws t y r u is p in
      let m : seen ws ≡ middles q l = seen_are ws (filter (in_row q) (triples l)) 0 k.0 ∙ middles_are q l in
      let n : length ws ≡ length (middles q l) = sym (length-map ws (λ p. middle p.1.now)) ∙ ap length m in
      ap₂ (λ (x : List AutomationPoint) (k : ℕ). map f x ++ drop k o) m n
