-- The loop over the point lines: what holds before each line, and what it comes to. Assumes nothing.
use Rattle.std.specs.Prelude.{Some, None, slice_get}
use Prim.Native.Nat.{ℕ, zero, suc, ◌+◌, ◌-◌, ◌≤◌, ◌<◌}
use mathlib.Core.Path.{◌≡◌, refl, sym, ap, subst, ◌∙◌}
use mathlib.Core.Bool.{Bool, true, false, cond, ◌&&◌, ◌||◌, and-true}
use mathlib.Core.List.{List, [], ◌∷◌, ◌++◌}
use native.Mathlib.Omega.{arith}
use borrow.Author.Tests.{lt-ltb}
use lib.ListN.{length, length-append}
use lib.Dec.{ltb}
use Rattle.std.proofs.lemmas.Option.{none-some, same_Some}
use Rattle.numbers.proofs.Tests.{and_left, and_right}
use Rattle.points.specs.Points.{list_of, holding, with_more, rising, rising_by, time_key}
use Rattle.points.proofs.ValidLaws.{list_of_holding, pushed}
use Rattle.points.specs.declared.AutomationPoint.{AutomationPoint}
use Rattle.points.specs.declared.Points.{Points}
use Rattle.lines.specs.Lines.{Line, refused, line, point_line}
use Rattle.lines.specs.PointLines.{Lines, stop, lines, onward, is_empty, points_end, cut_short, point_lines}

-- ---- one more point: the first one, and one after another

before : (n : ℕ) → suc n - 1 ≡ n
before n = omega arith

pub rise_first : (ps : List AutomationPoint) (p : AutomationPoint) → slice_get ps (length ps - 1) ≡ None → rising (ps ++ (p ∷ [])) ≡ true
unfolding rising_by
rise_first [] p e = refl
rise_first (q ∷ ps) p e = absurd (within q ps (rw before at e))
  where
    within : (q : AutomationPoint) (l : List AutomationPoint) → slice_get (q ∷ l) (length l) ≡ None → ⊥
    within q [] e = none-some q (sym e)
    within q (x ∷ l) e = within x l e

pub rise_next : (ps : List AutomationPoint) (p q : AutomationPoint) → rising ps ≡ true → slice_get ps (length ps - 1) ≡ Some q → rising (ps ++ (p ∷ [])) ≡ ltb (time_key q) (time_key p)
unfolding rising_by
rise_next [] p q r e = absurd (none-some q e)
rise_next (x ∷ ps) p q r e = up x ps r (rw before at e)
  where
    up : (x : AutomationPoint) (ps : List AutomationPoint) → rising (x ∷ ps) ≡ true → slice_get (x ∷ ps) (length ps) ≡ Some q → rising (x ∷ (ps ++ (p ∷ []))) ≡ ltb (time_key q) (time_key p)
    up x [] r e = let k : x ≡ q = same_Some x q e in rw k (and-true (ltb (time_key q) (time_key p)))
    up x (y ∷ ps) r e =
        let s = ltb (time_key x) (time_key y) in
        ap (λ (t : Bool). t && rising (y ∷ (ps ++ (p ∷ [])))) (and_left s _ r) ∙ up y ps (and_right s _ r) e

-- ---- the definition, opened

either : (t : Bool) (k : ℕ) → ◌≡◌ {A = Lines Points} (cond t (stop 9 k) (stop 5 k)) (stop (cond t 9 5) k)
either true k = refl
either false k = refl

module _ (program : Bool) (before : List AutomationPoint) (l : List ℕ) where
  lines_end : (room : ℕ) → points_end program l ≡ true → point_lines program room before l ≡ lines (holding before) l
  unfolding point_lines
  lines_end zero e = rw e
  lines_end (suc room) e = rw e

  lines_full : points_end program l ≡ false → point_lines program 0 before l ≡ stop (cond (is_empty l || cut_short program l) 9 5) (length before + 4)
  unfolding point_lines
  lines_full e = rw e (either (is_empty l || cut_short program l) (length before + 4))

  pub lines_next : (room : ℕ) → points_end program l ≡ false
      → point_lines program (suc room) before l
      ≡ onward (length before + 4) (point_line l) (λ p rest. cond (rising (before ++ (p ∷ []))) (point_lines program room (before ++ (p ∷ [])) rest) (stop 6 (length before + 4)))
  unfolding point_lines
  lines_next room e = rw e

-- ---- the loop

pub record Reading (program : Bool) (l rest : List ℕ) (ps : Points) : Type 0 where
  pub few : ps.count ≤ 256
  pub holds : holding (list_of ps) ≡ ps
  pub rises : rising (list_of ps) ≡ true
  pub same : point_lines program 256 [] l ≡ point_lines program (256 - ps.count) (list_of ps) rest

pub begun : (program : Bool) (l : List ℕ) (ps : Points) → ps ≡ holding [] → Reading program l l ps
unfolding rising_by
begun program l ps e = subst (λ (x : Points). Reading program l l x) (sym e) (record { few = omega arith; holds = refl; rises = refl; same = refl })

module _ {program : Bool} {l rest : List ℕ} {ps : Points} (r : Reading program l rest ps) where
  taken : length (list_of ps) ≡ ps.count
  taken = ap (λ (x : Points). x.count) r.holds

  pub ended : points_end program rest ≡ true → lines ps rest ≡ point_lines program 256 [] l
  ended h = sym (r.same ∙ lines_end program (list_of ps) rest (256 - ps.count) h ∙ ap (λ (e : Points). lines e rest) r.holds)

  module _ (h : points_end program rest ≡ false) where
    pub full : (n : ℕ) → n ≡ cond (is_empty rest || cut_short program rest) 9 5 → ps.count ≡ 256 → stop n (ps.count + 4) ≡ point_lines program 256 [] l
    full n k e =
        let z : 256 - ps.count ≡ 0 = omega arith in
        sym (r.same ∙ ap (λ (m : ℕ). point_lines program m (list_of ps) rest) z ∙ lines_full program (list_of ps) rest h ∙ rw (← k, taken))

    module _ (less : ps.count < 256) where
      opened : point_lines program 256 [] l
          ≡ onward (ps.count + 4) (point_line rest)
          (λ p after. cond (rising (list_of ps ++ (p ∷ []))) (point_lines program (256 - (ps.count + 1)) (list_of ps ++ (p ∷ [])) after) (stop 6 (ps.count + 4)))
      opened =
          let z : 256 - ps.count ≡ suc (256 - (ps.count + 1)) = omega arith in
          r.same
          ∙ ap (λ (k : ℕ). point_lines program k (list_of ps) rest) z
          ∙ lines_next program (list_of ps) rest (256 - (ps.count + 1)) h
          ∙ ap
          (λ (k : ℕ). onward (k + 4) (point_line rest)
          (λ p after. cond (rising (list_of ps ++ (p ∷ []))) (point_lines program (256 - (ps.count + 1)) (list_of ps ++ (p ∷ [])) after) (stop 6 (k + 4)))) taken

      pub refuses : (n : ℕ) → point_line rest ≡ refused n → stop n (ps.count + 4) ≡ point_lines program 256 [] l
      refuses n e = sym (opened ∙ rw e)

      module _ (p : AutomationPoint) (after : List ℕ) (e : point_line rest ≡ line p after) where
        pub falls : rising (list_of ps ++ (p ∷ [])) ≡ false → stop 6 (ps.count + 4) ≡ point_lines program 256 [] l
        falls f = sym (opened ∙ rw (e, f))

        pub goes_on : rising (list_of ps ++ (p ∷ [])) ≡ true → (more : Points) → more ≡ with_more ps p → Reading program l after more
        goes_on f more q =
            let m = list_of ps ++ (p ∷ []) in
            let n : length m ≡ ps.count + 1 = omega (arith, length-append (list_of ps) (p ∷ []), taken) in
            let is : more ≡ holding m = q ∙ rw (lt-ltb ps.count 256 less) (pushed ps (list_of ps) p (omega (arith, taken)) (sym r.holds)) in
            let has : list_of (holding m) ≡ m = list_of_holding m in
            subst (λ (x : Points). Reading program l after x) (sym is)
            (record {
              few = omega (arith, n);
              holds = ap holding has;
              rises = ap (λ (l : List AutomationPoint). rising l) has ∙ f;
              same = opened ∙ rw (e, f, has, n);
            })

-- each turn leaves fewer places
pub fewer : (ps : Points) (p : AutomationPoint) (more : Points) → more ≡ with_more ps p → ps.count < 256 → 256 - more.count < 256 - ps.count
fewer ps p more q h = let n : more.count ≡ ps.count + 1 = ap (λ (x : Points). x.count) q ∙ rw (lt-ltb ps.count 256 h) in omega (arith, n)

-- what a line said, by what it is with its number
pub was_line : {A : Type 0} (k : ℕ) (l : Line A) (a : A) (m : List ℕ) → lines a m ≡ onward k l lines → l ≡ line a m
was_line k (refused n) a m e = cc
was_line k (line b r) a m e = cc
