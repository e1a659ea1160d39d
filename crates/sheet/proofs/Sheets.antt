-- The lines of a sheet: what is written is read back, and what is read is valid and was written so. Assumes nothing.
use Prim.Native.Nat.{ℕ, zero, suc, ◌-◌, ◌≤◌, ◌<◌}
use mathlib.Core.Path.{◌≡◌, refl, sym, ap, subst, ◌∙◌}
use mathlib.Core.Bool.{Bool, true, false, cond, ◌||◌}
use mathlib.Core.List.{List, [], ◌∷◌, ◌++◌, append-nil, append_assoc}
use native.Mathlib.Omega.{arith}
use borrow.Author.Tests.{le-leb}
use lib.ListN.{length, drop, replicate, length-append}
use lib.Seq.{take-append_seam}
use Rattle.lines.proofs.Reading.{lines_next}
use Rattle.numbers.proofs.Tests.{and_left, and_right, and_both}
use Rattle.points.proofs.Laws.{rising_front}
use Rattle.points.specs.Point.{finite_point, unused}
use Rattle.points.specs.Points.{list_of, holding, every, time_key, rising, rising_by}
use Rattle.points.specs.Refusal.{Said, refuses, gives}
use Rattle.points.specs.declared.AutomationPoint.{AutomationPoint}
use Rattle.points.specs.declared.Points.{Points}
use Rattle.limits.specs.Limits.{finite_limits}
use Rattle.envelope.specs.Envelope.{limits_of, valid_envelope}
use Rattle.envelope.specs.Typed.{typed_point, typed}
use Rattle.envelope.specs.declared.AutomationEnvelope.{AutomationEnvelope}
use Rattle.fields.specs.Form.{Got, bad, got, starts_with}
use Rattle.lines.specs.Lines.{Line, refused, line, meant, line_of, settings_form, settings_meaning, settings_line, point_form, point_meaning, point_line}
use Rattle.lines.specs.PointLines.{Lines, stop, lines, onward, block_names, is_empty, points_end, cut_short, line_after, point_lines}
use Rattle.sheet.specs.Sheet.{named, setting_names, point_names, envelope_from, with_settings, sheet_lines}
use Rattle.sheet.specs.Text.{settings_text, point_text, raw_settings, raw_point, point_texts, sheet_text}
use Rattle.lines.specs.declared.settings.RawSettings.{RawSettings}
use Rattle.lines.specs.declared.settings.Settings.{Settings}
use Rattle.lines.specs.declared.point.RawPoint.{RawPoint}
use Rattle.fields.proofs.Starts.{starts_back}
use Rattle.sheet.proofs.LineForms.{read_settings, settings_found, read_point, point_found}
use Rattle.sheet.proofs.Meanings.{settings_of, settings_read, settings_fine, settings_back, back_limits, point_read, point_fine, point_back, back_finite_point}
use Rattle.sheet.proofs.Texts.{point_length}
use Rattle.points.proofs.ValidLaws.{valid_count, valid_finite, valid_rising, list_of_length, holding_list_of, holding_valid}
use Rattle.envelope.proofs.ValidParts.{limits_finite, points_valid}
use Rattle.envelope.proofs.TypedLists.{list_of_typed}
use Rattle.envelope.proofs.TypedParts.{parted, target_lt, places_length}

-- ---- a line that was read

unmeant : {B C : Type 0} (m : List ℕ) (x : Said B) {b : B} {rest : List ℕ} → meant m x ≡ line b rest → (x ≡ gives b → m ≡ rest → C) → C
unmeant m (refuses n) e f = cc
unmeant m (gives b) e f = f (cc) (cc)

unline : {A B C : Type 0} (meaning : A → Said B) (x : Got A) {b : B} {rest : List ℕ} → line_of meaning x ≡ line b rest
    → ((a : A) → x ≡ got a rest → meaning a ≡ gives b → C) → C
unline meaning bad e f = cc
unline meaning (got a m) e f = unmeant m (meaning a) e (λ g h. f a (ap (λ (l : List ℕ). got a l) h) g)

module _ (l : List ℕ) (p : AutomationPoint) (rest : List ℕ) (e : point_line l ≡ line p rest) where
  pub line_text : l ≡ point_text (raw_point p) ++ rest
  unfolding point_line
  line_text = unline point_meaning (point_form l) e (λ r f m. let w = point_found l r rest f in w.text ∙ ap (λ (x : RawPoint). point_text x ++ rest) (sym (point_back r p m w.fine)))

  pub line_finite : finite_point p ≡ true
  unfolding point_line
  line_finite = unline point_meaning (point_form l) e (λ r f m. back_finite_point r p m)

pub point-line : (p : AutomationPoint) (rest : List ℕ) → typed_point p ≡ true → finite_point p ≡ true → point_line (point_text (raw_point p) ++ rest) ≡ line p rest
unfolding point_line
point-line p rest t f = rw (read_point (raw_point p) rest (point_fine p t), point_read p t f)

-- ---- the point lines that were read

-- the points `ps` after those before
record PointsRead (program : Bool) (room : ℕ) (before : List AutomationPoint) (l : List ℕ) (all : Points) (rest : List ℕ) : Type 0 where
  ps : List AutomationPoint
  is : all ≡ holding (before ++ ps)
  fit : length ps ≤ room
  fine : every finite_point ps ≡ true
  rise : rising (before ++ ps) ≡ true
  end : points_end program rest ≡ true
  text : l ≡ point_texts ps ++ rest

module _ (program : Bool) (all : Points) (rest : List ℕ) where
  none_read : (room : ℕ) (before : List AutomationPoint) (l : List ℕ) → rising before ≡ true → points_end program l ≡ true → lines (holding before) l ≡ lines all rest
      → PointsRead program room before l all rest
  unfolding point_texts
  none_read room before l r e q =
      let s : holding before ≡ all = cc in
      let m : l ≡ rest = cc in
      record {
        ps = [];
        is = sym s ∙ ap holding (sym (append-nil before));
        fit = omega arith;
        fine = refl;
        rise = ap rising (append-nil before) ∙ r;
        end = ap (points_end program) (sym m) ∙ e;
        text = m;
      }

  one_read : (room : ℕ) (before : List AutomationPoint) (l : List ℕ) (p : AutomationPoint) (m : List ℕ) → point_line l ≡ line p m
      → PointsRead program room (before ++ (p ∷ [])) m all rest → PointsRead program (suc room) before l all rest
  unfolding point_texts
  one_read room before l p m e w = record {
    ps = p ∷ w.ps;
    is = w.is ∙ ap holding (append_assoc before (p ∷ []) w.ps);
    fit = omega (arith, w.fit);
    fine = rw (line_finite l p m e) w.fine;
    rise = ap rising (sym (append_assoc before (p ∷ []) w.ps)) ∙ w.rise;
    end = w.end;
    text = line_text l p m e ∙ ap (λ (x : List ℕ). point_text (raw_point p) ++ x) w.text ∙ sym (append_assoc (point_text (raw_point p)) (point_texts w.ps) rest);
  }

  points_read : (room : ℕ) (before : List AutomationPoint) (l : List ℕ) → rising before ≡ true → point_lines program room before l ≡ lines all rest
      → PointsRead program room before l all rest
  unfolding point_lines
  points_read zero before l r q = on (points_end program l) refl (is_empty l || cut_short program l) q
    where
      on : (t : Bool) → points_end program l ≡ t → (u : Bool) → cond t (lines (holding before) l) (cond u (stop 9 (line_after before)) (stop 5 (line_after before))) ≡ lines all rest
          → PointsRead program zero before l all rest
      on true e u q = none_read zero before l r e q
      on false e true q = cc
      on false e false q = cc
  points_read (suc room) before l r q = on (points_end program l) refl (point_line l) refl q (λ p m h. points_read room (before ++ (p ∷ [])) m h)
    where
      next : AutomationPoint → List ℕ → Lines Points
      next p m = cond (rising (before ++ (p ∷ []))) (point_lines program room (before ++ (p ∷ [])) m) (stop 6 (line_after before))

      rose : (p : AutomationPoint) (m : List ℕ) (t : Bool) → rising (before ++ (p ∷ [])) ≡ t → point_line l ≡ line p m
          → cond t (point_lines program room (before ++ (p ∷ [])) m) (stop 6 (line_after before)) ≡ lines all rest
          → (rising (before ++ (p ∷ [])) ≡ true → point_lines program room (before ++ (p ∷ [])) m ≡ lines all rest → PointsRead program room (before ++ (p ∷ [])) m all rest)
          → PointsRead program (suc room) before l all rest
      rose p m true t e q f = one_read room before l p m e (f t q)
      rose p m false t e q f = cc

      on : (t : Bool) → points_end program l ≡ t → (x : Line AutomationPoint) → point_line l ≡ x
          → cond t (lines (holding before) l)
          (onward (line_after before) x (λ p m. cond (rising (before ++ (p ∷ []))) (point_lines program room (before ++ (p ∷ [])) m) (stop 6 (line_after before))))
          ≡ lines all rest
          → ((p : AutomationPoint) (m : List ℕ) → rising (before ++ (p ∷ [])) ≡ true → point_lines program room (before ++ (p ∷ [])) m ≡ lines all rest
          → PointsRead program room (before ++ (p ∷ [])) m all rest)
          → PointsRead program (suc room) before l all rest
      on true e x k q f = none_read (suc room) before l r e q
      on false e (refused n) k q f = cc
      on false e (line p m) k q f = rose p m (rising (before ++ (p ∷ []))) refl k q (f p m)

-- ---- a sheet that was read

pub record SheetRead (program : Bool) (l : List ℕ) (e : AutomationEnvelope) (rest : List ℕ) : Type 0 where
  pub valid : valid_envelope e ≡ true
  pub end : points_end program rest ≡ true
  pub text : l ≡ sheet_text e ++ rest

unnamed : {B C : Type 0} (k : ℕ) (names l : List ℕ) (next : List ℕ → Lines B) {b : B} {rest : List ℕ} → named k names l next ≡ lines b rest
    → (l ≡ names ++ drop (length names) l → next (drop (length names) l) ≡ lines b rest → C) → C
unnamed {B} {C} k names l next {b} {rest} e f = on (starts_with names l) refl e
  where
    on : (t : Bool) → starts_with names l ≡ t → cond t (next (drop (length names) l)) (stop 9 k) ≡ lines b rest → C
    on true t q = f (starts_back names l t) q
    on false t q = cc

unonward : {A B C : Type 0} (k : ℕ) (x : Line A) (next : A → List ℕ → Lines B) {b : B} {rest : List ℕ} → onward k x next ≡ lines b rest
    → ((a : A) (m : List ℕ) → x ≡ line a m → next a m ≡ lines b rest → C) → C
unonward k (refused n) next e f = cc
unonward k (line a m) next e f = f a m refl e

unsettled : {C : Type 0} (s : Settings) (x : Lines Points) {e : AutomationEnvelope} {rest : List ℕ} → with_settings s x ≡ lines e rest
    → ((ps : Points) → x ≡ lines ps rest → envelope_from s ps ≡ e → C) → C
unsettled s (stop n k) q f = cc
unsettled s (lines ps m) {e} {rest} q f =
    let a : envelope_from s ps ≡ e = cc in
    let b : m ≡ rest = cc in
    f ps (ap (λ (l : List ℕ). lines ps l) b) a

texts : (a b c d rest : List ℕ) → a ++ (b ++ (c ++ (d ++ rest))) ≡ (a ++ (b ++ (c ++ d))) ++ rest
texts a b c d rest = simp append_assoc

pub sheet_read : (program : Bool) (l : List ℕ) (e : AutomationEnvelope) (rest : List ℕ) → sheet_lines program l ≡ lines e rest → SheetRead program l e rest
unfolding sheet_lines settings_line sheet_text rising_by
sheet_read program l e rest q =
    let names3 : Settings → List ℕ → Lines AutomationEnvelope = λ s l2. named 3 point_names l2 (λ l3. with_settings s (point_lines program 256 [] l3)) in
    unnamed 1 setting_names l (λ l1. onward 2 (settings_line l1) names3) q (λ n1 q1.
    unonward 2 (settings_line (drop (length setting_names) l)) names3 q1 (λ s l2 n2 q2.
    unnamed 3 point_names l2 (λ l3. with_settings s (point_lines program 256 [] l3)) q2 (λ n3 q3.
    unsettled s (point_lines program 256 [] (drop (length point_names) l2)) q3 (λ ps n4 same.
    unline settings_meaning (settings_form (drop (length setting_names) l)) n2 (λ r f m.
    let w = points_read program ps rest 256 [] (drop (length point_names) l2) refl n4 in
    let found = settings_found (drop (length setting_names) l) r l2 f in
    let h = holding w.ps in
    subst (λ (x : AutomationEnvelope). SheetRead program l x rest) (ap (λ (x : Points). envelope_from s x) (sym w.is) ∙ same)
    (record {
      valid = rw (back_limits r s h m) (holding_valid w.ps ∙ and_both (le-leb (length w.ps) 256 w.fit) (and_both w.fine w.rise));
      end = w.end;
      text = n1
          ∙ ap (λ (x : List ℕ). setting_names ++ x) (found.text
          ∙ ap (λ (x : List ℕ). settings_text r ++ x) (n3
          ∙ ap (λ (x : List ℕ). point_names ++ x) w.text))
          ∙ texts setting_names (settings_text r) point_names (point_texts w.ps) rest
          ∙ ap (λ (x : RawSettings). (setting_names ++ (settings_text x ++ (point_names ++ point_texts w.ps))) ++ rest) (sym (settings_back r s h m found.fine))
          ∙ ap (λ (x : List AutomationPoint). (setting_names ++ (settings_text (raw_settings (envelope_from s h)) ++ (point_names ++ point_texts x))) ++ rest)
          (sym (take-append_seam w.ps (replicate (256 - length w.ps) unused)));
    }))))))

-- the program's: few enough points to count, and its block's names after them
pub program_few : (l : List ℕ) (e : AutomationEnvelope) (rest : List ℕ) → lines e rest ≡ sheet_lines true l → e.points.count ≤ 256
program_few l e rest q = valid_count e.points (points_valid e (sheet_read true l e rest (sym q)).valid)

pub program_names : (l : List ℕ) (e : AutomationEnvelope) (rest : List ℕ) → lines e rest ≡ sheet_lines true l → starts_with block_names rest ≡ true
unfolding points_end
program_names l e rest q = (sheet_read true l e rest (sym q)).end

pub ruleset program_read = (program_few, program_names)

-- ---- the lines that were written

not_empty : (l : List ℕ) → 0 < length l → points_end false l ≡ false
unfolding points_end is_empty
not_empty [] h = absurd (omega arith)
not_empty (b ∷ l) h = refl

pub points_written : (room : ℕ) (before ps : List AutomationPoint) → length ps ≤ room → every typed_point ps ≡ true → every finite_point ps ≡ true → rising (before ++ ps) ≡ true
    → point_lines false room before (point_texts ps) ≡ lines (holding (before ++ ps)) []
unfolding point_lines point_texts points_end is_empty
points_written zero before [] h t f r = ap (λ (l : List AutomationPoint). lines (holding l) []) (sym (append-nil before))
points_written zero before (p ∷ ps) h t f r = absurd (omega arith)
points_written (suc room) before [] h t f r = ap (λ (l : List AutomationPoint). lines (holding l) []) (sym (append-nil before))
points_written (suc room) before (p ∷ ps) h t f r =
    let l = point_text (raw_point p) ++ point_texts ps in
    let some : points_end false l ≡ false = not_empty l (omega (arith, length-append (point_text (raw_point p)) (point_texts ps), point_length (raw_point p))) in
    let rs : rising ((before ++ (p ∷ [])) ++ ps) ≡ true = ap rising (append_assoc before (p ∷ []) ps) ∙ r in
    let read : point_line l ≡ line p (point_texts ps) = point-line p (point_texts ps) (and_left (typed_point p) (every typed_point ps) t) (and_left (finite_point p) (every finite_point ps) f) in
    lines_next false before l room some
    ∙ rw (read, rising_front time_key (before ++ (p ∷ [])) ps rs)
    (points_written room (before ++ (p ∷ [])) ps (omega arith) (and_right (typed_point p) (every typed_point ps) t) (and_right (finite_point p) (every finite_point ps) f) rs
    ∙ ap (λ (m : List AutomationPoint). lines (holding m) []) (append_assoc before (p ∷ []) ps))

-- ---- a sheet that was written

module _ (e : AutomationEnvelope) (t : typed e ≡ true) where
  settings-line : finite_limits (limits_of e) ≡ true → (rest : List ℕ) → settings_line (settings_text (raw_settings e) ++ rest) ≡ line (settings_of e) rest
  unfolding settings_line
  settings-line f rest = rw (read_settings (raw_settings e) rest (settings_fine e (parted e t) (target_lt e t)), settings_read e (parted e t) f)

  pub sheet_written : valid_envelope e ≡ true → sheet_lines false (sheet_text e) ≡ lines e []
  unfolding sheet_lines sheet_text starts_with
  sheet_written v =
      let ps = list_of e.points in
      let valid = points_valid e v in
      let ended : length ps ≤ 256 = omega (arith, list_of_length e.points valid (places_length e t), valid_count e.points valid) in
      rw (
        settings-line (limits_finite e v) (point_names ++ point_texts ps),
        points_written 256 [] ps ended (list_of_typed e.points (parted e t).points) (valid_finite e.points valid) (valid_rising e.points valid),
        holding_list_of e.points valid (places_length e t),
      )
