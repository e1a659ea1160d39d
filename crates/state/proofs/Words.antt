-- The words of a state, as the loops write and read them. Assumes nothing.
use Rattle.std.proofs.Common.{◌≡◌, ℕ, suc, ◌+◌, ◌*◌, ◌-◌, ◌≤◌, ◌<◌, Bool, true, false, cond, ◌&&◌, List, [], ◌∷◌, ◌++◌, length, get_or, take, drop, set, replicate, eqb, Err, Ok, Result, refl, sym, ap, ◌∙◌, arith}
use Rattle.std.specs.Cmp.Lexicographic.{pointwise}
use Rattle.std.proofs.lemmas.List.{append-nil, append_assoc, length-append, length-set, length-take-le, take_at, drop_at, drop-drop, take_all, take_more, take_more_set, flat_map_more, get_or-set_other, get_or-replicate, length-replicate, nil_from_length}
use Rattle.std.proofs.lemmas.Slice.Eq.{bytes_eq-Decides}
use Rattle.std.specs.Float.{binary64}
use Rattle.std.specs.Float.Ieee.{of_bits, to_bits}
use Rattle.curve.specs.Curve.{code, controls, curve_of}
use borrow.Rule.Slice.PartMut.{put_mid}
use Rattle.points.specs.Points.{every_pair}
use Rattle.points.specs.Point.{unused, any_point}
use Rattle.points.specs.declared.AutomationPoint.{AutomationPoint}
use Rattle.points.specs.declared.refusal.Refusal.{Refusal}
use Rattle.points.specs.declared.refusal.Refusal.TheVariants.{StoredState}
use Rattle.envelope.specs.declared.AutomationEnvelope.{AutomationEnvelope}
use Rattle.state.specs.State.{position_word, controls_word, value_word, pack_settings, pack_point, point_of, pack_points, points_of, pack}
use Rattle.state.proofs.StateLaws.{length-settings, length-points}

-- ---- the loop that writes the places

module _ (e : AutomationEnvelope) (w : List ℕ) where
  -- the words of the first i points
  abbrev packed : ℕ → List ℕ
  packed i = pack_settings e ++ pack_points (take i e.points.places)

  -- they stand in front, and the words after them as they were
  pub record Put (i : ℕ) (words : List ℕ) : Type 0 where
    pub run : words ≡ packed i ++ drop (4 + 4 * i) w

  pub put_none : {ys : List ℕ} → ys ≡ pack_settings e → Put 0 (ys ++ drop 4 w)
  unfolding pack_points
  put_none is = record { run = ap (λ (l : List ℕ). l ++ drop 4 w) (is ∙ sym (append-nil (pack_settings e))) }

  length-packed : (i : ℕ) → i ≤ length e.points.places → length (packed i) ≡ 4 + 4 * i
  length-packed i h =
      omega (arith, length-append (pack_settings e) (pack_points (take i e.points.places)), length-settings e, length-points (take i e.points.places), length-take-le i e.points.places h)

  packed_more : (i : ℕ) → i < length e.points.places → packed i ++ pack_point (get_or e.points.places i any_point) ≡ packed (i + 1)
  unfolding pack_points
  packed_more i h =
      flat_map_more pack_point (pack_settings e) (take i e.points.places) (get_or e.points.places i any_point)
      ∙ ap (λ (l : List AutomationPoint). pack_settings e ++ pack_points l) (sym (take_more e.points.places i any_point h))

  pub put_more : {words ys : List ℕ} (i k : ℕ) → Put i words → i < length e.points.places → k ≡ 4 → ys ≡ pack_point (get_or e.points.places i any_point)
      → Put (i + 1) (put_mid (4 + 4 * i) k words ys)
  put_more {words} {ys} i k put h four is =
      let rest : 4 + 4 * i + k ≡ 4 + 4 * (i + 1) = omega arith in
      let at = length-packed i (omega arith) in
      record {
        run = ap (λ (l : List ℕ). put_mid (4 + 4 * i) k l ys) put.run
            ∙ (λ j. take_at (packed i) (drop (4 + 4 * i) w) (4 + 4 * i) at j ++ (is j ++ drop k (drop_at (packed i) (drop (4 + 4 * i) w) (4 + 4 * i) at j)))
            ∙ ap (λ (l : List ℕ). packed i ++ (pack_point (get_or e.points.places i any_point) ++ l)) (drop-drop k (4 + 4 * i) w ∙ ap (λ (n : ℕ). drop n w) rest)
            ∙ sym (append_assoc (packed i) (pack_point (get_or e.points.places i any_point)) (drop (4 + 4 * (i + 1)) w))
            ∙ ap (λ (l : List ℕ). l ++ drop (4 + 4 * (i + 1)) w) (packed_more i h);
      }

  pub put_all : {words : List ℕ} (i : ℕ) → Put i words → i ≡ 256 → length e.points.places ≡ 256 → words ≡ pack e ++ drop 1028 w
  unfolding pack
  put_all i put is len =
      put.run ∙ ap (λ (n : ℕ). packed n ++ drop (4 + 4 * n) w) is
      ∙ ap (λ (l : List AutomationPoint). (pack_settings e ++ pack_points l) ++ drop 1028 w) (take_all 256 e.points.places (omega arith))

-- ---- the loop that reads the places

-- a chunk of four words, by its words
four : (P : List ℕ → Type 0) → ((a b c d : ℕ) → P (a ∷ b ∷ c ∷ d ∷ [])) → (w : List ℕ) → length w ≡ 4 → P w
four P f [] h = absurd (omega arith)
four P f (a ∷ []) h = absurd (omega arith)
four P f (a ∷ b ∷ []) h = absurd (omega arith)
four P f (a ∷ b ∷ c ∷ []) h = absurd (omega arith)
four P f (a ∷ b ∷ c ∷ d ∷ []) h = f a b c d
four P f (a ∷ b ∷ c ∷ d ∷ e ∷ w) h = absurd (omega arith)

-- whether n points pack to the very words that they are read from
abbrev same : ℕ → List ℕ → Bool
same n w = every_pair eqb (pack_points (points_of n w)) w

and_four : (a b c d e : Bool) → (a && (b && (c && (d && e)))) ≡ ((a && (b && (c && (d && true)))) && e)
and_four false b c d e = refl
and_four true false c d e = refl
and_four true true false d e = refl
and_four true true true false e = refl
and_four true true true true e = refl

-- an unused place's four words are all 0
unused_point : point_of (0 ∷ 0 ∷ 0 ∷ 0 ∷ []) ≡ unused
unfolding point_of curve_of of_bits
unused_point = refl

unused_words : pointwise eqb (pack_point unused) (0 ∷ 0 ∷ 0 ∷ 0 ∷ []) ≡ true
unfolding pack_point code controls of_bits to_bits
unused_words = refl

point_more : (p : AutomationPoint) (a b c d : ℕ) (m r : List ℕ)
    → every_pair eqb (pack_point p ++ m) (a ∷ b ∷ c ∷ d ∷ r) ≡ (pointwise eqb (pack_point p) (a ∷ b ∷ c ∷ d ∷ []) && every_pair eqb m r)
unfolding pack_point every_pair
point_more p a b c d m r =
    and_four (eqb (to_bits binary64 p.time) a) (eqb (position_word p.sample_position) b) (eqb (controls_word p.curve) c) (eqb (value_word p) d) (every_pair eqb m r)

module _ (n : ℕ) (r : List ℕ) where
  points_more : (w : List ℕ) → length w ≡ 4 → points_of (suc n) (w ++ r) ≡ point_of w ∷ points_of n r
  unfolding points_of point_of
  points_more = four (λ w. points_of (suc n) (w ++ r) ≡ point_of w ∷ points_of n r) (λ a b c d. refl)

  same_more : (w : List ℕ) → length w ≡ 4 → same (suc n) (w ++ r) ≡ (pointwise eqb (pack_point (point_of w)) w && same n r)
  unfolding points_of point_of pack_points
  same_more =
      four (λ w. same (suc n) (w ++ r) ≡ (pointwise eqb (pack_point (point_of w)) w && same n r))
      (λ a b c d. point_more (point_of (a ∷ b ∷ c ∷ d ∷ [])) a b c d (pack_points (points_of n r)) r)

-- the places, if they pack to the same words
abbrev pub places_if : Bool → List AutomationPoint → Result (List AutomationPoint) Refusal
places_if b l = cond b (Ok l) (Err StoredState)

points_none : [] ≡ points_of 0 []
unfolding points_of
points_none = refl

same_none : same 0 [] ≡ true
unfolding points_of pack_points every_pair
same_none = refl

-- what the turns have read: the first i places, while rest is what they have left of the words
pub record Reading (words : List ℕ) (i : ℕ) (rest : List ℕ) (places : List AutomationPoint) : Type 0 where
  pub left : length rest + 4 * i ≡ 1024
  pub read : take i places ++ points_of (256 - i) rest ≡ points_of 256 words
  pub packs : same 256 words ≡ same (256 - i) rest
  pub clear : (k : ℕ) → i ≤ k → k < 256 → get_or places k any_point ≡ unused
  pub count : length places ≡ 256

pub turns_begin : {words rest : List ℕ} {i : ℕ} {p : AutomationPoint} → length words ≡ 1024 → rest ≡ words → i ≡ 0 → p ≡ unused → Reading words i rest (replicate 256 p)
turns_begin {words} {rest} {i} {p} len r z u =
    record {
      left = omega (arith, ap length r);
      read = (λ j. take (z j) (replicate 256 p) ++ points_of (256 - z j) (r j));
      packs = (λ j. same (256 - sym z j) (sym r j));
      clear = λ k a b. get_or-replicate 256 k p any_point b ∙ u;
      count = length-replicate 256 p;
    }

module _ {words rest : List ℕ} {i : ℕ} {places : List AutomationPoint} (s : Reading words i rest places) where
  -- one more chunk
  module _ (w r : List ℕ) (is : rest ≡ w ++ r) (len : length w ≡ 4) where
    lefter : length r + 4 * (i + 1) ≡ 1024
    lefter = omega (arith, s.left, ap length is, length-append w r)

    fewer : 256 - i ≡ suc (256 - (i + 1))
    fewer = omega (arith, lefter)

    packs_more : same 256 words ≡ (pointwise eqb (pack_point (point_of w)) w && same (256 - (i + 1)) r)
    packs_more = s.packs ∙ (λ j. same (fewer j) (is j)) ∙ same_more (256 - (i + 1)) r w len

    read_more : (q : List AutomationPoint) → q ≡ take i places ++ (point_of w ∷ []) → q ++ points_of (256 - (i + 1)) r ≡ points_of 256 words
    read_more q h =
        ap (λ (l : List AutomationPoint). l ++ points_of (256 - (i + 1)) r) h
        ∙ append_assoc (take i places) (point_of w ∷ []) (points_of (256 - (i + 1)) r)
        ∙ ap (λ (l : List AutomationPoint). take i places ++ l) (sym (points_more (256 - (i + 1)) r w len) ∙ (λ j. points_of (sym fewer j) (sym is j)))
        ∙ s.read

    -- it packs to the same words, and is put in its place
    pub turn_put : (p : AutomationPoint) → p ≡ point_of w → pointwise eqb (pack_point (point_of w)) w ≡ true → Reading words (i + 1) r (set places i p)
    turn_put p h t =
        record {
          left = lefter;
          read = read_more (take (i + 1) (set places i p)) (take_more_set places i p (omega (arith, lefter, s.count)) ∙ ap (λ (q : AutomationPoint). take i places ++ (q ∷ [])) h);
          packs = packs_more ∙ ap (λ (b : Bool). b && same (256 - (i + 1)) r) t;
          clear = λ k a b. get_or-set_other places i k p any_point (λ e. omega (arith, e)) ∙ s.clear k (omega arith) b;
          count = length-set places i p ∙ s.count;
        }

    -- its words are all 0, and an unused place's point stands there already
    pub turn_clear : pointwise eqb w (0 ∷ 0 ∷ 0 ∷ 0 ∷ []) ≡ true → Reading words (i + 1) r places
    turn_clear t =
        record {
          left = lefter;
          read = read_more (take (i + 1) places)
              (take_more places i any_point (omega (arith, lefter, s.count))
              ∙ ap (λ (q : AutomationPoint). take i places ++ (q ∷ [])) (s.clear i (omega arith) (omega (arith, lefter)) ∙ sym read_zeros));
          packs = packs_more ∙ ap (λ (b : Bool). b && same (256 - (i + 1)) r) packs_zeros;
          clear = λ k a b. s.clear k (omega arith) b;
          count = s.count;
        }
      where
        zeros : w ≡ 0 ∷ 0 ∷ 0 ∷ 0 ∷ []
        zeros = (bytes_eq-Decides w (0 ∷ 0 ∷ 0 ∷ 0 ∷ [])).0 t

        read_zeros : point_of w ≡ unused
        read_zeros = ap point_of zeros ∙ unused_point

        packs_zeros : pointwise eqb (pack_point (point_of w)) w ≡ true
        packs_zeros = (λ j. pointwise eqb (pack_point (read_zeros j)) (zeros j)) ∙ unused_words

    -- it packs to other words
    pub turn_other : pointwise eqb (pack_point (point_of w)) w ≡ false → Err StoredState ≡ places_if (same 256 words) (points_of 256 words)
    turn_other t = ap (λ (b : Bool). places_if b (points_of 256 words)) (sym (packs_more ∙ ap (λ (b : Bool). b && same (256 - (i + 1)) r) t))

  -- no chunk is left
  pub turns_end : length rest < 4 → Ok places ≡ places_if (same 256 words) (points_of 256 words)
  turns_end h =
      let last : i ≡ 256 = omega (arith, s.left) in
      let none : 256 - i ≡ 0 = omega arith in
      let nil : rest ≡ [] = nil_from_length rest (omega (arith, s.left)) in
      let all : same 256 words ≡ true = s.packs ∙ (λ j. same (none j) (nil j)) ∙ same_none in
      ap Ok (sym (append-nil places) ∙ (λ j. sym (take_all i places (omega (arith, s.count))) j ++ (points_none ∙ (λ k. points_of (sym none k) (sym nil k))) j) ∙ s.read)
      ∙ ap (λ (b : Bool). places_if b (points_of 256 words)) (sym all)
