-- Reading a state, by the tests in the code's order. Assumes nothing.
use Rattle.std.proofs.Common.{◌≡◌, ℕ, ◌+◌, Bool, true, false, cond, ◌&&◌, List, [], ◌∷◌, ◌++◌, length, take, drop, eqb, refl, sym, ap, ◌∙◌, arith}
use Rattle.std.specs.Cmp.Lexicographic.{pointwise}
use Rattle.std.proofs.lemmas.List.{length-take-le, take-append-drop}
use mathlib.Core.Bool.{and_assoc, and-false}
use Rattle.points.specs.Refusal.{refuses, gives}
use Rattle.points.specs.Points.{every_pair}
use Rattle.points.proofs.Laws.{pair_length}
use Rattle.envelope.specs.Envelope.{valid_envelope}
use Rattle.envelope.specs.declared.AutomationEnvelope.{AutomationEnvelope}
use Rattle.state.specs.State.{pack_settings, pack_points, points_of, pack, state_of, if_test, unpacked, read_as, read_state}
use Rattle.state.proofs.StateLaws.{length-settings, length-places, length-points_of}

-- lists that begin with as many are compared part by part
pair_append : {A : Type 0} (q : A → A → Bool) (a b c d : List A) → length a ≡ length c → every_pair q (a ++ b) (c ++ d) ≡ (every_pair q a c && every_pair q b d)
unfolding every_pair
pair_append q [] b [] d h = refl
pair_append q [] b (y ∷ c) d h = absurd (omega arith)
pair_append q (x ∷ a) b [] d h = absurd (omega arith)
pair_append q (x ∷ a) b (y ∷ c) d h = ap (λ (t : Bool). q x y && t) (pair_append q a b c d (omega arith)) ∙ sym (and_assoc (q x y) (every_pair q a c) (every_pair q b d))

pair_is : (l m : List ℕ) → every_pair eqb l m ≡ pointwise eqb l m
unfolding every_pair
pair_is [] [] = refl
pair_is [] (n ∷ m) = refl
pair_is (k ∷ l) [] = refl
pair_is (k ∷ l) (n ∷ m) = ap (λ (t : Bool). eqb k n && t) (pair_is l m)

-- whether the words are the settings' and then the places'
same_state : (e : AutomationEnvelope) (w : List ℕ) → length w ≡ 1028
    → every_pair eqb (pack e) w ≡ (pointwise eqb (pack_settings e) (take 4 w) && every_pair eqb (pack_points e.points.places) (drop 4 w))
unfolding pack
same_state e w len =
    ap (every_pair eqb (pack_settings e ++ pack_points e.points.places)) (sym (take-append-drop 4 w))
    ∙ pair_append eqb (pack_settings e) (pack_points e.points.places) (take 4 w) (drop 4 w) (length-settings e ∙ sym (length-take-le 4 w (omega arith)))
    ∙ ap (λ (t : Bool). t && every_pair eqb (pack_points e.points.places) (drop 4 w)) (pair_is (pack_settings e) (take 4 w))

answered : (b : Bool) (e : AutomationEnvelope) → read_as (if_test b e) ≡ cond b (gives e) (refuses 12)
answered true e = refl
answered false e = refl

-- of as many words as a state has, by what the reading of the places gives
module _ (w : List ℕ) (len : length w ≡ 1028) where
  abbrev settings_same : Bool
  settings_same = pointwise eqb (pack_settings (state_of w)) (take 4 w)

  abbrev places_same : Bool
  places_same = every_pair eqb (pack_points (points_of 256 (drop 4 w))) (drop 4 w)

  pub read_is : read_state w ≡ cond (valid_envelope (state_of w) && (settings_same && places_same)) (gives (state_of w)) (refuses 12)
  unfolding read_state unpacked state_of
  read_is =
      ap (λ (b : Bool). read_as (if_test (valid_envelope (state_of w) && b) (state_of w))) (same_state (state_of w) w len)
      ∙ answered _ (state_of w)

length-read : (w : List ℕ) → length (pack (state_of w)) ≡ 1028
unfolding state_of
length-read w = length-places (state_of w) (length-points_of 256 (drop 4 w))

pub read_other : (w : List ℕ) → (length w ≡ 1028 → ⊥) → read_state w ≡ refuses 12
unfolding read_state unpacked
read_other w h =
    ap (λ (b : Bool). read_as (if_test b (state_of w)))
    (ap (λ (b : Bool). valid_envelope (state_of w) && b) (pair_length eqb (pack (state_of w)) w (λ e. h (sym e ∙ length-read w))) ∙ and-false (valid_envelope (state_of w)))
