-- The calls of commands are in range of their types, and each turn of the replay is one more call that ran; so the history theorem speaks of it. Assumes nothing.
use Rattle.std.proofs.Common.{◌≡◌, ℕ, ◌+◌, ◌<◌, min, true, List, [], ◌∷◌, ◌++◌, map, length, get_or, take, drop, set, Float, Result, refl, ap, sym, ◌∙◌, arith}
use Rattle.std.proofs.lemmas.List.{length-take, length-map, get_or-take, take_more_set, take_min, take-map, map_push, map_more, drop-set-lt, drop-drop}
use Rattle.std.specs.List.{enumerate_from}
use Rattle.std.proofs.lemmas.List.FromFn.{length-enumerate_from, get_or-enumerate_from}
use mir.Val.{Val}
use denote.Laws.{Is}
use denote.Enum.Declared.{row}
use Rattle.std.specs.Float.{binary32, binary64}
use Rattle.std.specs.Float.Ieee.{fits}
use Rattle.curve.specs.declared.CurveType.TheVariants.{Linear}
use Rattle.numbers.proofs.Tests.{and_both as both}
use Rattle.points.specs.Refusal.{Said, said}
use Rattle.points.specs.Points.{every}
use Rattle.points.specs.Point.{point_with}
use Rattle.points.specs.declared.refusal.Refusal.{Refusal}
use Rattle.points.proofs.Laws.{every_append, every_one}
use Rattle.envelope.specs.Envelope.{new}
use Rattle.envelope.specs.Typed.{typed, typed_point, typed_edit, typed_points_edit}
use Rattle.envelope.proofs.TypedLists.{linear_typed}
use Rattle.envelope.proofs.TypedLaws.{new_typed, edit_typed}
use Rattle.envelope.specs.declared.edit.Edit.TheVariants.{OfPoints}
use Rattle.envelope.specs.declared.edit.PointsEdit.TheVariants as of_points
use Rattle.session.specs.Session.{open_session}
use Rattle.session.specs.Calls.{Call, Obeys, Ran, done, call}
use Rattle.session.specs.declared.Session.{Session}
use Rattle.history.specs.After.{typed_call}
use Rattle.history.proofs.History.{history_new}
use Rattle.replay.specs.Replay.{other_from, ticket_from, call_from, replayed, AfterReplay}
use Rattle.replay.specs.declared.Command.{Command}
use Rattle.replay.specs.declared.Command.TheVariants.{Back, Forward, SetEnabled, ShiftPoints, Scale, AddPoint, Merge, Commit}
use Rattle.replay.specs.contracts.Command.{the_type}

-- ---- a command's numbers are in range of their types, so its call's are

module _ (x y : Float) (f : fits binary64 x ≡ true) (g : fits binary32 y ≡ true) where
  one_typed : typed_point (point_with x y Linear) ≡ true
  one_typed = rw (f, g) linear_typed

  other_typed : typed (other_from x y) ≡ true
  unfolding other_from typed_edit typed_points_edit
  other_typed = edit_typed (OfPoints (of_points.AddPoint (point_with x y Linear))) (new 0) (new_typed 0 refl) one_typed

pub command_typed : (c : Command) (vs : List Val) → Is (row the_type) c vs → typed_call (call_from c) ≡ true
unfolding typed_edit typed_points_edit ticket_from
command_typed Back vs is = refl
command_typed Forward vs is = refl
command_typed (SetEnabled on) vs is = refl
command_typed (ShiftPoints offset) vs is = is.1.1.1.1.0.1
command_typed (Scale factor) vs is = is.1.1.1.1.0.1
command_typed (AddPoint x y) vs is = one_typed x y is.1.1.1.1.0.1 is.1.1.1.1.1.0.1
command_typed (Merge x y) vs is = other_typed x y is.1.1.1.1.0.1 is.1.1.1.1.1.0.1
command_typed (Commit x y) vs is = let t = other_typed x y is.1.1.1.1.0.1 is.1.1.1.1.1.0.1 in both t t

-- ---- the replay's loop

ran_snoc : {s : Session} {m : List ℕ} {cs : List Call} {answers : List (Said (Unit {0}))} {s' : Session} {m' : List ℕ} (c : Call) (a : Result (Unit {0}) Refusal) (s'' : Session) (m'' : List ℕ)
    → Ran s m cs answers s' m' → Obeys s' m' c a s'' m'' → Ran s m (cs ++ (c ∷ [])) (answers ++ (said a ∷ [])) s'' m''
ran_snoc c a s'' m'' done ob = call a ob done
ran_snoc c a s'' m'' (call b o r) ob = call b o (ran_snoc c a s'' m'' r ob)

-- the next command comes with the number of those before it
pub numbered : {A : Type 0} (n : ℕ) (l : List A) (k : ℕ) (v : ℕ × A) → k < length (enumerate_from 0 (take n l)) → v ≡ get_or (enumerate_from 0 (take n l)) k v
    → (v.0 ≡ k) × (k < n) × (k < length l) × (v.1 ≡ get_or l k v.1)
numbered {A = A} n l k v h e =
    let long : k < min n (length l) = omega (arith, h, length-enumerate_from 0 (take n l), length-take n l) in
    let at = e ∙ get_or-enumerate_from 0 (take n l) k v (omega (arith, long, length-take n l)) in
    (omega (arith, ap (λ (w : ℕ × A). w.0) at), omega (arith, long), omega (arith, long), ap (λ (w : ℕ × A). w.1) at ∙ get_or-take n l k v.1 (omega (arith, long)))

-- i calls have run, and their answers stand in the first i places
pub record Replaying (target : ℕ) (m₀ : List ℕ) (commands : List Command) (answers₀ answers : List (Result (Unit {0}) Refusal)) (i : ℕ) (s : Session) (m : List ℕ) : Type 0 where
  pub ran : Ran (open_session target m₀) m₀ (map call_from (take i commands)) (map said (take i answers)) s m
  pub in_range : every typed_call (map call_from (take i commands)) ≡ true
  pub rest : drop i answers ≡ drop i answers₀

module _ (target : ℕ) (m₀ : List ℕ) (commands : List Command) (answers₀ : List (Result (Unit {0}) Refusal)) where
  pub begun : (s : Session) → s ≡ open_session target m₀ → Replaying target m₀ commands answers₀ answers₀ 0 s m₀
  begun s e = record { ran = rw e done; in_range = refl; rest = refl }

  module _ (answers : List (Result (Unit {0}) Refusal)) (i : ℕ) (s : Session) (m : List ℕ) (v : Replaying target m₀ commands answers₀ answers i s m) where
    -- one call more
    module _ (command : Command) (a : Result (Unit {0}) Refusal) (s' : Session) (m' : List ℕ) (is : command ≡ get_or commands i command) (hc : i < length commands)
        (ha : i < length answers) (ob : Obeys s m (call_from command) a s' m') (ty : typed_call (call_from command) ≡ true) where
      calls_more : map call_from (take (i + 1) commands) ≡ map call_from (take i commands) ++ (call_from command ∷ [])
      calls_more = map_more call_from commands i command hc ∙ ap (λ (c : Command). map call_from (take i commands) ++ (call_from c ∷ [])) (sym is)

      answers_more : map said (take (i + 1) (set answers i a)) ≡ map said (take i answers) ++ (said a ∷ [])
      answers_more = ap (map said) (take_more_set answers i a ha) ∙ map_push said (take i answers) a

      pub again : Replaying target m₀ commands answers₀ (set answers i a) (i + 1) s' m'
      again =
          record {
            ran = rw (calls_more, answers_more) (ran_snoc (call_from command) a s' m' v.ran ob);
            in_range = ap (every typed_call) calls_more ∙ every_append typed_call (map call_from (take i commands)) _ ∙ both v.in_range (every_one typed_call _ ∙ ty);
            rest = drop-set-lt (i + 1) answers i a (omega arith) ∙ sym (drop-drop 1 i answers) ∙ ap (drop 1) v.rest ∙ drop-drop 1 i answers₀;
          }

    module _ (f : target < 0x1_0000_0000) (n : i ≡ min (length answers₀) (length commands)) where
      long : length (replayed commands answers₀) ≡ i
      unfolding replayed
      long = simp (length-take, length-map) (sym n)

      all_calls : map call_from (take i commands) ≡ replayed commands answers₀
      unfolding replayed
      all_calls =
          ap (λ (k : ℕ). map call_from (take k commands)) n ∙ ap (map call_from) (take_min (length answers₀) commands)
          ∙ sym (take-map call_from (length answers₀) commands)

      all_ran : Ran (open_session target m₀) m₀ (replayed commands answers₀) (map said (take (length (replayed commands answers₀)) answers)) s m
      all_ran = rw (long, ← all_calls) v.ran

      pub ended : AfterReplay target m₀ (replayed commands answers₀) answers₀ answers s m
      ended =
          record {
            ran = all_ran;
            after = history_new target f m₀ (replayed commands answers₀) (ap (every typed_call) (sym all_calls) ∙ v.in_range) _ s m all_ran;
            rest = rw long v.rest;
          }
