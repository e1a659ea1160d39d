-- Every list of calls has its run, so the history theorem speaks of all of them. Assumes nothing.
use Rattle.std.specs.Prelude.{Err, None, Ok, Option, Result, Some}
use Prim.Native.Nat.{ℕ}
use mathlib.Core.Path.{◌≡◌, refl, ap}
use mathlib.Core.Bool.{◌&&◌}
use mathlib.Core.List.{List, [], ◌∷◌}
use Rattle.numbers.proofs.Tests.{either}
use Rattle.points.specs.Checks.{first_failing}
use Rattle.points.proofs.CheckLaws.{gate_either}
use Rattle.points.specs.Refusal.{Said, refuses, gives, said, number}
use Rattle.points.specs.Points.{list_of}
use Rattle.points.specs.declared.refusal.Refusal.TheVariants.{StoredState}
use Rattle.envelope.specs.Envelope.{valid_envelope}
use Rattle.envelope.proofs.EditLaws.{outcome_either}
use Rattle.envelope.specs.Edit.{EditTold, proposal, edit_of, join_proposal, join_of}
use Rattle.envelope.specs.declared.AutomationEnvelope.{AutomationEnvelope}
use Rattle.envelope.specs.declared.edit.Join.{Join}
use Rattle.envelope.specs.declared.edit.Join.TheVariants.{Merge}
use Rattle.envelope.specs.declared.edit.Edit.{Edit}
use Rattle.equal.specs.Equal.{bit_equal}
use Rattle.state.specs.State.{unpacked}
use Rattle.session.specs.Session.{state_at, Called, declined, settled, exchanged}
use Rattle.session.specs.Calls.{Entry, alone, joined, committed, made_by, Call, edit, back, forward, in_turn, tests_of, own_of, call_of, Obeys, Ran, done, call}
use Rattle.session.specs.declared.Session.{Session}
use Rattle.points.specs.declared.refusal.Refusal.{Refusal}

-- what an edit says is the saying of an answer
pub record Answered (x : Said (Unit {0})) : Type 0 where
  pub answer : Result (Unit {0}) Refusal
  pub says : said answer ≡ x

by : (a : Result (Unit {0}) Refusal) → Answered (said a)
by a = record { answer = a; says = refl }

-- of an edit, whatever it makes
abbrev EditAnswered : EditTold → Type 0
EditAnswered t = Answered t.said

-- of a call, whatever it leaves
abbrev CallAnswered : Called → Type 0
CallAnswered x = Answered x.said

edit_answered : (d : Edit) (e : AutomationEnvelope) → Answered (edit_of d e).said
unfolding edit_of
edit_answered d e = outcome_either e (valid_envelope e) (proposal d (list_of e.points)) _ EditAnswered (λ r. by (Err r)) (λ p. by (Ok tt))

join_answered : (j : Join) (e o : AutomationEnvelope) → Answered (join_of j e o).said
unfolding join_of
join_answered j e o = outcome_either e (valid_envelope e && valid_envelope o) (join_proposal j e o) _ EditAnswered (λ r. by (Err r)) (λ p. by (Ok tt))

made_answered : (x : Entry) (e : AutomationEnvelope) → Answered (made_by x e).said
made_answered (alone d) e = edit_answered d e
made_answered (joined j o) e = join_answered j e o
made_answered (committed t) e = join_answered (Merge t.offset) e t.second

-- ---- and so is what a call says

module _ (s : Session) (m : List ℕ) where
  settled_answered : (x : Said (Unit {0})) (e : AutomationEnvelope) → Answered x → Answered (settled s m x e).said
  settled_answered (refuses n) e p = p
  settled_answered (gives u) e p = either CallAnswered (bit_equal s.envelope e) (λ same. by (Ok tt)) (by (Ok tt))

  exchanged_answered : (k : ℕ) (to : AutomationEnvelope → Session) (u : Option AutomationEnvelope) → Answered (exchanged s m k to u).said
  exchanged_answered k to None = by (Err StoredState)
  exchanged_answered k to (Some e) = by (Ok tt)

  own_answered : (c : Call) → Answered (own_of c s m).said
  own_answered (edit x) = settled_answered (made_by x s.envelope).said _ (made_answered x s.envelope)
  own_answered back = exchanged_answered _ _ (unpacked (state_at m _))
  own_answered forward = exchanged_answered _ _ (unpacked (state_at m _))

  call_answered : (c : Call) → Answered (call_of c s m).said
  unfolding call_of
  call_answered c =
      gate_either CallAnswered (first_failing (in_turn (tests_of c s m))) (λ r. declined (number r) s m) (own_of c s m) (λ r. by (Err r))
      (λ e. own_answered c)

  -- what a call leaves obeys
  obeys : (c : Call) → Obeys s m c (call_answered c).answer (call_of c s m).session (call_of c s m).memory
  obeys c = ap (λ (x : Said (Unit {0})). record { said = x; session = (call_of c s m).session; memory = (call_of c s m).memory }) (call_answered c).says

-- a run of a list
pub record RunOf (s : Session) (m : List ℕ) (cs : List Call) : Type 0 where
  pub answers : List (Said (Unit {0}))
  pub session : Session
  pub memory : List ℕ
  pub ran : Ran s m cs answers session memory

-- every list has one
pub every_list_runs : (s : Session) (m : List ℕ) (cs : List Call) → RunOf s m cs
every_list_runs s m [] = record { answers = []; session = s; memory = m; ran = done }
every_list_runs s m (c ∷ cs) =
    let rest = every_list_runs (call_of c s m).session (call_of c s m).memory cs in
    record {
      answers = said (call_answered s m c).answer ∷ rest.answers;
      session = rest.session;
      memory = rest.memory;
      ran = call (call_answered s m c).answer (obeys s m c) rest.ran;
    }
