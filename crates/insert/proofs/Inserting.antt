-- Laws of a point that goes to its place by time. Assumes nothing.
use Prim.Native.Nat.{ℕ, zero, suc, ◌+◌, ◌-◌, ◌≤◌, ◌<◌, zero-le, suc-le-suc}
use mathlib.Core.Path.{◌≡◌, refl, sym, ap, ◌∙◌}
use mathlib.Core.Bool.{Bool, true, false, cond}
use mathlib.Core.List.{List, [], ◌∷◌, ◌++◌, foldl-append, append-nil, append_assoc}
use native.Mathlib.Nat.{le_of_suc-le-suc, not-suc-le-zero}
use native.Mathlib.Numerals.{add-one}
use native.Mathlib.Omega.{arith}
use lib.Dec.{ltb, leb, eqb}
use lib.ListN.{length, take, drop, get_or, set, replicate, length-set, take-append-drop}
use lib.Seq.{set-append_left, take-append_seam}
use borrow.Author.Tests.{lt-ltb, le-ltb, lt-leb, leb-false, eq-eqb, ne_eqb}
use Rattle.std.specs.List.{insert, copy_within}
use Rattle.std.specs.List.Sorted.{IsSearchInRange, IsBinarySearchResult}
use Rattle.std.specs.Ordering.{nat_cmp, is_lt}
use Rattle.std.specs.declared.cmp.Ordering.TheVariants.{Less, Equal, Greater}
use Rattle.std.specs.Cmp.{nat_cmp_total}
use Rattle.std.proofs.lemmas.Bool.Decides.{nat_tests}
use Rattle.std.proofs.lemmas.List.Edits.{length-insert}
use Rattle.std.proofs.lemmas.List.Sorted.{searchable_from_sorted}
use Rattle.std.specs.Prelude.{Err, Ok, Result}
use Rattle.numbers.proofs.Tests.{and_left, and_right, and_both}
use Rattle.points.specs.Point.{any_point, unused}
use Rattle.points.specs.Points.{every, rising, rising_by, time_key, list_of, holding}
use Rattle.points.specs.Fitted.{room_for, fitted}
use Rattle.points.proofs.Laws.{fold_more, rising_front}
use Rattle.points.proofs.SearchLaws.{keys-rise}
use Rattle.points.proofs.ValidLaws.{list_of_holding}
use Rattle.points.specs.declared.refusal.Refusal.{Refusal}
use Rattle.points.specs.declared.refusal.Refusal.TheVariants.{TooManyPoints}
use Rattle.points.specs.declared.AutomationPoint.{AutomationPoint}
use Rattle.points.specs.declared.Points.{Points}
use Rattle.insert.specs.Insert.{insert_point, insert_all}
use Rattle.insert.specs.Inserted.{Sorted, GoesTo}

-- what a comparison tells
equal_is : (m n : ℕ) → nat_cmp m n ≡ Equal → m ≡ n
equal_is m n h = grind (arith, nat_tests)

less_is : (m n : ℕ) → nat_cmp m n ≡ Less → m < n
less_is m n h = grind (arith, nat_tests)

greater_is : (m n : ℕ) → nat_cmp m n ≡ Greater → n < m
greater_is m n h = grind (arith, nat_tests)

not_less : (m n : ℕ) → n < m → is_lt (nat_cmp m n) ≡ false
not_less m n h = grind (arith, nat_tests)

pub rising_tail : (x : AutomationPoint) (l : List AutomationPoint) → rising (x ∷ l) ≡ true → rising l ≡ true
unfolding rising_by
rising_tail x [] r = refl
rising_tail x (y ∷ l) r = and_right (ltb (time_key x) (time_key y)) (rising (y ∷ l)) r

module _ (p : AutomationPoint) where
  abbrev key_at : List AutomationPoint → ℕ → ℕ
  key_at l i = time_key (get_or l i any_point)

  -- instead of the one at the very time
  pub insert_found : (l : List AutomationPoint) (i : ℕ) → rising l ≡ true → i < length l → key_at l i ≡ time_key p → insert_point p l ≡ set l i p
  unfolding insert_point
  insert_found [] i r h e = absurd (not-suc-le-zero h)
  insert_found (q ∷ l) zero r h e = rw (le-ltb (time_key q) (time_key p) (omega (arith, e)), eq-eqb (time_key q) (time_key p) e)
  insert_found (q ∷ l) (suc i) r h e =
      rw (lt-ltb (time_key q) (time_key p) (omega (arith, e, keys-rise time_key any_point (q ∷ l) r zero (suc i) (omega arith) h)))
      (ap (λ (m : List AutomationPoint). q ∷ m) (insert_found l i (rising_tail q l r) (le_of_suc-le-suc h) e))

  -- or before the later ones
  pub insert_absent : (l : List AutomationPoint) (i : ℕ) → i ≤ length l → ((j : ℕ) → j < i → key_at l j < time_key p) → (i < length l → time_key p < key_at l i) → insert_point p l ≡ insert l i p
  unfolding insert_point
  insert_absent [] zero h b a = refl
  insert_absent [] (suc i) h b a = absurd (not-suc-le-zero h)
  insert_absent (q ∷ l) zero h b a =
      let later : time_key p < time_key q = a (omega arith) in
      rw (le-ltb (time_key q) (time_key p) (omega arith), ne_eqb (time_key q) (time_key p) (λ e. absurd (omega arith)))
  insert_absent (q ∷ l) (suc i) h b a =
      rw (lt-ltb (time_key q) (time_key p) (b zero (omega arith)))
      (ap (λ (m : List AutomationPoint). q ∷ m) (insert_absent l i (le_of_suc-le-suc h) (λ j s. b (suc j) (suc-le-suc s)) (λ s. a (suc-le-suc s))))

  -- so where a search by time ends
  pub goes_to : (l : List AutomationPoint) (r : Result ℕ ℕ) (k : ℕ) → k ≡ time_key p → rising l ≡ true → IsSearchInRange r (length l)
      → IsBinarySearchResult (λ q. nat_cmp (time_key q) k) l r → GoesTo p l r
  goes_to l (Ok i) k e r b s = (b, insert_found l i r b (equal_is _ _ (s any_point) ∙ e))
  goes_to l (Err i) k e r b s =
      let sides = s (searchable_from_sorted nat_cmp_total time_key l k (λ j d a h. not_less _ _ (keys-rise time_key d l r j (j + 1) (omega arith) h))) in (
        b,
        insert_absent l i b (λ j h. omega (arith, e, less_is (key_at l j) k (sides.0 j any_point (omega arith) h)))
            (λ h. omega (arith, e, greater_is (key_at l i) k (sides.1 i any_point (omega arith) h))),
      )

  -- no point goes but the one at the very time
  pub insert_long : (l : List AutomationPoint) → length l ≤ length (insert_point p l)
  unfolding insert_point
  insert_long [] = zero-le
  insert_long (q ∷ l) = grind (arith, insert_long l)

  pub insert_few : (l : List AutomationPoint) → length (insert_point p l) ≤ suc (length l)
  unfolding insert_point
  insert_few [] = omega arith
  insert_few (q ∷ l) = grind (arith, insert_few l)

  -- what holds of each, and of the point, holds of each then
  pub every_insert : (t : AutomationPoint → Bool) (l : List AutomationPoint) → every t l ≡ true → t p ≡ true → every t (insert_point p l) ≡ true
  unfolding insert_point
  every_insert t [] h z = and_both z refl
  every_insert t (q ∷ l) h z = grind (arith, every_insert t l)

  -- the times still rise
  later : (a b : AutomationPoint) (l m : List AutomationPoint) (x y : Bool) → ltb (time_key b) (time_key p) ≡ x → eqb (time_key b) (time_key p) ≡ y → rising (a ∷ (b ∷ l)) ≡ true
      → ltb (time_key a) (time_key p) ≡ true → (x ≡ true → rising (b ∷ m) ≡ true) → rising (a ∷ cond x (b ∷ m) (cond y (p ∷ l) (p ∷ (b ∷ l)))) ≡ true
  unfolding rising_by
  later a b l m true y e f r g h = grind arith
  later a b [] m false true e f r g h = grind arith
  later a b (c ∷ l) m false true e f r g h = grind arith
  later a b l m false false e f r g h = grind arith

  after : (a : AutomationPoint) (l : List AutomationPoint) → rising (a ∷ l) ≡ true → ltb (time_key a) (time_key p) ≡ true → rising (a ∷ insert_point p l) ≡ true
  unfolding insert_point rising_by
  after a [] r g = and_both g refl
  after a (b ∷ l) r g = later a b l (insert_point p l) _ _ refl refl r g (λ e. after b l (and_right (ltb (time_key a) (time_key b)) (rising (b ∷ l)) r) e)

  first : (b : AutomationPoint) (l m : List AutomationPoint) (x y : Bool) → ltb (time_key b) (time_key p) ≡ x → eqb (time_key b) (time_key p) ≡ y → rising (b ∷ l) ≡ true
      → (x ≡ true → rising (b ∷ m) ≡ true) → rising (cond x (b ∷ m) (cond y (p ∷ l) (p ∷ (b ∷ l)))) ≡ true
  unfolding rising_by
  first b l m true y e f r h = h refl
  first b [] m false true e f r h = refl
  first b (c ∷ l) m false true e f r h = grind arith
  first b l m false false e f r h = grind arith

  pub rising_insert : (l : List AutomationPoint) → rising l ≡ true → rising (insert_point p l) ≡ true
  unfolding insert_point rising_by
  rising_insert [] r = refl
  rising_insert (b ∷ l) r = first b l (insert_point p l) _ _ refl refl r (after b l r)

-- ---- the same of each in turn

pub all_long : (l new : List AutomationPoint) → length l ≤ length (insert_all l new)
all_long l [] = omega arith
all_long l (p ∷ new) = omega (arith, insert_long p l, all_long (insert_point p l) new)

pub all_few : (l new : List AutomationPoint) → length (insert_all l new) ≤ length l + length new
all_few l [] = omega arith
all_few l (p ∷ new) = omega (arith, insert_few p l, all_few (insert_point p l) new)

pub every_all : (t : AutomationPoint → Bool) (l new : List AutomationPoint) → every t l ≡ true → every t new ≡ true → every t (insert_all l new) ≡ true
every_all t l [] h n = h
every_all t l (p ∷ new) h n = every_all t (insert_point p l) new (every_insert p t l h (and_left (t p) (every t new) n)) (and_right (t p) (every t new) n)

pub rising_all : (l new : List AutomationPoint) → rising l ≡ true → rising (insert_all l new) ≡ true
rising_all l [] r = r
rising_all l (p ∷ new) r = rising_all (insert_point p l) new (rising_insert p l r)

-- ---- points whose times rise go behind each other

pub insert_last : (l : List AutomationPoint) (p : AutomationPoint) → rising (l ++ (p ∷ [])) ≡ true → insert_point p l ≡ l ++ (p ∷ [])
unfolding insert_point rising_by
insert_last [] p r = refl
insert_last (x ∷ []) p r = grind arith
insert_last (x ∷ (y ∷ l)) p r = grind (arith, insert_last (y ∷ l) p)

all_last : (l m : List AutomationPoint) → rising (l ++ m) ≡ true → insert_all l m ≡ l ++ m
all_last l [] r = sym (append-nil l)
all_last l (p ∷ m) r =
    let s : rising ((l ++ (p ∷ [])) ++ m) ≡ true = ap rising (append_assoc l (p ∷ []) m) ∙ r in
    rw (insert_last l p (rising_front time_key (l ++ (p ∷ [])) m s)) (all_last (l ++ (p ∷ [])) m s ∙ append_assoc l (p ∷ []) m)

pub rising_inserts : (l : List AutomationPoint) → rising l ≡ true → insert_all [] l ≡ l
rising_inserts l r = all_last [] l r

-- ---- points in their places

module _ {A : Type 0} (p u : A) (r : List A) where
  past : (l : List A) → drop (suc (length l)) (l ++ (u ∷ r)) ≡ r
  past [] = refl
  past (x ∷ l) = past l

  -- the elements from i on each a place up, and p at i
  up : (i m : ℕ) (l : List A) → i + m ≡ length l
      → set (take (suc i) (l ++ (u ∷ r)) ++ take m (drop i (l ++ (u ∷ r))) ++ drop (suc (length l)) (l ++ (u ∷ r))) i p ≡ insert l i p ++ r
  up zero m [] h = let z : m ≡ 0 = omega arith in rw z
  up zero m (x ∷ l) h = let n : m ≡ suc (length l) = omega arith in rw (n, take-append_seam l (u ∷ r), past l)
  up (suc i) m [] h = absurd (omega arith)
  up (suc i) m (x ∷ l) h = ap (λ (k : List A). x ∷ k) (up i m l (omega arith))

  opened : (i : ℕ) (l : List A) → i ≤ length l → set (copy_within (l ++ (u ∷ r)) i (length l) (i + 1)) i p ≡ insert l i p ++ r
  opened i l h =
      let n : suc i + (length l - i) ≡ suc (length l) = omega arith in
      rw (add-one, n) (up i (length l - i) l (omega arith))

module _ (ps : Points) (p : AutomationPoint) (i : ℕ) (s : Sorted ps) where
  abbrev l : List AutomationPoint
  l = list_of ps

  abbrev rest : List AutomationPoint
  rest = replicate (256 - length l) unused

  -- instead of the one at i
  pub put_there : i < length l → ◌≡◌ {A = Points} (record { count = ps.count; places = set ps.places i p }) (holding (set l i p))
  put_there h =
      ap {B = Points} (λ (x : Points). record { count = x.count; places = set x.places i p }) (sym s.holds)
      ∙ (rw (set-append_left l rest i p h, length-set l i p))

  -- before it
  pub make_way : (moved : List AutomationPoint) → i ≤ length l → (ps.count ≡ 256 → ⊥) → moved ≡ copy_within ps.places i ps.count (i + 1)
      → ◌≡◌ {A = Points} (record { count = ps.count + 1; places = set moved i p }) (holding (insert l i p))
  make_way moved h full e =
      ap {B = Points} (λ (x : List AutomationPoint). record { count = ps.count + 1; places = set x i p }) e
      ∙ ap {B = Points} (λ (x : Points). record { count = x.count + 1; places = set (copy_within x.places i x.count (i + 1)) i p }) (sym s.holds)
      ∙ (let c : length l ≡ ps.count = ap (λ (x : Points). x.count) s.holds in
      let n : 256 - length l ≡ suc (255 - length l) = omega (arith, s.few) in
      let m : 256 - length (insert l i p) ≡ 255 - length l = omega (arith, length-insert l i p h) in
      rw (n, opened p unused (replicate (255 - length l) unused) i l h, ← length-insert l i p h, m))

pub sorted_held : (ps : Points) (m : List AutomationPoint) → ps ≡ holding m → length m ≤ 256 → rising m ≡ true → Sorted ps
sorted_held ps m e h r =
    let same : list_of ps ≡ m = ap list_of e ∙ list_of_holding m in
    record { few = omega (arith, ap (λ (x : Points). x.count) e); holds = ap holding same ∙ sym e; rises = ap rising same ∙ r }

-- ---- the loop over the new points

-- too many after some of them are too many after all
too_many : (m new : List AutomationPoint) (i : ℕ) (d : AutomationPoint) → i < length new → 256 < length (insert_point (get_or new i d) (insert_all m (take i new)))
    → 256 < length (insert_all m new)
too_many m new i d h many =
    let some = fold_more (λ made p. insert_point p made) m new i d h in
    let all = ap (insert_all m) (sym (take-append-drop (i + 1) new)) ∙ foldl-append (λ made p. insert_point p made) m (take (i + 1) new) (drop (i + 1) new) in
    omega (arith, ap length some, ap length all, all_long (insert_all m (take (i + 1) new)) (drop (i + 1) new))

-- so where there is no room for one of them there is none for all
pub no_room : (m new : List AutomationPoint) (i : ℕ) (d : AutomationPoint) (made : Points) (why : Refusal) → i < length new → made ≡ holding (insert_all m (take i new))
    → Err why ≡ room_for (insert_point (get_or new i d) (list_of made)) → Err why ≡ fitted (insert_all m new)
no_room m new i d made why h e r =
    let same : list_of made ≡ insert_all m (take i new) = ap list_of e ∙ list_of_holding (insert_all m (take i new)) in
    go (leb (length (insert_point (get_or new i d) (insert_all m (take i new)))) 256) refl (rw same at r)
  where
    go : (b : Bool) → leb (length (insert_point (get_or new i d) (insert_all m (take i new)))) 256 ≡ b → Err why ≡ cond b (Ok (tt {0})) (Err TooManyPoints) → Err why ≡ fitted (insert_all m new)
    go true n r = cc
    go false n r = rw (lt-leb (length (insert_all m new)) 256 (too_many m new i d h (leb-false _ _ n))) (cc)
