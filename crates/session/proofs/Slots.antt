-- Laws of the slots: what a store leaves, and that D numbers in a row have D different slots. Assumes nothing.
use Prim.Native.Nat.{ℕ, suc, ◌+◌, ◌-◌, ◌*◌, ◌/◌, ◌%◌, ◌≤◌, ◌<◌}
use mathlib.Core.Path.{◌≡◌, refl, ap, sym, ◌∙◌}
use mathlib.Core.List.{List, ◌++◌, append_assoc}
use mathlib.Core.Bool.{Bool, true, false}
use mathlib.Core.Logic.{◌⊎◌, inl, inr, ⊎_elim}
use native.Mathlib.Nat.{div-add-mod', mul-le-mul_right, mod-lt, mod-eq_of_lt, mod_self, mod-add-mod, suc-mul}
use native.Mathlib.Omega.{arith}
use lib.ListN.{length, get_or, take, drop, length-append, length-drop, take-append-drop, get_or-append}
use lib.Seq.{take-append-le, drop-append-le, drop-append-add, drop-drop, take_at, drop_at, length-take-le, get_or-drop, get_or-take}
use lib.Dec.{ltb}
use borrow.Author.Tests.{lt-ltb, le-ltb, ne_eqb, ltb-true, ltb-false}
use Rattle.state.specs.State.{state_words}
use Rattle.session.specs.Session.{state_at, stored, slot_after, slot_before}

pub lt_or_le : (a b : ℕ) → (a < b) ⊎ (b ≤ a)
lt_or_le a b = go (ltb a b) refl
  where
    go : (t : Bool) → ltb a b ≡ t → (a < b) ⊎ (b ≤ a)
    go true h = inl (ltb-true a b h)
    go false h = inr (ltb-false a b h)

-- a state stored in slot p, which the memory has
module _ (m : List ℕ) (p : ℕ) (w : List ℕ) (words : length w ≡ state_words) (fits : p * state_words + state_words ≤ length m) where
  front : length (take (p * state_words) m) ≡ p * state_words
  front = length-take-le (p * state_words) m (omega arith)

  front₂ : length (take (p * state_words) m ++ w) ≡ p * state_words + state_words
  front₂ = simp length-append (omega (arith, front, words))

  pub length-stored : length (stored p w m) ≡ length m
  unfolding stored
  length-stored = simp (length-append, length-drop) (omega (arith, front, words))

  pub stored_same : state_at (stored p w m) p ≡ w
  unfolding stored state_at
  stored_same =
      ap (take state_words) (drop_at (take (p * state_words) m) (w ++ drop (p * state_words + state_words) m) (p * state_words) front)
      ∙ take_at w (drop (p * state_words + state_words) m) state_words words

  within : (A B : List ℕ) (q : ℕ) → q * state_words + state_words ≤ length A → take state_words (drop (q * state_words) (A ++ B)) ≡ take state_words (drop (q * state_words) A)
  within A B q h =
      ap (take state_words) (drop-append-le (q * state_words) A B (omega arith))
      ∙ take-append-le state_words (drop (q * state_words) A) B (simp length-drop (omega arith))

  below : (q : ℕ) → q < p → state_at (stored p w m) q ≡ state_at m q
  unfolding stored state_at
  below q h =
      within (take (p * state_words) m) (w ++ drop (p * state_words + state_words) m) q (omega (arith, front))
      ∙ sym (within (take (p * state_words) m) (drop (p * state_words) m) q (omega (arith, front)))
      ∙ ap (λ (l : List ℕ). take state_words (drop (q * state_words) l)) (take-append-drop (p * state_words) m)

  -- past the stored state the memory is as it was
  past : (i : ℕ) → drop (p * state_words + state_words + i) (stored p w m) ≡ drop (p * state_words + state_words + i) m
  unfolding stored
  past i =
      ap (drop (p * state_words + state_words + i)) (sym (append_assoc (take (p * state_words) m) w (drop (p * state_words + state_words) m)))
      ∙ ap (λ (k : ℕ). drop (k + i) ((take (p * state_words) m ++ w) ++ drop (p * state_words + state_words) m)) (sym front₂)
      ∙ drop-append-add (take (p * state_words) m ++ w) (drop (p * state_words + state_words) m) i
      ∙ drop-drop i (p * state_words + state_words) m

  above : (q : ℕ) → p < q → state_at (stored p w m) q ≡ state_at m q
  unfolding state_at
  above q h =
      let k : q * state_words ≡ p * state_words + state_words + (q * state_words - (p * state_words + state_words)) = omega arith in
      ap (λ (n : ℕ). take state_words (drop n (stored p w m))) k ∙ ap (take state_words) (past (q * state_words - (p * state_words + state_words)))
      ∙ ap (λ (n : ℕ). take state_words (drop n m)) (sym k)

  pub stored_other : (q : ℕ) → (q ≡ p → ⊥) → state_at (stored p w m) q ≡ state_at m q
  stored_other q h = ⊎_elim (λ l. below q l) (λ g. above q (omega arith)) (lt_or_le q p)

  -- a word of another slot, or of none, stays
  pub word_other : (i : ℕ) → (i / state_words ≡ p → ⊥) → get_or (stored p w m) i 0 ≡ get_or m i 0
  unfolding stored
  word_other i h = ⊎_elim low high (lt_or_le i (p * state_words))
    where
      low : i < p * state_words → get_or (stored p w m) i 0 ≡ get_or m i 0
      low l =
          get_or-append (take (p * state_words) m) (w ++ drop (p * state_words + state_words) m) 0 i (omega (arith, front)) ∙ get_or-take (p * state_words) m i 0 l

      high : p * state_words ≤ i → get_or (stored p w m) i 0 ≡ get_or m i 0
      high g =
          let k : i ≡ p * state_words + state_words + (i - (p * state_words + state_words)) + 0 = omega arith in
          ap (λ (n : ℕ). get_or (stored p w m) n 0) k
          ∙ sym (get_or-drop (p * state_words + state_words + (i - (p * state_words + state_words))) (stored p w m) 0 0)
          ∙ ap (λ (l : List ℕ). get_or l 0 0) (past (i - (p * state_words + state_words)))
          ∙ get_or-drop (p * state_words + state_words + (i - (p * state_words + state_words))) m 0 0
          ∙ ap (λ (n : ℕ). get_or m n 0) (sym k)

-- numbers less than D apart have different slots
slots_apart : (k j d : ℕ) → k < j → j < k + d → k % d ≡ j % d → ⊥
slots_apart k j d h g e =
    ⊎_elim
    (λ (l : k / d < j / d).
    omega (arith, div-add-mod' k d, div-add-mod' j d, mul-le-mul_right {m = suc (k / d)} {n = j / d} d l, suc-mul (k / d) d))
    (λ (l : j / d ≤ k / d). omega (arith, div-add-mod' k d, div-add-mod' j d, mul-le-mul_right {m = j / d} {n = k / d} d l))
    (lt_or_le (k / d) (j / d))

pub slots_differ : (k j d : ℕ) → (k ≡ j → ⊥) → j < k + d → k < j + d → k % d ≡ j % d → ⊥
slots_differ k j d n h g e =
    ⊎_elim (λ (l : k < j). slots_apart k j d l h e) (λ (l : j ≤ k). slots_apart j k d (omega arith) g (sym e)) (lt_or_le k j)

pub after_slot : (k d : ℕ) → 0 < d → slot_after d (k % d) ≡ (k + 1) % d
unfolding slot_after
after_slot k d h = ⊎_elim inside wrap (lt_or_le (k % d + 1) d)
  where
    inside : k % d + 1 < d → slot_after d (k % d) ≡ (k + 1) % d
    inside l = rw (lt-ltb (k % d + 1) d l) (sym (mod-eq_of_lt l) ∙ mod-add-mod k d 1)

    wrap : d ≤ k % d + 1 → slot_after d (k % d) ≡ (k + 1) % d
    wrap l =
        let e : k % d + 1 ≡ d = omega (arith, mod-lt k h) in
        rw (le-ltb (k % d + 1) d l) (sym (mod_self d) ∙ ap (λ (n : ℕ). n % d) (sym e) ∙ mod-add-mod k d 1)

before_after : (r d : ℕ) → r < d → slot_before d (slot_after d r) ≡ r
unfolding slot_after slot_before
before_after r d h = ⊎_elim inside wrap (lt_or_le (r + 1) d)
  where
    inside : r + 1 < d → slot_before d (slot_after d r) ≡ r
    inside l = rw (lt-ltb (r + 1) d l) (rw (ne_eqb (r + 1) 0 (omega arith)) (omega arith))

    wrap : d ≤ r + 1 → slot_before d (slot_after d r) ≡ r
    wrap l = rw (le-ltb (r + 1) d l) (omega arith)

pub before_slot : (k d : ℕ) → 0 < d → slot_before d ((k + 1) % d) ≡ k % d
before_slot k d h = ap (slot_before d) (sym (after_slot k d h)) ∙ before_after (k % d) d (mod-lt k h)
