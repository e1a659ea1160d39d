-- Decimal digits as far as they go. Assumes nothing.
use Prim.Native.Nat.{ℕ, ◌+◌, ◌-◌, ◌*◌, ◌≤◌, ◌<◌}
use mathlib.Core.Path.{◌≡◌, refl}
use mathlib.Core.Bool.{Bool, true, false, cond}
use mathlib.Core.List.{List, [], ◌∷◌, tail}
use native.Mathlib.Numerals.{add-one}
use native.Mathlib.Omega.{arith}
use borrow.Author.Tests.{lt-ltb, le-ltb, ltb-true}
use lib.ListN.{length, take, drop, get_or}
use lib.Seq.{take-length}
use lib.Dec.{ltb, eqb}
use Rattle.fields.specs.Form.{bad, got, then, ended, digit, decimals, next_digit, target_form}
use Rattle.fields.proofs.ReadDigits.{no_bad}
use Rattle.fields.proofs.Forms.{unthen, uncond, unended}

-- the next byte, and the bytes after it
pub decimals_more : (v d u : ℕ) (s : List ℕ) → 1 ≤ length s → d ≡ digit (get_or s 0 0) → d < 10 → u ≡ v * 10 + d → u < 0x1_0000_0000
    → decimals v s ≡ decimals u (take (length s - 1) (drop 1 s))
unfolding decimals
decimals_more v d u [] h e k q o = absurd (omega arith)
decimals_more v d u (b ∷ s) h e k q o =
    let t : ltb (digit b) 10 ≡ true = lt-ltb _ _ (rw e at k) in
    let n : u ≡ v * 10 + digit b = rw e at q in
    let f : ltb (v * 10 + digit b) 0x1_0000_0000 ≡ true = lt-ltb _ _ (omega (arith, n, o)) in
    let z : length s + 1 - 1 ≡ length s = omega arith in
    rw (t, f, n, ← add-one (length s), z, take-length)

pub decimals_stop : (v d : ℕ) (s : List ℕ) → d ≡ digit (get_or s 0 0) → 1 ≤ length s → 10 ≤ d → decimals v s ≡ got v s
unfolding decimals
decimals_stop v d [] e h k = absurd (omega arith)
decimals_stop v d (b ∷ s) e h k = let t : ltb (digit b) 10 ≡ false = le-ltb _ _ (rw e at k) in rw t

pub decimals_over : (v d : ℕ) (s : List ℕ) → 1 ≤ length s → d ≡ digit (get_or s 0 0) → d < 10 → 0x1_0000_0000 ≤ v * 10 + d → decimals v s ≡ bad
unfolding decimals
decimals_over v d [] h e k o = absurd (omega arith)
decimals_over v d (b ∷ s) h e k o =
    let t : ltb (digit b) 10 ≡ true = lt-ltb _ _ (rw e at k) in
    let u : ltb (v * 10 + digit b) 0x1_0000_0000 ≡ false = le-ltb _ _ (rw e at o) in
    rw (t, u)

pub decimals_end : (v : ℕ) (s : List ℕ) → length s < 1 → decimals v s ≡ got v s
unfolding decimals
decimals_end v [] h = refl
decimals_end v (b ∷ s) h = absurd (omega arith)

-- those of the next byte that the check applies
pub ruleset next_laws = (decimals_stop, decimals_over, decimals_end)

pub decimals_lt : (v : ℕ) (l : List ℕ) (u : ℕ) (rest : List ℕ) → v < 0x1_0000_0000 → decimals v l ≡ got u rest → u < 0x1_0000_0000
unfolding decimals
decimals_lt v [] u rest h e = let q : v ≡ u = cc in omega arith
decimals_lt v (b ∷ l) u rest h e = on (ltb (digit b) 10) (ltb (v * 10 + digit b) 0x1_0000_0000) refl e (λ p q. decimals_lt (v * 10 + digit b) l u rest p q)
  where
    on : (t x : Bool) → ltb (v * 10 + digit b) 0x1_0000_0000 ≡ x → cond t (cond x (decimals (v * 10 + digit b) l) bad) (got v (b ∷ l)) ≡ got u rest
        → (v * 10 + digit b < 0x1_0000_0000 → decimals (v * 10 + digit b) l ≡ got u rest → u < 0x1_0000_0000) → u < 0x1_0000_0000
    on true true p q f = f (ltb-true _ _ p) q
    on true false p q f = no_bad q
    on false x p q f = let k : v ≡ u = cc in omega arith

pub target_lt : (l : List ℕ) (v : ℕ) (rest : List ℕ) → target_form l ≡ got v rest → v < 0x1_0000_0000
unfolding target_form
target_lt l v rest e = on (eqb (next_digit l) 0) e
  where
    on : (t : Bool) → cond t (ended 32 0 (tail l)) (cond (ltb (next_digit l) 10) (then (decimals 0 l) (λ v rest. ended 32 v rest)) bad) ≡ got v rest → v < 0x1_0000_0000
    on true q = let z = unended 32 0 (tail l) q in omega (arith, z.0)
    on false q =
        uncond (ltb (next_digit l) 10) q
        (λ s r. unthen (decimals 0 l) (λ v rest. ended 32 v rest) r (λ u m a b. let z = unended 32 u m b in omega (arith, z.0, decimals_lt 0 l u m (omega arith) a)))
