-- The texts that are printed: how long they are, and one put after another. Assumes nothing.
use Prim.Native.Nat.{ℕ, suc, ◌+◌, ◌*◌, ◌≤◌, ◌<◌}
use mathlib.Core.Path.{◌≡◌, ap, ◌∙◌}
use mathlib.Core.List.{List, [], ◌∷◌, ◌++◌, append-nil}
use native.Mathlib.Numerals.{add-one}
use native.Mathlib.Omega.{arith}
use lib.Ieee.{Float, binary32, to_bits}
use lib.ListN.{length, take, get_or, length-append}
use lib.Seq.{take-suc, length-take-le}
use Rattle.fields.specs.Text.{places_of, number_text, decimal_text}
use Rattle.fields.specs.Told.{Put, Fitted}
use Rattle.fields.proofs.Stores.{length-number, put_length, put_then, put_fits}
use Rattle.fields.proofs.Places.{places_le}
use Rattle.play.specs.Play.{sample_line, sample_lines, refusal_names, refusal_text}
use Rattle.play.proofs.OutputLaws.{lines_append}

-- ---- lengths

decimal_length : (e v : ℕ) → length (decimal_text e v) ≤ 11
decimal_length e v = omega (arith, length-number 10 (places_of 10 v) e v, places_le 10 v)

bits_length : (v : ℕ) → length (number_text 16 8 10 v) ≡ 9
bits_length v = length-number 16 8 10 v

pub line_length : (i : ℕ) (x : Float) → length (sample_line i x) ≤ 20
unfolding sample_line
line_length i x = omega (arith, length-append (decimal_text 32 i) (number_text 16 8 10 (to_bits binary32 x)), decimal_length 32 i, bits_length (to_bits binary32 x))

pub lines_length : (i : ℕ) (xs : List Float) → length (sample_lines i xs) ≤ 20 * length xs
unfolding sample_lines
lines_length i [] = omega arith
lines_length i (x ∷ xs) = omega (arith, length-append (sample_line i x) (sample_lines (suc i) xs), line_length i x, lines_length (suc i) xs)

pub refusal_length : (n k : ℕ) → length (refusal_text n k) ≤ 35
unfolding refusal_text
refusal_length n k =
    omega (arith, length-append refusal_names (decimal_text 32 n ++ decimal_text 10 k), length-append (decimal_text 32 n) (decimal_text 10 k), decimal_length 32 n, decimal_length 10 k)

-- ---- texts put

pub line_made : {l b c : List ℕ} {at n m : ℕ} (i : ℕ) (x : Float) → at + 20 ≤ length l → Fitted l at (decimal_text 32 i) b n → Fitted b n (number_text 16 8 10 (to_bits binary32 x)) c m
    → Put l at (sample_line i x) c m
unfolding sample_line
line_made i x h f g =
    let p = put_fits f (omega (arith, decimal_length 32 i)) in
    put_then p (put_fits g (omega (arith, p.next, put_length p, decimal_length 32 i, bits_length (to_bits binary32 x))))

pub refusal_made : {l b c d : List ℕ} {m n o : ℕ} (r k : ℕ) → 35 ≤ length l → Fitted l 0 refusal_names b m → Fitted b m (decimal_text 32 r) c n → Fitted c n (decimal_text 10 k) d o
    → Put l 0 (refusal_text r k) d o
unfolding refusal_text
refusal_made r k h f g e =
    let p = put_fits f (omega arith) in
    let q = put_fits g (omega (arith, p.next, put_length p, decimal_length 32 r)) in
    put_then p (put_then q (put_fits e (omega (arith, p.next, q.next, put_length p, put_length q, decimal_length 32 r, decimal_length 10 k))))

-- ---- the next line

module _ (first i : ℕ) (xs : List Float) (d : Float) (h : i < length xs) where
  lines_one : (k : ℕ) (x : Float) → sample_lines k (x ∷ []) ≡ sample_line k x
  unfolding sample_lines
  lines_one k x = append-nil (sample_line k x)

  taken : length (take i xs) ≡ i
  taken = length-take-le i xs (omega arith)

  lines_more : sample_lines first (take (i + 1) xs) ≡ sample_lines first (take i xs) ++ sample_line (first + i) (get_or xs i d)
  lines_more =
      ap (λ (n : ℕ). sample_lines first (take n xs)) (add-one i)
      ∙ ap (sample_lines first) (take-suc xs i d h)
      ∙ lines_append first (take i xs) (get_or xs i d ∷ [])
      ∙ ap (λ (n : ℕ). sample_lines first (take i xs) ++ sample_lines (first + n) (get_or xs i d ∷ [])) taken
      ∙ ap (λ (l : List ℕ). sample_lines first (take i xs) ++ l) (lines_one (first + i) (get_or xs i d))

  module _ {l b : List ℕ} {at : ℕ} (p : Put l 0 (sample_lines first (take i xs)) b at) where
    pub line_room : 20 * length xs ≤ length l → at + 20 ≤ length b
    line_room e = omega (arith, p.next, put_length p, lines_length first (take i xs), taken)

    pub line_put : {c : List ℕ} {m : ℕ} → Put b at (sample_line (first + i) (get_or xs i d)) c m → Put l 0 (sample_lines first (take (i + 1) xs)) c m
    line_put q = rw lines_more (put_then p q)
