-- Runs of stores, and how long the texts are. Assumes nothing.
use Rattle.std.specs.Prelude.{None, Option, Some}
use Prim.Native.Nat.{ℕ, zero, suc, ◌+◌, ◌-◌, ◌/◌, ◌%◌, ◌≤◌, ◌<◌}
use mathlib.Core.Path.{◌≡◌, refl, sym, ap, ◌∙◌}
use mathlib.Core.List.{List, [], ◌∷◌, ◌++◌, append_assoc, append-nil}
use native.Mathlib.Nat.{add-zero, zero-add}
use native.Mathlib.Numerals.{add-one}
use native.Mathlib.Omega.{arith}
use borrow.Author.Tests.{le-leb, lt-leb}
use lib.ListN.{length, set, take, drop, length-append, length-take, length-drop}
use Rattle.std.proofs.lemmas.List.{drop-set}
use lib.Seq.{drop-drop, drop-length, sets, sets-eq, length-sets}
use Rattle.fields.specs.Text.{digit_byte, digits_of, number_text, optional_text}
use Rattle.fields.specs.Told.{Put, Fitted}
use borrow.Rule.Slice.PartMut.{put_mid}

-- ---- one text after another

-- one run after another
pub sets_append : (l : List ℕ) (i : ℕ) (us vs : List ℕ) → sets l i (us ++ vs) ≡ sets (sets l i us) (i + length us) vs
sets_append l i [] vs = ap (λ (k : ℕ). sets l k vs) (sym (add-zero i))
sets_append l i (a ∷ us) vs =
    let k : suc i + length us ≡ i + suc (length us) = omega arith in
    sets_append (set l i a) (suc i) us vs ∙ ap (λ (n : ℕ). sets (sets (set l i a) (suc i) us) n vs) k

-- a text of two parts has place for the first
pub front : (at : ℕ) (l u v : List ℕ) → at + length (u ++ v) ≤ length l → at + length u ≤ length l
front at l u v h = omega (arith, length-append u v)

module _ {l u b : List ℕ} {at n : ℕ} (p : Put l at u b n) where
  -- and for the second after it
  pub back : (v : List ℕ) → at + length (u ++ v) ≤ length l → n + length v ≤ length b
  back v h = rw p.bytes (omega (arith, p.next, length-append u v, length-sets l at u))

  pub put_length : length b ≡ length l
  put_length = ap length p.bytes ∙ length-sets l at u

  pub put_then : {v c : List ℕ} {m : ℕ} → Put b n v c m → Put l at (u ++ v) c m
  put_then {v} q = record {
    next = omega (arith, p.next, q.next, length-append u v);
    bytes = q.bytes ∙ rw (p.bytes, p.next) (sym (sets_append l at u v));
  }

-- put from the start: the text, and the places after it
pub put_all : (l w m : List ℕ) (n : ℕ) → Put l 0 w m n → length w ≤ length l → m ≡ w ++ drop (length w) l
put_all l w m n p h = p.bytes ∙ sets-eq w l 0 (omega arith) ∙ ap (λ (k : ℕ). w ++ drop k l) (zero-add (length w))

-- ---- a text that is put if it fits

module _ {l w : List ℕ} {at : ℕ} where
  pub put_fits : {m : List ℕ} {n : ℕ} → Fitted l at w m n → at + length w ≤ length l → Put l at w m n
  put_fits f h = let e = le-leb (at + length w) (length l) h in record { next = f.next ∙ rw e; bytes = f.bytes ∙ rw e }

  pub fitted : {m : List ℕ} {n : ℕ} → Put l at w m n → at + length w ≤ length l → Fitted l at w m n
  fitted p h = let e = le-leb (at + length w) (length l) h in record { next = rw e p.next; bytes = rw e p.bytes }

pub not_fits : (l : List ℕ) (at : ℕ) (w : List ℕ) → length l < at + length w → Fitted l at w l at
not_fits l at w h = let e = lt-leb (at + length w) (length l) h in record { next = rw e; bytes = rw e }

-- one that fits, and what is put after it
module _ {l u b : List ℕ} {at n : ℕ} (f : Fitted l at u b n) (v : List ℕ) (h : at + length (u ++ v) ≤ length l) where
  first : Put l at u b n
  first = put_fits f (front at l u v h)

  pub room_after : n + length v ≤ length b
  room_after = back first v h

  pub fit_then : {c : List ℕ} {m : ℕ} → Put b n v c m → Put l at (u ++ v) c m
  fit_then q = put_then first q

-- ---- a number

pub length_digits : (base w v : ℕ) → length (digits_of base w v) ≡ w
unfolding digits_of
length_digits base zero v = refl
length_digits base (suc w) v = length-append (digits_of base w (v / base)) (digit_byte (v % base) ∷ []) ∙ omega (arith, length_digits base w (v / base))

pub length-number : (base w e v : ℕ) → length (number_text base w e v) ≡ w + 1
length-number base w e v = length-append (digits_of base w v) (e ∷ []) ∙ ap (λ (n : ℕ). n + 1) (length_digits base w v)

-- before the first digit is put, after one more, and after the last
pub digits_start : (base v : ℕ) (l : List ℕ) → digits_of base (length l) v ++ drop (length l) l ≡ digits_of base (length l) v
digits_start base v l = rw drop-length (append-nil (digits_of base (length l) v))

pub digits_more : (base k left : ℕ) (l : List ℕ) → k < length l
    → digits_of base k (left / base) ++ drop k (set l k (digit_byte (left % base))) ≡ digits_of base (k + 1) left ++ drop (k + 1) l
unfolding digits_of
digits_more base k left l h =
    rw (drop-set l k (digit_byte (left % base)) h, add-one k)
    (sym (append_assoc (digits_of base k (left / base)) (digit_byte (left % base) ∷ []) (drop (suc k) l)))

pub digits_end : (base k left : ℕ) (l : List ℕ) → k ≤ 0 → digits_of base k left ++ drop k l ≡ l
unfolding digits_of
digits_end base zero left l h = refl
digits_end base (suc k) left l h = absurd (omega arith)

-- ---- a part of the bytes, written anew

part_put : (l w : List ℕ) (at e : ℕ) → e ≡ at + length w → e ≤ length l → put_mid at (e - at) l w ≡ sets l at w
part_put l w at e p h =
    let k : e - at ≡ length w = omega arith in
    let r : at + length w ≤ length l = omega arith in
    rw (k, sets-eq w l at r, drop-drop (length w) at l) (sym (append_assoc (take at l) w (drop (at + length w) l)))

pub text_put : (l w m : List ℕ) (at e : ℕ) → e ≡ at + length w → e ≤ length l → m ≡ w → Fitted l at w (put_mid at (e - at) l m) e
text_put l w m at e p h q =
    let t = le-leb (at + length w) (length l) (omega arith) in
    record { next = rw t p; bytes = rw (t, q) (part_put l w at e p h) }

pub number_put : (l m : List ℕ) (at base w e v last : ℕ) → last ≡ at + w → last < length l → m ≡ digits_of base (length (take (last - at) (drop at l))) v
    → Fitted l at (number_text base w e v) (set (put_mid at (last - at) l m) last e) (last + 1)
number_put l m at base w e v last p h q =
    let k : length (take (last - at) (drop at l)) ≡ w = simp (length-take, length-drop) (omega arith) in
    let d : m ≡ digits_of base w v = q ∙ ap (λ (n : ℕ). digits_of base n v) k in
    let n : length m ≡ w = ap length d ∙ length_digits base w v in
    let r : put_mid at (last - at) l m ≡ sets l at m = part_put l m at last (omega arith) (omega arith) in
    let t = le-leb (at + length (number_text base w e v)) (length l) (omega (arith, length-number base w e v)) in
    let z : at + length (digits_of base w v) ≡ last = omega (arith, length_digits base w v) in
    record {
      next = rw t (omega (arith, length-number base w e v));
      bytes = rw (t, r, d, sets_append l at (digits_of base w v) (e ∷ []), z);
    }

pub no_number : (l : List ℕ) (at base w e v : ℕ) → length l ≤ at + w → Fitted l at (number_text base w e v) l at
no_number l at base w e v h = not_fits l at (number_text base w e v) (omega (arith, length-number base w e v))

-- ---- an optional number

-- the byte after it does not matter
pub same_length : (w e f : ℕ) (p : Option ℕ) → length (optional_text w e p) ≡ length (optional_text w f p)
unfolding optional_text
same_length w e f None = refl
same_length w e f (Some v) = length-number 16 w e v ∙ sym (length-number 16 w f v)

pub length-le : (w e : ℕ) (p : Option ℕ) → length (optional_text w e p) ≤ w + 2
unfolding optional_text
length-le w e None = omega arith
length-le w e (Some v) = omega (arith, length-number 16 w e v)
