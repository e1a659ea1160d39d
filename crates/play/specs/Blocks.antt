-- The output in blocks: first the names or the refusal, then lines of samples, so many at a time.
use Rattle.std.specs.Prelude.{ℕ, zero, suc, ◌+◌, ◌-◌, min, ◌≡◌, cond, List, [], ◌++◌, ltb, leb, length, take, drop, Result, Ok, IsErrAnd}
use Rattle.numbers.specs.Bounds.{zero64, finite}
use Rattle.points.specs.Refusal.{number, Said, refuses, gives}
use Rattle.lookup.specs.Runs.{run}
use Rattle.render.specs.Render.{sample_count, most_samples}
use Rattle.envelope.specs.Envelope.{new, valid_envelope}
use Rattle.envelope.specs.Calls.{samples_of}
use Rattle.lines.specs.declared.SheetRefusal.{SheetRefusal}
use Rattle.sheet.specs.Sheet.{Input, declined, input}
use Rattle.play.specs.Play.{sample_names, refusal_text, sample_lines}
use Rattle.play.specs.declared.Play.{Play}
use Rattle.play.specs.declared.Opened.{Opened}

-- a text from the start of lent bytes; the places after it stay
abbrev pub over : List ℕ → List ℕ → List ℕ
over w out = w ++ drop (length w) out

-- ---- the first bytes

-- the names, or all of a refusal
unfoldable pub first_text : Input → List ℕ
first_text (declined n k) = refusal_text n k
first_text (input e b) = sample_names

-- what is left to play after them: nothing after a refusal
unfoldable pub first_play : Input → Play
first_play (declined n k) = record { envelope = new 0; rate = zero64; count = 0; next = 0 }
first_play (input e b) = record { envelope = e; rate = b.rate; count = sample_count b.rate b.duration; next = 0 }

-- what a call gives to be played: the refusal, or what is left after the names
abbrev pub Leaves : Input → Result Play SheetRefusal → Type 0
Leaves (declined n k) r = IsErrAnd r (λ e. (number e.refusal ≡ n) × (e.line ≡ k))
Leaves (input e b) r = r ≡ Ok (first_play (input e b))

-- an opened play, and the lent bytes after it
pub record Opens (i : Input) (out : List ℕ) (r : Opened) (m : List ℕ) : Type 0 where
  pub bytes : r.bytes ≡ length (first_text i)
  pub play : Leaves i r.play
  pub lent : m ≡ over (first_text i) out

-- the bytes that opening writes
abbrev pub opened_text : Input → List ℕ → List ℕ
opened_text i out = take (length (first_text i)) (over (first_text i) out)

-- ---- a block

-- how many samples it has: 1024, or those that are left
abbrev pub block_count : Play → ℕ
block_count p = min 1024 (p.count - p.next)

-- a block's lines
unfoldable pub block_text : Play → List ℕ
block_text p = sample_lines p.next (run (samples_of p.envelope p.rate) p.next (block_count p))

-- what is left to play after it
abbrev pub after : Play → Play
after p = record { envelope = p.envelope; rate = p.rate; count = p.count; next = p.next + block_count p }

-- what writing a block says, the play it leaves and the lent bytes
pub record BlockTold : Type 0 where
  pub said : Said ℕ
  pub play : Play
  pub bytes : List ℕ

-- a refused block: nothing is written, and the play stays
abbrev pub declines : ℕ → Play → List ℕ → BlockTold
declines n p out = record { said = refuses n; play = p; bytes = out }

-- with rendering's refusals 1, 3 and 13
unfoldable pub next_block : Play → List ℕ → BlockTold
next_block p out =
    cond (valid_envelope p.envelope)
    (cond (finite p.rate)
    (cond (leb (p.next + block_count p) most_samples)
    (record { said = gives (length (block_text p)); play = after p; bytes = over (block_text p) out })
    (declines 13 p out))
    (declines 3 p out))
    (declines 1 p out)

-- ---- block after block, while samples are left

-- the bytes that a call wrote
abbrev pub taken : BlockTold → List ℕ
taken b = on b.said
  where
    on : Said ℕ → List ℕ
    on (refuses n) = []
    on (gives n) = take n b.bytes

-- those of n calls, each on the play and the lent bytes that the one before left
unfoldable pub played : ℕ → Play → List ℕ → List ℕ
played zero p out = []
played (suc n) p out = cond (ltb p.next p.count) (taken (next_block p out) ++ played n (next_block p out).play (next_block p out).bytes) []
