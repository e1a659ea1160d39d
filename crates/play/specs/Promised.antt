-- What is promised beyond the functions' contracts: statements alone, each proved by the law that its comment names.
use Rattle.std.specs.Prelude.{ℕ, ◌*◌, ◌≤◌, ◌≡◌, List, ◌++◌, take}
use Rattle.sheet.specs.Sheet.{play_input}
use Rattle.play.specs.Play.{counted, output}
use Rattle.play.specs.Blocks.{over, first_text, first_play, opened_text, played}

-- input of any length: bytes after the first 16,543 change nothing (`output_decided`, proofs/Output)
abbrev pub OutputDecided : Type 0
OutputDecided = (n : ℕ) (l : List ℕ) → 16543 ≤ n → output (take n l) ≡ output l

-- the bytes that opening writes and those of the calls after it are the output, whatever stood in the lent bytes (`blocks_are_output`, there;
-- `enough`, there: 4,194,304 calls are enough for every input)
abbrev pub BlocksAreOutput : Type 0
BlocksAreOutput =
    (l out : List ℕ) (n : ℕ) → (first_play (counted (play_input l))).count ≤ 1024 * n
    → opened_text (counted (play_input l)) out ++ played n (first_play (counted (play_input l))) (over (first_text (counted (play_input l))) out) ≡ output l
