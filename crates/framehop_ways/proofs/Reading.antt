-- The instruction that is read at a place.
use Rattle.std.proofs.Common.{◌≡◌, ◌∙◌, ◌+◌, ◌≤◌, ℕ, sym, ap, arith, Bool, true, List, length, take, drop, Some, None}
use Rattle.std.specs.Int.{from_le_bytes, w32}
use Rattle.std.specs.Prelude.{nat_le, if◌then◌else◌}
use Rattle.std.proofs.lemmas.Bool.Decides.{nat_tests}
use Rattle.framehop_ways.specs.Decoding.{instruction_of}
use Rattle.framehop_ways.specs.Places.{instruction_at}

is_within : (place size : ℕ) → place + 4 ≤ size → nat_le (place + 4) size ≡ true
is_within place size within = grind (arith, nat_tests)

pub read_at : (text bytes : List ℕ) (place word : ℕ) → place + 4 ≤ length text → bytes ≡ take 4 (drop place text) → word ≡ from_le_bytes w32 bytes
    → Some (instruction_of word) ≡ instruction_at text place
read_at text bytes place word within bytes_are word_is =
    ap (λ (n : ℕ). Some (instruction_of n)) (word_is ∙ ap (from_le_bytes w32) bytes_are)
    ∙ sym (ap (λ (test : Bool). if test then Some (instruction_of (from_le_bytes w32 (take 4 (drop place text)))) else None) (is_within place (length text) within))
