-- Numbers of variable length, one after the other.
use Rattle.std.specs.Prelude.{ℕ, zero, suc, ◌==◌, ◌%◌, ◌^◌, List, [], ◌∷◌, ◌++◌, length, sum, Result, Ok, Err, if◌then◌else◌}
use Rattle.dwarf_constants.specs.declared.error.Error.{Error}
use Rattle.dwarf_readers.specs.Leb128.{unsigned_at}
use Rattle.dwarf_readers.specs.Stretch.{Stretch, ◌>>=◌, end_of, ends_at}

-- the numbers seen and the unsigned numbers to the end, in at most n steps
abbrev pub numbers_within : ℕ → List ℕ → Stretch → Result (List ℕ) Error
numbers_within zero seen s = Err (ends_at (end_of s))
numbers_within (suc n) seen s =
    if length s.bytes == 0 then Ok seen
    else (do
      number ← unsigned_at s
      numbers_within n (seen ++ number.0 ∷ []) number.1)

-- the unsigned numbers to the end: each takes at least a byte
unfoldable pub numbers_in : Stretch → Result (List ℕ) Error
numbers_in s = numbers_within (suc (length s.bytes)) [] s

-- how many numbers there are to the end, and their sum modulo 2^64
abbrev pub tally_in : Stretch → Result (ℕ × ℕ) Error
tally_in s = do
  numbers ← numbers_in s
  Ok (length numbers, sum numbers % 2 ^ 64)
