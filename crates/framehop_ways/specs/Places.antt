-- Places of code, in bytes from the start of a text, and where an instruction goes on.
use Rattle.std.specs.Int.{from_le_bytes, w32}
use Rattle.std.specs.Prelude.{ℕ, ◌≡◌, ◌+◌, ◌==◌, ◌||◌, ◌⊎◌, nat_le, Bool, true, false, if◌then◌else◌, ℤ, pos, negsuc, ◌+ℤ◌, List, length, take, drop, Option, Some, None}
use Rattle.framehop_ways.specs.Decoding.{instruction_of}
use Rattle.framehop_ways.specs.declared.executed.Bounds.{Bounds}
use Rattle.framehop_ways.specs.declared.executed.Executed.{Executed}
use Rattle.framehop_ways.specs.declared.instruction.Instruction.{Instruction}
use Rattle.framehop_ways.specs.declared.instruction.Instruction.TheVariants.{Branch, BranchIf, Return, BranchAway, Unknown}

-- The instruction at a place of a text. A word has its lowest byte first.
abbrev pub instruction_at : List ℕ → ℕ → Option Instruction
instruction_at text place =
    if nat_le (place + 4) (length text) then Some (instruction_of (from_le_bytes w32 (take 4 (drop place text)))) else None

-- Whether execution can go on at the next word.
abbrev pub goes_through : Instruction → Bool
goes_through (Branch distance) = false
goes_through Return = false
goes_through BranchAway = false
goes_through Unknown = false
goes_through other = true

-- The next place, where execution can go on there and no bound is.
abbrev pub place_after : Bounds → Executed → Option ℕ
place_after bounds one =
    if goes_through one.instruction then
    (if (one.place + 4 == bounds.begin) || (one.place + 4 == bounds.end) then None else Some (one.place + 4)) else
    None

-- A place that isn't before the text.
abbrev pub place_of : ℤ → Option ℕ
place_of (pos place) = Some place
place_of (negsuc before) = None

-- The place that a branch leads to.
abbrev pub place_of_branch : ℕ → Instruction → Option ℕ
place_of_branch place (Branch distance) = place_of (pos place +ℤ distance)
place_of_branch place (BranchIf distance) = place_of (pos place +ℤ distance)
place_of_branch place other = None

abbrev pub place_branched_to : Executed → Option ℕ
place_branched_to one = place_of_branch one.place one.instruction

-- Execution can go on there: at the next place, if no bound is between, or where a branch leads.
abbrev pub IsNext : Bounds → Executed → ℕ → Type 0
IsNext bounds one next = (place_after bounds one ≡ Some next) ⊎ (place_branched_to one ≡ Some next)
