-- Places of code, in bytes from the start of a text, and where an instruction goes on.
use Rattle.std.specs.Prelude.{ℕ, ◌≡◌, ◌+◌, ◌<◌, ◌≤◌, ◌^◌, ◌&&◌, ◌||◌, ◌⊎◌, nat_lt, nat_le, Bool, true, false, if◌then◌else◌, ℤ, pos, negsuc, ◌+ℤ◌, List, length, drop, Option, Some, None}
use Rattle.std.specs.Result.{result_ok}
use Rattle.framehop_ways.specs.declared.executed.Bounds.{Bounds}
use Rattle.framehop_x86_instructions.specs.Instructions.{instruction_of}
use Rattle.framehop_x86_instructions.specs.declared.effect.Effect.{Effect}
use Rattle.framehop_x86_instructions.specs.declared.effect.Effect.TheVariants.{Jump, JumpIf, JumpAway, Return, Unknown}
use Rattle.framehop_x86_instructions.specs.declared.instruction.Instruction.{Instruction}
use Rattle.framehop_x86_ways.specs.declared.executed.Executed.{Executed}

-- The instruction at a place of a text.
unfoldable pub instruction_at : List ℕ → ℕ → Option Instruction
instruction_at text place = if nat_lt (length text) place then None else result_ok (instruction_of (drop place text))

-- Whether execution can go on at the next instruction.
abbrev pub goes_through : Effect → Bool
goes_through (Jump distance) = false
goes_through JumpAway = false
goes_through (Return bytes) = false
goes_through Unknown = false
goes_through other = true

-- An instruction in a text, which has as many bytes as one can have.
abbrev pub IsInText : Executed → Type 0
IsInText one = (one.place < 2 ^ 63) × (one.instruction.length ≤ 15)

-- The place behind an instruction.
abbrev pub place_behind : Executed → ℕ
place_behind one = one.place + one.instruction.length

-- Whether a bound is behind a place, and isn't behind the next one.
abbrev pub is_passed : ℕ → ℕ → ℕ → Bool
is_passed place next bound = nat_lt place bound && nat_le bound next

-- The next place, where execution can go on there and no bound is between.
abbrev pub place_after : Bounds → Executed → Option ℕ
place_after bounds one =
    if goes_through one.instruction.effect then
    (if is_passed one.place (place_behind one) bounds.begin || is_passed one.place (place_behind one) bounds.end then None else
    Some (place_behind one)) else
    None

-- A place that isn't before the text, and has 64 bits.
abbrev pub place_of : ℤ → Option ℕ
place_of (pos place) = if nat_lt place (2 ^ 64) then Some place else None
place_of (negsuc before) = None

-- The place that a jump leads to, by its distance from the place behind it.
abbrev pub place_of_jump : ℕ → Effect → Option ℕ
place_of_jump behind (Jump distance) = place_of (pos behind +ℤ distance)
place_of_jump behind (JumpIf distance) = place_of (pos behind +ℤ distance)
place_of_jump behind other = None

abbrev pub place_branched_to : Executed → Option ℕ
place_branched_to one = place_of_jump (place_behind one) one.instruction.effect

-- Execution can go on there: at the next place, if no bound is between, or where a jump leads.
abbrev pub IsNext : Bounds → Executed → ℕ → Type 0
IsNext bounds one next = (place_after bounds one ≡ Some next) ⊎ (place_branched_to one ≡ Some next)
