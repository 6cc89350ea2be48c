-- Ways out of a function: what is executed from a place up to where the function is left.
use Rattle.std.specs.List.{AllByRecursion, list_any}
use Rattle.std.specs.Prelude.{ℕ, ◌≡◌, ◌≢◌, ◌&&◌, ◌||◌, ◌==◌, not, Bool, true, false, IsTrue, ℤ, pos, negsuc, List, [], ◌∷◌, ◌++◌, Option, Some, None, is_none, option_and_then}
use Rattle.framehop_registers.specs.declared.x86_64.unwindregs.Reg.{Reg}
use Rattle.framehop_registers.specs.declared.x86_64.unwindregs.Reg.TheVariants.{RBX, RBP, R12, R13, R14, R15}
use Rattle.framehop_ways.specs.declared.executed.Bounds.{Bounds}
use Rattle.framehop_x86_instructions.specs.declared.address.Base.TheVariants.{StackPointer, FramePointer}
use Rattle.framehop_x86_instructions.specs.declared.effect.Effect.{Effect}
use Rattle.framehop_x86_instructions.specs.declared.effect.Effect.TheVariants.{Pop, Leave, Jump, JumpAway, Return}
use Rattle.framehop_x86_ways.specs.Places.{instruction_at, place_branched_to, IsNext}
use Rattle.framehop_x86_ways.specs.Values.{held_after_way}
use Rattle.framehop_x86_ways.specs.declared.executed.Executed.{Executed}
use Rattle.framehop_x86_ways.specs.declared.values.Saved.{Saved}
use Rattle.framehop_x86_ways.specs.declared.values.Value.{Value}
use Rattle.framehop_x86_ways.specs.declared.values.Value.TheVariants.{Address}
use Rattle.framehop_x86_ways.specs.declared.values.Values.{Values}

-- Whether an instruction pops a register that functions save by each calling convention (System V ABI, figure 3.4; Microsoft's 'x64 ABI
-- conventions').
abbrev pub is_saved : Reg → Bool
is_saved RBX = true
is_saved RBP = true
is_saved R12 = true
is_saved R13 = true
is_saved R14 = true
is_saved R15 = true
is_saved other = false

abbrev pub pops_saved : Effect → Bool
pops_saved (Pop (Some register)) = is_saved register
pops_saved Leave = true
pops_saved other = false

-- Whether a number is above 0.
abbrev pub is_above_0 : ℤ → Bool
is_above_0 (pos n) = not (n == 0)
is_above_0 (negsuc n) = false

-- Whether RSP is higher than now, or was set by RBP.
abbrev pub is_higher : Value → Bool
is_higher (Address StackPointer bytes) = is_above_0 bytes
is_higher (Address FramePointer bytes) = true
is_higher other = false

abbrev pub is_raised : Option (Values × List Saved) → Bool
is_raised None = false
is_raised (Some held) = is_higher held.0.sp

-- Whether instructions restored something of the caller: they popped such a register, or raised RSP above what it is now.
abbrev pub restored : List Executed → Bool
restored before = list_any (λ one. pops_saved one.instruction.effect) before || is_raised (held_after_way before)

-- How a function is left: by a return; by a jump to what no instruction tells, or to what is no place of the text, as a stub, if
-- something was restored.
abbrev pub is_outside : List ℕ → Executed → Bool
is_outside text one = is_none (option_and_then (instruction_at text) (place_branched_to one))

abbrev pub is_left_by : List ℕ → List Executed → Executed → Effect → Bool
is_left_by text before one (Return bytes) = true
is_left_by text before one JumpAway = restored before
is_left_by text before one (Jump distance) = is_outside text one && restored before
is_left_by text before one other = false

abbrev pub leaves : List ℕ → List Executed → Executed → Bool
leaves text before one = is_left_by text before one one.instruction.effect

-- Each is spelled where it is executed, the first at one place, and each goes on at the next one's place, the last at another place.
abbrev pub IsChain : List ℕ → Bounds → ℕ → List Executed → ℕ → Type 0
IsChain text bounds at [] next = at ≡ next
IsChain text bounds at (one ∷ more) next =
    (one.place ≡ at) × (instruction_at text one.place ≡ Some one.instruction) × (place : ℕ) × IsNext bounds one place × IsChain text bounds place more next

-- No place comes twice.
abbrev pub AreOnce : List Executed → Type 0
AreOnce [] = Unit {0}
AreOnce (one ∷ more) = AllByRecursion (λ other. other.place ≢ one.place) more × AreOnce more

-- What is executed from a place on, and the instruction that then leaves the function.
pub record IsWay (text : List ℕ) (bounds : Bounds) (at : ℕ) (way : List Executed) : Type 0 where
  pub before : List Executed
  pub last : Executed
  pub is : way ≡ before ++ last ∷ []
  pub chained : IsChain text bounds at before last.place
  pub spelled : instruction_at text last.place ≡ Some last.instruction
  pub once : AreOnce way
  pub left : IsTrue (leaves text before last)
