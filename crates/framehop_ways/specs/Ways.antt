-- Ways out of a function: what is executed from a place up to where the function is left.
use Rattle.std.specs.List.{AllByRecursion, list_any}
use Rattle.std.specs.Prelude.{ℕ, ◌≡◌, ◌≢◌, ◌&&◌, ◌||◌, ◌==◌, not, Bool, true, false, IsTrue, ℤ, pos, negsuc, List, [], ◌∷◌, ◌++◌, Some, is_none, option_and_then}
use Rattle.framehop_ways.specs.Places.{instruction_at, place_branched_to, IsNext}
use Rattle.framehop_ways.specs.declared.executed.Bounds.{Bounds}
use Rattle.framehop_ways.specs.declared.executed.Executed.{Executed}
use Rattle.framehop_ways.specs.declared.instruction.Access.{Access}
use Rattle.framehop_ways.specs.declared.instruction.Base.{Base}
use Rattle.framehop_ways.specs.declared.instruction.Base.TheVariants.{StackPointer, FramePointer}
use Rattle.framehop_ways.specs.declared.instruction.Instruction.{Instruction}
use Rattle.framehop_ways.specs.declared.instruction.Instruction.TheVariants.{Load, Store, Move, Branch, Return, BranchAway}

-- Whether a number is above 0.
abbrev pub is_above_0 : ℤ → Bool
is_above_0 (pos n) = not (n == 0)
is_above_0 (negsuc n) = false

-- Whether the base is the stack pointer.
abbrev pub is_stack_pointer : Base → Bool
is_stack_pointer StackPointer = true
is_stack_pointer FramePointer = false

-- Whether an access raises the stack pointer.
abbrev pub raises_sp : Access → Bool
raises_sp access = is_stack_pointer access.base && is_above_0 access.raise

-- Whether an instruction restores something of the caller: it raises the stack pointer, sets it by x29, or loads the link register.
abbrev pub restores : Instruction → Bool
restores (Load access) = raises_sp access || (access.first == 30) || (access.second == 30)
restores (Store access) = raises_sp access
restores (Move StackPointer StackPointer bytes) = is_above_0 bytes
restores (Move StackPointer FramePointer bytes) = true
restores other = false

-- How a function is left, once something was restored or not: by a return; by a branch to a register, or to what is no place of the
-- text, as a stub, if something was.
abbrev pub is_outside : List ℕ → Executed → Bool
is_outside text one = is_none (option_and_then (instruction_at text) (place_branched_to one))

abbrev pub is_left_by : List ℕ → Executed → Bool → Instruction → Bool
is_left_by text one restored Return = true
is_left_by text one restored BranchAway = restored
is_left_by text one restored (Branch distance) = restored && is_outside text one
is_left_by text one restored other = false

abbrev pub leaves : List ℕ → Executed → Bool → Bool
leaves text one restored = is_left_by text one restored one.instruction

-- Each is spelled where it is executed, the first at one place, and each goes on at the next one's place, the last at another place.
abbrev pub IsChain : List ℕ → Bounds → ℕ → List Executed → ℕ → Type 0
IsChain text bounds at [] next = at ≡ next
IsChain text bounds at (one ∷ more) next =
    (one.place ≡ at) × (instruction_at text one.place ≡ Some one.instruction) × (place : ℕ) × IsNext bounds one place × IsChain text bounds place more next

-- No place comes twice.
abbrev pub AreOnce : List Executed → Type 0
AreOnce [] = Unit {0}
AreOnce (one ∷ more) = AllByRecursion (λ other. other.place ≢ one.place) more × AreOnce more

-- What is executed from a place on, and the instruction that then leaves the function.
pub record IsWay (text : List ℕ) (bounds : Bounds) (at : ℕ) (way : List Executed) : Type 0 where
  pub before : List Executed
  pub last : Executed
  pub is : way ≡ before ++ last ∷ []
  pub chained : IsChain text bounds at before last.place
  pub spelled : instruction_at text last.place ≡ Some last.instruction
  pub once : AreOnce way
  pub left : IsTrue (leaves text last (list_any (λ one. restores one.instruction) before))
