-- The start of a function on x86_64: perhaps `push rbp` and `mov rbp, rsp`, and then pushes, up to the address.
use Rattle.std.specs.List.{AllByRecursion}
use Rattle.std.specs.Prelude.{ℕ, ◌≡◌, ◌⊎◌, ◌+◌, ◌<◌, ◌≤◌, ◌^◌, ◌↔◌, nat_lt, Bool, true, false, IsTrue, if◌then◌else◌, List, [], ◌∷◌, ◌++◌, length, take, drop, Option, Some, None}
use Rattle.framehop_analysis.specs.Instructions.{RexPrefix, NoRex, Instruction, Push, SetFramePointer, bytes_of, spelling}
use Rattle.framehop_rules.specs.declared.x86_64.unwind_rule.UnwindRuleX86_64.{UnwindRuleX86_64}
use Rattle.framehop_rules.specs.declared.x86_64.unwind_rule.UnwindRuleX86_64.TheVariants.{OffsetSp, UseFramePointer}

-- An instruction that can come next in a prologue, as far as it is looked at: a push; `sub` of a number from ESP or RSP, by its
-- opcode, 83 /5 or 81 /5 with ModRM EC, with the prefix 48 (REX.W) or without; `mov rbp, rsp`.
pub data Next : Type 0 where
  NextPush : RexPrefix → ℕ → Next
  NextSubtract : Bool → ℕ → Next
  NextSetFramePointer : Next

-- Each field has a value that its bits can have.
abbrev pub NextFits : Next → Type 0
NextFits (NextPush rex low) = low < 8
NextFits (NextSubtract is_wide opcode) = (opcode ≡ 0x83) ⊎ (opcode ≡ 0x81)
NextFits NextSetFramePointer = Unit {0}

-- The bytes that it begins with.
abbrev pub next_bytes : Next → List ℕ
next_bytes (NextPush rex low) = bytes_of (Push rex low)
next_bytes (NextSubtract true opcode) = 0x48 ∷ opcode ∷ 0xec ∷ []
next_bytes (NextSubtract false opcode) = opcode ∷ 0xec ∷ []
next_bytes NextSetFramePointer = bytes_of SetFramePointer

-- The bytes are four or more, and begin with such an instruction.
pub record IsExpected (bytes : List ℕ) : Type 0 where
  pub next : Next
  pub fits : NextFits next
  pub suffix : List ℕ
  pub spelled : bytes ≡ next_bytes next ++ suffix
  pub enough : 4 ≤ length bytes

-- Pushes alone.
abbrev pub IsPush : Instruction → Type 0
IsPush (Push rex low) = low < 8
IsPush other = ⊥

-- `push rbp`, `mov rbp, rsp`.
abbrev pub frame_setup : List Instruction
frame_setup = Push NoRex 5 ∷ SetFramePointer ∷ []

-- These, or nothing.
abbrev pub setup : Bool → List Instruction
setup true = frame_setup
setup false = []

-- The bytes end with these.
abbrev pub EndsWith : List ℕ → List ℕ → Type 0
EndsWith bytes end = (prefix : List ℕ) × (bytes ≡ prefix ++ end)

-- The bytes end with pushes, and with no run of pushes that begins further back.
pub record IsLongestRun (bytes prefix : List ℕ) (pushes : List Instruction) : Type 0 where
  pub all : AllByRecursion IsPush pushes
  pub spelled : bytes ≡ prefix ++ spelling pushes
  pub longest : (other_prefix : List ℕ) (others : List Instruction) → AllByRecursion IsPush others
      → bytes ≡ other_prefix ++ spelling others → length prefix ≤ length other_prefix

-- An expected instruction comes next, and the longest run of pushes ends at the offset, after a frame setup or not.
pub record IsPrologue (text : List ℕ) (offset : ℕ) (has_setup : Bool) (pushes : List Instruction) : Type 0 where
  pub next : IsExpected (drop offset text)
  pub prefix : List ℕ
  pub run : IsLongestRun (take offset text) prefix pushes
  pub setup : IsTrue has_setup ↔ EndsWith prefix (spelling frame_setup)

-- The rule for so many pushes, after a frame setup or not. There is none if a number doesn't fit its field.
abbrev pub rule_of_pushes : Bool → ℕ → Option UnwindRuleX86_64
rule_of_pushes true pushes = Some UseFramePointer
rule_of_pushes false pushes = if nat_lt (pushes + 1) (2 ^ 16) then Some (OffsetSp (pushes + 1)) else None

-- The rule of a prologue.
abbrev pub prologue_rule : Bool → List Instruction → Option UnwindRuleX86_64
prologue_rule has_setup pushes = rule_of_pushes has_setup (length pushes)

-- The rules of prologues that stand at the offset.
abbrev pub IsPrologueRule : List ℕ → ℕ → UnwindRuleX86_64 → Type 0
IsPrologueRule text offset rule =
    (has_setup : Bool) × (pushes : List Instruction) × IsPrologue text offset has_setup pushes × (prologue_rule has_setup pushes ≡ Some rule)

-- The instructions of a prologue.
abbrev pub prologue : Bool → List Instruction → List Instruction
prologue has_setup pushes = setup has_setup ++ pushes
