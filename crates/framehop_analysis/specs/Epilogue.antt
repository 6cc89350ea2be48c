-- The end of a function on x86_64: pops, and then a return, or a jump, which is taken for a tail call after a pop.
use Rattle.std.specs.List.{AllByRecursion}
use Rattle.std.specs.Prelude.{ℕ, suc, pos, ◌≡◌, ◌+◌, ◌-◌, ◌^◌, ◌==◌, nat_lt, nat_le, Bool, true, false, ◌&&◌, IsTrue, if◌then◌else◌, List, [], ◌∷◌, ◌++◌, length, take, drop, Option, Some, None, slice_get}
use Rattle.framehop_analysis.specs.Instructions.{Instruction, Pop, Return, Jump, Fits, spelling, is_plain_rbp_pop}
use Rattle.framehop_rules.specs.declared.x86_64.unwind_rule.UnwindRuleX86_64.{UnwindRuleX86_64}
use Rattle.framehop_rules.specs.declared.x86_64.unwind_rule.UnwindRuleX86_64.TheVariants.{JustReturn, OffsetSp, OffsetSpAndRestoreBp}

-- The byte of a pop, whatever stands before it.
abbrev pub is_pop_byte : ℕ → Bool
is_pop_byte byte = nat_le 0x58 byte && nat_lt byte 0x60

-- The last byte is that of a pop. It may be the end of another instruction too.
abbrev pub ends_like_pop : List ℕ → Bool
ends_like_pop bytes = elim (slice_get bytes (length bytes - 1)) [ Some byte ↦ is_pop_byte byte | None ↦ false ]

-- Pops, and then a return, or a jump right after a pop. Before the list a pop stands or not.
abbrev pub LeavesFunction : Bool → List Instruction → Type 0
LeavesFunction is_after_pop [] = ⊥
LeavesFunction is_after_pop (Pop rex low ∷ more) = LeavesFunction true more
LeavesFunction is_after_pop (Return ∷ []) = Unit {0}
LeavesFunction is_after_pop (Jump first ∷ []) = IsTrue is_after_pop
LeavesFunction is_after_pop other = ⊥

-- The instructions stand at the offset, and end the function.
pub record IsEpilogue (text : List ℕ) (offset : ℕ) (instructions : List Instruction) : Type 0 where
  pub fit : AllByRecursion Fits instructions
  pub suffix : List ℕ
  pub spelled : drop offset text ≡ spelling instructions ++ suffix
  pub leaves : LeavesFunction (ends_like_pop (take offset text)) instructions

-- An index counted from one instruction further back, which may be the first one found itself.
abbrev pub one_further : Option ℕ → Bool → Option ℕ
one_further (Some index) is_first = Some (suc index)
one_further None true = Some 0
one_further None false = None

-- How many instructions stand before the last `pop rbp` without a prefix.
abbrev pub last_rbp_pop : List Instruction → Option ℕ
last_rbp_pop [] = None
last_rbp_pop (instruction ∷ more) = one_further (last_rbp_pop more) (is_plain_rbp_pop instruction)

-- The rule for so many pops, RBP being popped last after so many others. There is none if a number doesn't fit its field.
abbrev pub rule_of_pops : ℕ → Option ℕ → Option UnwindRuleX86_64
rule_of_pops pops bp_offset_by_8 =
    if pops == 0 then Some JustReturn else
    if nat_lt (pops + 1) (2 ^ 16) then
    (elim bp_offset_by_8 [
      | None ↦ Some (OffsetSp (pops + 1))
      | Some bp_offset ↦ if nat_lt bp_offset (2 ^ 15) then Some (OffsetSpAndRestoreBp (pops + 1) (pos bp_offset)) else None
    ])
    else None

-- The rule of an epilogue. All of its instructions but the last one are pops.
abbrev pub epilogue_rule : List Instruction → Option UnwindRuleX86_64
epilogue_rule instructions = rule_of_pops (length instructions - 1) (last_rbp_pop instructions)

-- The rules of epilogues that stand at the offset.
abbrev pub IsEpilogueRule : List ℕ → ℕ → UnwindRuleX86_64 → Type 0
IsEpilogueRule text offset rule = (instructions : List Instruction) × IsEpilogue text offset instructions × (epilogue_rule instructions ≡ Some rule)
