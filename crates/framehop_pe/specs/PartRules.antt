-- The rule of a sequence of parts, computed.
use Rattle.std.specs.Prelude.{ℕ, ◌==◌, ◌&&◌, not, Bool, true, if◌then◌else◌, List, [], ◌∷◌, Option, Some, None, option_map}
use Rattle.std.specs.List.{list_any}
use Rattle.framehop_registers.specs.PopLists.{callee_saved}
use Rattle.framehop_registers.specs.Registers.{dwarf_number}
use Rattle.framehop_registers.specs.declared.x86_64.unwindregs.Reg.{Reg}
use Rattle.framehop_rules.specs.Sequences.{pop_rule}
use Rattle.framehop_rules.specs.declared.x86_64.offset_or_pop.OffsetOrPop.{OffsetOrPop}
use Rattle.framehop_rules.specs.declared.x86_64.offset_or_pop.OffsetOrPop.TheVariants as part
use Rattle.framehop_rules.specs.declared.x86_64.unwind_rule.UnwindRuleX86_64.{UnwindRuleX86_64}

-- A register is one of these.
abbrev pub is_among : List Reg → Reg → Bool
is_among registers register = list_any (λ other. dwarf_number other == dwarf_number register) registers

-- These are callee-saved registers, each at most once.
abbrev pub is_pop_list : List Reg → Bool
is_pop_list [] = true
is_pop_list (register ∷ more) = is_among callee_saved register && (not (is_among more register) && is_pop_list more)

-- The registers that are popped, if all parts are pops.
abbrev pub popped_in : List OffsetOrPop → Option (List Reg)
popped_in [] = Some []
popped_in (part.Pop register ∷ parts) = option_map (λ more. register ∷ more) (popped_in parts)
popped_in (part.OffsetBy8 words ∷ parts) = None
popped_in (part.None ∷ parts) = None

-- The rule of an offset and of what is popped, if all of that is pops of a pop list.
abbrev pub popping_rule : ℕ → Option (List Reg) → Option UnwindRuleX86_64
popping_rule offset (Some registers) = if is_pop_list registers then Some (pop_rule offset registers) else None
popping_rule offset None = None

-- The rule of a sequence, if it is an offset, which may be missing, and then pops of a pop list.
unfoldable pub rule_of_parts : List OffsetOrPop → Option UnwindRuleX86_64
rule_of_parts [] = popping_rule 0 (Some [])
rule_of_parts (part.OffsetBy8 words ∷ parts) = popping_rule words (popped_in parts)
rule_of_parts (part.Pop register ∷ parts) = popping_rule 0 (popped_in (part.Pop register ∷ parts))
rule_of_parts (part.None ∷ parts) = None
