-- Lists of which each operation is an offset or a pop of another register than the stack pointer.
use Rattle.std.proofs.Common.{◌≢◌, ℕ, suc, ◌<◌, List, [], ◌∷◌, length, map, get_or, Contains, sym, subst, arith}
use Rattle.std.specs.Prelude.{Option, Some, None}
use Rattle.framehop_registers.specs.PopLists.{callee_saved, IsPopList}
use Rattle.framehop_registers.specs.Registers.{dwarf_number}
use Rattle.framehop_registers.specs.declared.x86_64.unwindregs.Reg.{Reg}
use Rattle.framehop_registers.specs.declared.x86_64.unwindregs.Reg.TheVariants.{RAX}
use Rattle.framehop_rules.specs.Sequences.{offset_then_pops, IsRuleOf}
use Rattle.framehop_rules.specs.declared.x86_64.offset_or_pop.OffsetOrPop.{OffsetOrPop}
use Rattle.framehop_rules.specs.declared.x86_64.offset_or_pop.OffsetOrPop.TheVariants as part
use Rattle.framehop_rules.specs.declared.x86_64.unwind_rule.UnwindRuleX86_64.{UnwindRuleX86_64}
use Rattle.framehop_pe.proofs.RuleAnswers.{saved_not_sp}

abbrev pub IsFollowed : OffsetOrPop → Type 0
IsFollowed (part.OffsetBy8 x) = Unit {0}
IsFollowed (part.Pop register) = dwarf_number register ≢ 7
IsFollowed part.None = ⊥

abbrev pub AreFollowed : List OffsetOrPop → Type 0
AreFollowed [] = Unit {0}
AreFollowed (operation ∷ operations) = IsFollowed operation × AreFollowed operations

pops-followed : (registers : List Reg) → ((k : ℕ) → k < length registers → Contains callee_saved (get_or registers k RAX)) → AreFollowed (map part.Pop registers)
pops-followed [] saved = tt
pops-followed (register ∷ registers) saved = (saved_not_sp register (saved 0 (omega arith)), pops-followed registers (λ k inside. saved (suc k) (omega arith)))

sequence-followed : (offset : Option ℕ) (registers : List Reg) → IsPopList registers → AreFollowed (offset_then_pops offset registers)
sequence-followed None registers pops = pops-followed registers (λ k inside. pops.saved k RAX inside)
sequence-followed (Some x) registers pops = (tt, pops-followed registers (λ k inside. pops.saved k RAX inside))

-- a list that has a rule
pub rule-followed : (operations : List OffsetOrPop) (rule : UnwindRuleX86_64) → IsRuleOf operations rule → AreFollowed operations
rule-followed operations rule of = let P : List OffsetOrPop → Type 0 = λ l. AreFollowed l in subst P (sym of.sequence) (sequence-followed of.offset of.registers of.pops)
