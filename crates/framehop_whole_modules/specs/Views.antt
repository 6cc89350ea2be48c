-- What functions of this crate return, as the contracts of private functions see it.
use Rattle.std.specs.Prelude.{◌≡◌, Option, option_map, Result, Ok, Err}
use Rattle.framehop_rules.specs.declared.unwind_result.UnwindResult.{UnwindResult}
use Rattle.framehop_rules.specs.declared.unwind_result.UnwindResult.TheVariants.{ExecRule, Uncacheable}
use Rattle.framehop_unwinder.specs.declared.unwinding.UnwindFailure.{UnwindFailure}
use Rattle.framehop_whole_steps.specs.Registers.{forgotten}
use Rattle.framehop_whole_steps.specs.FoundRows as rows
use Rattle.framehop_whole_steps.specs.Views.{Answer, row_seen}
use Rattle.framehop_whole_steps.specs.declared.found_row.FoundRow.{FoundRow}
use Rattle.framehop_whole_steps.specs.declared.registers.WholeRegs.{WholeRegs}
use Rattle.framehop_whole_steps.specs.declared.rule.WholeRule.TheVariants as kept

-- the answer of a module that takes no row whole, with a rule of the architecture
abbrev pub plain_answer : {Rule : Type 0} → Result (UnwindResult Rule) UnwindFailure → Answer Rule
plain_answer (Ok (ExecRule rule)) = Ok (ExecRule (kept.Plain rule))
plain_answer (Ok (Uncacheable to)) = Ok (Uncacheable to)
plain_answer (Err why) = Err why

-- the registers that it leaves: no other is known if it is a caller's
abbrev pub plain_registers : {Rule Registers : Type 0} → Result (UnwindResult Rule) UnwindFailure → WholeRegs Registers → WholeRegs Registers
plain_registers (Ok (ExecRule rule)) registers = registers
plain_registers (Ok (Uncacheable to)) registers = forgotten registers.regs
plain_registers (Err why) registers = registers

-- a row was found, or none
abbrev pub Shows : {Rules : Type 0} → Option (FoundRow Rules) → Option rows.FoundRow → Type 0
Shows found row = option_map row_seen found ≡ row
