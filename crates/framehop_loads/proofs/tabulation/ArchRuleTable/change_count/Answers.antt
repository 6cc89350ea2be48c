use Rattle.std.proofs.Common.{subst, sym}
use Rattle.framehop_loads.specs.ArchTables.{CountsChangesOn, on_aarch64, on_x86_64}
use Rattle.framehop_loads.specs.declared.tabulation.ArchRuleTable.{ArchRuleTable}
use Rattle.framehop_loads.proofs.tabulation.ArchRuleTable.change_count.Goals as goal

pub returns-in-X86_64 : goal.returns-in-X86_64
returns-in-X86_64 c =
    let P : ArchRuleTable → Type 0 = λ table. CountsChangesOn table c.change_count.result in
    subst P (sym c.in-X86_64.is) (λ base section of. c.change_count.ensures on_x86_64 base section of)

pub returns-in-Aarch64 : goal.returns-in-Aarch64
returns-in-Aarch64 c =
    let P : ArchRuleTable → Type 0 = λ table. CountsChangesOn table c.change_count-in-Aarch64.result in
    subst P (sym c.in-Aarch64.is) (λ base section of. c.change_count-in-Aarch64.ensures on_aarch64 base section of)
