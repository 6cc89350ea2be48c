use Rattle.std.proofs.Common.{List, take, sym, subst}
use Rattle.framehop_registers.specs.PopLists.{IsPopList}
use Rattle.framehop_registers.specs.declared.x86_64.unwindregs.Reg.{Reg}
use Rattle.framehop_rules.proofs.SequenceRules.{same_parts}
use Rattle.framehop_rules.proofs.x86_64.sequence.OffsetThenPops.rule.Goals as goal

pub returns-in_err-register_count : goal.returns-in_err-register_count
returns-in_err-register_count c =
    let s = c.args.self.now in
    let refused = c.in_err-register_count.ensures.number in
    rw c.from_residual.ensures (λ offset registers e pops.
    let P : List Reg → Type 0 = λ l. IsPopList l in
    refused (subst P (sym (same_parts s.offset offset (take s.count s.registers) registers e).1) pops))
