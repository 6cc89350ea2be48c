use Rattle.std.proofs.Common.{◌≡◌, ◌∙◌, List, [], sym, drop}
use Rattle.std.specs.Prelude.{Option, Some, None}
use Rattle.framehop_registers.specs.declared.x86_64.unwindregs.Reg.{Reg}
use Rattle.framehop_pe_codes.specs.Epilogs.{is_empty, pops_of}
use Rattle.framehop_pe_codes.proofs.Pops.{pops-end, pops-other, pops-cons, splits}
use Rattle.framehop_pe_codes.proofs.epilog_run.next_popped.Goals as goal

-- no registers are left at an end
none-left : (found : Option (List Reg)) (registers : List Reg) → found ≡ Some [] → found ≡ Some registers → registers ≡ []
none-left found registers end is = let both : Some [] ≡ Some registers = sym end ∙ is in cc

never : (found : Option (List Reg)) (registers : List Reg) → found ≡ None → found ≡ Some registers → registers ≡ []
never found registers none is = cc

pub returns-then-is_empty-clause-end : goal.returns-then-is_empty-clause-end
returns-then-is_empty-clause-end c = λ none registers is.
    none-left (pops_of c.args.bytes.now) registers (pops-end is_empty c.args.bytes.now (sym c.is_empty.ensures ∙ c.if-is_empty.true)) is

pub returns-in_err-register-clause-end : goal.returns-in_err-register-clause-end
returns-in_err-register-clause-end c = λ none registers is.
    never (pops_of c.args.bytes.now) registers (pops-other is_empty c.args.bytes.now (sym c.is_empty.ensures ∙ c.if-is_empty.false) (sym c.in_err-register.ensures.pop)) is

pub returns-clause-pop : goal.returns-clause-pop
returns-clause-pop c = λ registers is.
    let cons = pops-cons is_empty c.args.bytes.now c.in_ok-register.register c.in_ok-register.size (sym c.is_empty.ensures ∙ c.if-is_empty.false) (sym c.in_ok-register.ensures.pop) in
    let split = splits c.in_ok-register.register (pops_of (drop c.in_ok-register.size c.args.bytes.now)) registers (sym cons ∙ is) in
    rw c.bytes_after.ensures (record { more = split.more; left = split.left_is; is = split.all_is })
