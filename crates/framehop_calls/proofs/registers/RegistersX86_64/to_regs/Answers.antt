use Rattle.std.proofs.Common.{◌∙◌, ℕ, List, get_or, ap}
use Rattle.framehop_registers.specs.Registers.{with_register}
use Rattle.framehop_registers.specs.declared.x86_64.unwindregs.Reg.TheVariants.{RAX, RDX, RCX, RBX, RSI, RDI, R8, R9, R10, R11, R12, R13, R14, R15}
use Rattle.framehop_registers.specs.declared.x86_64.unwindregs.UnwindRegsX86_64.{UnwindRegsX86_64}
use Rattle.framehop_calls.proofs.RegisterLists.{all_places}
use Rattle.framehop_calls.proofs.registers.RegistersX86_64.to_regs.Goals as goal

pub returns : goal.returns
returns c =
    let registers = c.args.self.now in
    let at : ℕ → ℕ = λ i. get_or registers.general i 0 in
    let with_list : List ℕ → UnwindRegsX86_64 = λ xs. record { ip = registers.ip; regs = xs } in
    (c.set-14.ensures ∙ ap (λ r. with_register r R15 (at 15)) (c.set-13.ensures ∙ ap (λ r. with_register r R14 (at 14)) (c.set-12.ensures ∙ ap (λ r. with_register r R13 (at 13)) (c.set-11.ensures ∙ ap (λ r. with_register r R12 (at 12)) (c.set-10.ensures ∙ ap (λ r. with_register r R11 (at 11)) (c.set-9.ensures ∙ ap (λ r. with_register r R10 (at 10)) (c.set-8.ensures ∙ ap (λ r. with_register r R9 (at 9)) (c.set-7.ensures ∙ ap (λ r. with_register r R8 (at 8)) (c.set-6.ensures ∙ ap (λ r. with_register r RDI (at 5)) (c.set-5.ensures ∙ ap (λ r. with_register r RSI (at 4)) (c.set-4.ensures ∙ ap (λ r. with_register r RBX (at 3)) (c.set-3.ensures ∙ ap (λ r. with_register r RCX (at 2)) (c.set-2.ensures ∙ ap (λ r. with_register r RDX (at 1)) (c.set.ensures ∙ ap (λ r. with_register r RAX (at 0)) c.new-regs.ensures))))))))))))))
    ∙ ap with_list (all_places 16 registers.general c.has_all.ensures)
