use Rattle.std.proofs.Common.{◌∙◌, ℕ, List, [], ◌∷◌, ap}
use Rattle.framehop_calls.proofs.RegisterLists.{all_places}
use Rattle.framehop_calls.specs.declared.registers.RegistersX86_64.{RegistersX86_64}
use Rattle.framehop_calls.proofs.registers.RegistersX86_64.of.Goals as goal

pub returns : goal.returns
returns c =
    let regs = c.args.regs.now in
    let with_list : List ℕ → RegistersX86_64 = λ xs. record { ip = regs.ip; general = xs } in
    (λ j. record { ip = c.ip.ensures j; general = c.get.ensures j ∷ c.get-2.ensures j ∷ c.get-3.ensures j ∷ c.get-4.ensures j ∷ c.get-5.ensures j ∷ c.get-6.ensures j ∷ c.get-7.ensures j ∷ c.get-8.ensures j ∷ c.get-9.ensures j ∷ c.get-10.ensures j ∷ c.get-11.ensures j ∷ c.get-12.ensures j ∷ c.get-13.ensures j ∷ c.get-14.ensures j ∷ c.get-15.ensures j ∷ c.get-16.ensures j ∷ [] })
    ∙ ap with_list (all_places 16 regs.regs c.has_all_registers.ensures)
