use Rattle.std.proofs.Common.{◌+◌, ◌∷◌, ◌++◌, [], length-drop, take, ap, ◌∙◌, arith}
use Rattle.std.proofs.lemmas.List.{take_more_set, drop-set-lt}
use Rattle.framehop_registers.proofs.x86_64.pop_list.PopList.push_from.Goals as goal

pub returns-clause-popped : goal.returns-clause-popped
returns-clause-popped c =
    let count = c.args.self.now.count in
    let size = length-drop count c.args.self.now.registers in
    take_more_set c.take_from-register.new.registers count c.take_from-register.result (omega arith)
    ∙ ap (λ xs. xs ++ c.take_from-register.result ∷ []) c.take_from-register.ensures.front
    ∙ ap (λ r. take count c.args.self.now.registers ++ r ∷ []) c.take_from-register.ensures.register

pub returns-clause-left : goal.returns-clause-left
returns-clause-left c =
    let count = c.args.self.now.count in
    drop-set-lt (count + 1) c.take_from-register.new.registers count c.take_from-register.result (omega arith)
    ∙ c.take_from-register.ensures.left
