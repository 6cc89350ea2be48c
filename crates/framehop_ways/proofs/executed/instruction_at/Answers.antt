use Rattle.std.proofs.Common.{◌∙◌, ◌+◌, ◌≤◌, ap, arith, length, take, Some, length-drop}
use Rattle.framehop_ways.specs.declared.instruction.Instruction.{Instruction}
use Rattle.framehop_ways.proofs.Reading.{read_at}
use Rattle.framehop_ways.proofs.executed.instruction_at.Goals as goal

pub returns-clause-is : goal.returns-clause-is
returns-clause-is c =
    let text = c.args.text.now in
    let size = c.in_ok-word.ensures.cases.2 in
    let within : c.args.place + 4 ≤ length text =
    omega (arith, size, ap length c.split_at.ensures.back, length-drop c.args.place text, c.if-text-place.false) in
    ap (λ (i : Instruction). Some i) c.decode.ensures
    ∙ read_at text c.in_ok-word.word.now c.args.place c.from_le_bytes.result within (c.in_ok-word.ensures.cases.0 ∙ ap (take 4) c.split_at.ensures.back) c.from_le_bytes.ensures
