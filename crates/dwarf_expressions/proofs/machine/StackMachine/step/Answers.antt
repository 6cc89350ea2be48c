use Rattle.std.proofs.Common.{◌-◌}
use Rattle.dwarf_expressions.proofs.Behind.{operation_stands}
use Rattle.dwarf_expressions.proofs.machine.StackMachine.step.Goals as goal

pub invariant_of-self-2 : goal.invariant_of-self-2
invariant_of-self-2 g c =
    let inside = c.self.inside in
    let expression = g.R.Reader.stretch inside.expression in
    let rest = g.R.Reader.stretch inside.rest in
    let left = g.R.Reader.stretch c.parse.new.bytes in
    (operation_stands inside.encoding.address_size expression rest left (rest.offset - expression.offset) c.in_ok-operation.operation c.self.invariant.0 c.in_ok-operation.ensures.read, c.self.invariant.1)
