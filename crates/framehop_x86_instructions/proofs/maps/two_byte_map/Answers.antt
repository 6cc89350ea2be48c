use Rattle.std.proofs.Common.{◌∙◌, ap, arith, get_or}
use Rattle.framehop_x86_instructions.specs.declared.maps.TheConstants.{TWO_BYTE}
use Rattle.framehop_x86_instructions.specs.declared.operands.Operands.TheVariants.{Undefined}
use Rattle.framehop_x86_instructions.proofs.OpcodeTables.{in_two_byte}
use Rattle.framehop_x86_instructions.proofs.maps.two_byte_map.Goals as goal

pub returns : goal.returns
returns c = ap (λ n. get_or TWO_BYTE n Undefined) c.from.ensures ∙ in_two_byte c.args.opcode Undefined (omega (arith, c.ranges.opcode))
