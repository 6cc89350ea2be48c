use Rattle.std.proofs.Common.{◌∙◌, ap, arith, get_or}
use Rattle.framehop_x86_instructions.specs.declared.writes.TheConstants.{ONE_BYTE_WRITTEN}
use Rattle.framehop_x86_instructions.specs.declared.writes.Writes.TheVariants.{Unknown}
use Rattle.framehop_x86_instructions.proofs.OpcodeTables.{in_one_byte_written}
use Rattle.framehop_x86_instructions.proofs.writes.one_byte_written.Goals as goal

pub returns : goal.returns
returns c =
    ap (λ n. get_or ONE_BYTE_WRITTEN n Unknown) c.from.ensures ∙ in_one_byte_written c.args.opcode Unknown (omega (arith, c.ranges.opcode))
