use Rattle.dwarf_frame_instructions.proofs.ExpressionBytes.{reads_its_bytes}
use Rattle.dwarf_frame_instructions.proofs.expression_laws.expressions_have_their_bytes.Goals as goal

pub returns : goal.returns
returns c = reads_its_bytes
