use Rattle.framehop_analysis.proofs.Found.{first_found}
use Rattle.framehop_analysis.proofs.instruction_analysis.InstructionAnalysis.rule_from_instruction_analysis.Goals as goal

pub returns-in-Some : goal.returns-in-Some
returns-in-Some g c =
    first_found (g.Self.InstructionAnalysis.IsPrologueRule c.args.text_bytes.now c.args.pc_offset) (g.Self.InstructionAnalysis.IsEpilogueRule c.args.text_bytes.now c.args.pc_offset)
    c.rule_from_prologue_analysis.result c.in-Some.rule c.in-Some.is c.rule_from_prologue_analysis.ensures
