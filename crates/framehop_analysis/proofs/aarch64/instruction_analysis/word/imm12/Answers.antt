use Rattle.std.proofs.Common.{◌/◌, ◌^◌}
use Rattle.std.proofs.lemmas.Nat.{and_mask}
use Rattle.framehop_analysis.proofs.aarch64.instruction_analysis.word.imm12.Goals as goal

pub returns : goal.returns
returns c = and_mask (c.args.word / 2 ^ 10) 12
