use Rattle.framehop_analysis.proofs.EpilogueReadingAarch64.{never_rule}
use Rattle.framehop_analysis.proofs.aarch64.instruction_analysis.epilogue.restored_in_64_bits.Goals as goal

pub returns-then-bytes-lt-LONG-clause-none : goal.returns-then-bytes-lt-LONG-clause-none
returns-then-bytes-lt-LONG-clause-none c = never_rule c.args.bytes.now c.restored_by_short_epilogue.result c.restored_by_short_epilogue.ensures.none
