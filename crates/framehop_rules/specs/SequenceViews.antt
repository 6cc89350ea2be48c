-- Words of private functions' contracts alone: a sequence as the code collects it.
use Rattle.std.specs.Prelude.{List, take}
use Rattle.framehop_rules.specs.Sequences.{offset_then_pops}
use Rattle.framehop_rules.specs.declared.x86_64.offset_or_pop.OffsetOrPop.{OffsetOrPop}
use Rattle.framehop_rules.specs.declared.x86_64.sequence.OffsetThenPops.{OffsetThenPops}

-- The operations that were taken.
abbrev pub taken_operations : OffsetThenPops → List OffsetOrPop
taken_operations taken = offset_then_pops taken.offset (take taken.count taken.registers)
