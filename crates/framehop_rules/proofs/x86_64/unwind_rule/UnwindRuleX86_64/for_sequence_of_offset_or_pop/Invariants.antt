use Rattle.std.specs.List.{AllZip}
use Rattle.framehop_rules.specs.SequenceViews.{taken_operations}
use Rattle.framehop_rules.proofs.x86_64.unwind_rule.UnwindRuleX86_64.for_sequence_of_offset_or_pop.Given as goal

abbrev pub invariant-loop-item : goal.invariant-loop-item
invariant-loop-item g l = record {
  can : (goal.iterator-loop-item g).can_next l.item-iterator;
  ends : (goal.iterator-loop-item g).is_finite l.item-iterator;
  converted : AllZip g.T.Into.converts l.yielded (taken_operations l.taken);
}
