use Rattle.std.proofs.Common.{◌++◌, [], ◌∷◌, rules}
use Rattle.std.proofs.lemmas.Bool.{false≢true}
use Rattle.std.proofs.iter.Next.{Yields-more}
use Rattle.framehop_rules.specs.SequenceViews.{taken_operations}
use Rattle.framehop_rules.proofs.SequenceRules.{zip-push}
use Rattle.framehop_rules.proofs.x86_64.unwind_rule.UnwindRuleX86_64.for_sequence_of_offset_or_pop.Goals as goal

pub loop-item-preserved : goal.loop-item-preserved
loop-item-preserved g c = record {
  can = search rules;
  ends = search rules;
  converted = rw c.in_ok-push.ensures.some
      (zip-push g.T.Into.converts c.loop-item.yielded (taken_operations c.loop-item.taken) c.in-Some.item c.into.result c.loop-item.invariant.converted c.into.ensures);
}

pub returns-in_err-push : goal.returns-in_err-push
returns-in_err-push g c = rw c.from_residual.ensures (
  c.loop-item.yielded ++ c.in-Some.item ∷ [],
  taken_operations c.loop-item.taken ++ c.into.result ∷ [],
  (c.next.new.self, search (rules, Yields-more), λ some. absurd (false≢true some)),
  zip-push g.T.Into.converts c.loop-item.yielded (taken_operations c.loop-item.taken) c.in-Some.item c.into.result c.loop-item.invariant.converted c.into.ensures,
  c.in_err-push.ensures.none,
)
