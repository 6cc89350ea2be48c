use Rattle.framehop_rules.proofs.CacheSlots.{no-count}
use Rattle.framehop_rules.proofs.rule_cache.SlotCount.new.Goals as goal

pub returns-clause-counted : goal.returns-clause-counted
returns-clause-counted c = (
  λ is. absurd cc,
  λ count. absurd (no-count c.args.slots c.loop-exponent.exponent c.if-slots-eq-CACHE_ENTRY_COUNT.false c.loop-exponent-test.false c.loop-exponent.invariant count),
)
