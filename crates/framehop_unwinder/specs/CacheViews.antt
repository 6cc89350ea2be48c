-- The rules of a cache as contracts see them.
use Rattle.framehop_rules.specs.Slots.{Kept}
use Rattle.framehop_unwinder.specs.declared.cache.Cache.{Cache}

-- a cache's rules, by slots, and its counts
abbrev pub rules_of : {Rule Context Registers : Type 0} → Cache Rule Context Registers → Kept Rule
rules_of cache = cache.rule_cache
