-- The counts of caches, as C has them.
use Rattle.framehop_rules.specs.declared.rule_cache.CacheStats.{CacheStats}
use Rattle.framehop_c.specs.declared.caches.Counts.{Counts}

-- the same counts
abbrev pub stats_of : Counts → CacheStats
stats_of counts = record {
  hit_count = counts.hit_count;
  miss_empty_slot_count = counts.miss_empty_slot_count;
  miss_wrong_modules_count = counts.miss_wrong_modules_count;
  miss_wrong_address_count = counts.miss_wrong_address_count;
}

-- the same counts, as C has them
abbrev pub counts_of : CacheStats → Counts
counts_of stats = record {
  hit_count = stats.hit_count;
  miss_empty_slot_count = stats.miss_empty_slot_count;
  miss_wrong_modules_count = stats.miss_wrong_modules_count;
  miss_wrong_address_count = stats.miss_wrong_address_count;
}
