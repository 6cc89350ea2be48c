use Rattle.framehop_rules.proofs.LastKept.{new_last, kept_last, last_keys_are, counted_by_keys, hit_there}
use Rattle.framehop_rules.proofs.rule_cache.RuleCache.slots_have_the_last.Goals as goal

pub returns-clause-new : goal.returns-clause-new
returns-clause-new g c = λ layout. new_last layout

pub returns-clause-kept : goal.returns-clause-kept
returns-clause-kept g c = λ layout kept sets entry has. kept_last layout kept sets entry.key entry.rule has

pub returns-clause-keys : goal.returns-clause-keys
returns-clause-keys g c = λ layout. last_keys_are layout

pub returns-clause-hits : goal.returns-clause-hits
returns-clause-hits g c = λ key slots rule is. hit_there key rule slots is

pub returns-clause-counts : goal.returns-clause-counts
returns-clause-counts g c = counted_by_keys
