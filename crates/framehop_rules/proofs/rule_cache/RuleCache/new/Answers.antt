use Rattle.std.proofs.Common.{◌≡◌, ℕ, subst}
use Rattle.std.specs.Prelude.{IfOk}
use Rattle.framehop_rules.specs.Slots.{new_kept}
use Rattle.framehop_rules.proofs.rule_cache.RuleCache.new.Goals as goal

pub returns : goal.returns
returns g c = subst (λ (slots : ℕ). IfOk c.with_slots.result (λ cache. cache ≡ new_kept slots)) c.original.ensures c.with_slots.ensures
