use Rattle.std.proofs.Common.{ap, ◌∙◌}
use Rattle.framehop_c.specs.Caches.{counts_of}
use Rattle.framehop_c.specs.declared.caches.TellCounts.{TellCounts}
use Rattle.framehop_c.proofs.caches.framehop_stats.Goals as goal

-- without a session the counts are those that were given
pub returns-clause-none : goal.returns-clause-none
returns-clause-none c = λ without.
    let left = c.call-status.ensures.none without in
    (left.0, c.of.ensures ∙ ap counts_of (ap (λ (call : TellCounts). call.counts) left.1 ∙ c.stats.ensures))
