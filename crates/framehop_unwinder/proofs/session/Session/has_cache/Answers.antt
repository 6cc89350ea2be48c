use Rattle.std.proofs.Common.{ap, sym, ◌∙◌}
use Rattle.framehop_unwinder.specs.ByNumber.{is_held}
use Rattle.framehop_unwinder.specs.CacheViews.{rules_of}
use Rattle.framehop_unwinder.specs.IdViews.{cache_number}
use Rattle.framehop_unwinder.specs.NumberedViews.{by_number}
use Rattle.framehop_unwinder.specs.State.{SessionState}
use Rattle.framehop_unwinder.proofs.Sessions.{held-mapped}
use Rattle.framehop_unwinder.proofs.session.Session.has_cache.Goals as goal

pub returns : goal.returns
returns g c =
    let n = cache_number c.args.cache in
    c.holds.ensures ∙ sym (held-mapped rules_of (by_number c.self.inside.caches) n) ∙ ap (λ (s : SessionState g.row.A-UnwindData.Denot g.row.A-UnwindRule.Denot). is_held s.caches n) c.self.view_is
