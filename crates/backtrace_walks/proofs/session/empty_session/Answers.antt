use Rattle.backtrace_walks.proofs.SessionLaws.{begun}
use Rattle.backtrace_walks.proofs.session.empty_session.Goals as goal

pub returns : goal.returns
returns g c =
    begun _ _ c.new-session.result c.add_unwinder.new.session c.add_cache.new.self c.new-session.ensures c.in_ok-add_unwinder.ensures c.in_ok-add_cache.ensures.ok
