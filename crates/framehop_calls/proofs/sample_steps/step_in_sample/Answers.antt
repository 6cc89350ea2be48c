use Rattle.framehop_unwinder.specs.Frames.{frame_of}
use Rattle.framehop_unwinder.specs.IdViews.{cache_number, unwinder_number}
use Rattle.framehop_calls.proofs.Calls.{if_done, is_done, keeps_modules}
use Rattle.framehop_calls.proofs.sample_steps.step_in_sample.Goals as goal

pub unwrap-requires : goal.unwrap-requires
unwrap-requires g c = is_done _ c.step_if_held-made.result _ _ c.requires c.step_if_held-made.ensures.found.session

pub returns-clause-step : goal.returns-clause-step
returns-clause-step g c = if_done c.step_if_held-made.result c.unwrap.result _ c.unwrap.ensures c.step_if_held-made.ensures.step

pub returns-clause-asks : goal.returns-clause-asks
returns-clause-asks g c = if_done c.step_if_held-made.result c.unwrap.result _ c.unwrap.ensures c.step_if_held-made.ensures.asks

pub returns-clause-session : goal.returns-clause-session
returns-clause-session g c =
    keeps_modules g.A.ModuleUnwinding.meanings c.unwrap.result (frame_of c.args.address) (unwinder_number c.args.unwinder)
    (cache_number c.args.cache) c.args.session.now c.step_if_held-made.new.session
    (if_done c.step_if_held-made.result c.unwrap.result _ c.unwrap.ensures c.step_if_held-made.ensures.caches)

pub returns-clause-caches : goal.returns-clause-caches
returns-clause-caches g c = if_done c.step_if_held-made.result c.unwrap.result _ c.unwrap.ensures c.step_if_held-made.ensures.caches

pub returns-clause-memory : goal.returns-clause-memory
returns-clause-memory g c = if_done c.step_if_held-made.result c.unwrap.result _ c.unwrap.ensures c.step_if_held-made.ensures.memory
