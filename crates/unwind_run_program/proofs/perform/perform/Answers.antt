use Rattle.unwind_run_program.specs.Lines.{step_line}
use Rattle.unwind_run_program.proofs.perform.perform.Goals as goal

pub returns-in_ok-unwind_context-in-Cache : goal.returns-in_ok-unwind_context-in-Cache
returns-in_ok-unwind_context-in-Cache g c = rw c.in-Cache.is (c.add_cache.ensures.output (step_line g.A.DocumentModules.forms.text))

pub returns-in-Clone : goal.returns-in-Clone
returns-in-Clone g c = rw c.in-Clone.is (c.clone_unwinder.ensures.output (step_line g.A.DocumentModules.forms.text))

pub returns-in-RemoveUnwinder : goal.returns-in-RemoveUnwinder
returns-in-RemoveUnwinder g c = rw c.in-RemoveUnwinder.is (c.remove_unwinder.ensures.output (step_line g.A.DocumentModules.forms.text))

pub returns-in-RemoveCache : goal.returns-in-RemoveCache
returns-in-RemoveCache g c = rw c.in-RemoveCache.is (c.remove_cache.ensures.output (step_line g.A.DocumentModules.forms.text))

pub returns-in-Unload : goal.returns-in-Unload
returns-in-Unload g c = rw c.in-Unload.is (c.unload.ensures.output (step_line g.A.DocumentModules.forms.text))
