use Rattle.framehop_histories.proofs.commands.obey.Goals as goal

pub returns-in-NewUnwinder : goal.returns-in-NewUnwinder
returns-in-NewUnwinder g c = λ words said. rw c.in-NewUnwinder.is (c.new_unwinder.ensures.obeys c.args.walks.now.items)

pub returns-in-NewCache : goal.returns-in-NewCache
returns-in-NewCache g c = λ words said. rw c.in-NewCache.is (c.new_cache.ensures.obeys c.args.walks.now.items)

pub returns-in-Load : goal.returns-in-Load
returns-in-Load g c = λ words said. rw c.in-Load.is (c.load.ensures.obeys c.args.walks.now.items)

pub returns-in-Unload : goal.returns-in-Unload
returns-in-Unload g c = λ words said. rw c.in-Unload.is (c.unload.ensures.obeys c.args.walks.now.items)

pub returns-in-Clone : goal.returns-in-Clone
returns-in-Clone g c = λ words said. rw c.in-Clone.is (c.clone_unwinder.ensures.obeys c.args.walks.now.items)

pub returns-in-Step : goal.returns-in-Step
returns-in-Step g c = λ words said. let mine = rw c.in-Step.is at said in rw c.in-Step.is (c.step.ensures.obeys.said (words c.in-Step.read_stack) mine c.args.walks.now.items)

pub returns-in-NewWalk : goal.returns-in-NewWalk
returns-in-NewWalk g c = λ words said. rw c.in-NewWalk.is (c.new_walk.ensures.obeys c.args.session.now)

pub returns-in-NextFrame : goal.returns-in-NextFrame
returns-in-NextFrame g c = λ words said. let mine = rw c.in-NextFrame.is at said in rw c.in-NextFrame.is (c.next_frame.ensures.obeys.said (words c.in-NextFrame.read_stack) mine)

pub returns-in-RemoveUnwinder : goal.returns-in-RemoveUnwinder
returns-in-RemoveUnwinder g c = λ words said. rw c.in-RemoveUnwinder.is (c.remove_unwinder.ensures.obeys c.args.walks.now.items)

pub returns-in-RemoveCache : goal.returns-in-RemoveCache
returns-in-RemoveCache g c = λ words said. rw c.in-RemoveCache.is (c.remove_cache.ensures.obeys c.args.walks.now.items)
