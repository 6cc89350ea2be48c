use Rattle.std.proofs.Common.{◌≡◌, ◌<◌, ◌-◌, false, true}
use Rattle.framehop_unwinder.specs.IdViews.{has_unwinder, modules_by}
use Rattle.framehop_unwinder.specs.Judge.{judge}
use Rattle.framehop_unwinder.specs.WalkViews.{walk_from, walk_of}
use Rattle.example_profiler.specs.Stacks.{frames_from, words_of}
use Rattle.example_profiler.specs.declared.profiler.TheConstants.{MOST_FRAMES}
use Rattle.example_profiler.proofs.FrameLaws.{behind}
use Rattle.example_profiler.proofs.profiler.Profiler.frames.Given as goal

-- the frames that were passed and those that are left are the frames of the whole walk, and the processes are as they were
abbrev pub invariant-loop : goal.invariant-loop
invariant-loop g l =
    let judgment = judge g.A.ModuleUnwinding.meanings (modules_by l.fn.self.session l.fn.process) in
    let words = words_of l.fn.sample in
    record {
      unwinders : l.self.session.unwinders ≡ l.fn.self.session.unwinders;
      incomplete : l.frames.is_complete ≡ false;
      passed : behind l.frames.addresses.items (frames_from judgment words (MOST_FRAMES - l.counter) (walk_of l.walk))
          ≡ frames_from judgment words MOST_FRAMES (walk_from l.fn.sample.ip l.fn.regs);
      there : 0 < l.counter → has_unwinder l.fn.self.session l.fn.process ≡ true;
    }
