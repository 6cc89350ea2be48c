use Rattle.std.proofs.Common.{◌≡◌, ◌-◌, map}
use Rattle.framehop_unwinder.specs.ByNumber.{marks}
use Rattle.framehop_unwinder.specs.Frames.{frame_of}
use Rattle.framehop_unwinder.specs.IdViews.{modules_by}
use Rattle.framehop_unwinder.specs.WalkViews.{walk_of}
use Rattle.sample_stacks.specs.SampleFrames.{behind, frames_from, frames_of}
use Rattle.sample_stacks.specs.SampleWalks.{advanced_by}
use Rattle.sample_stacks.specs.declared.frames.TheConstants.{MOST_FRAMES}
use Rattle.sample_stacks.proofs.frames.push_frames.Given as goal

-- the frames that were passed and those that are left are all of the walk's, and the session has the modules that it had
abbrev pub invariant-loop : goal.invariant-loop
invariant-loop g l =
    let samples = g.A.SampleArch.samples in
    let modules = modules_by l.fn.session l.fn.unwinder in
    let code = g.C.ProcessCode.code l.fn.code in
    record {
      unwinders : l.session.unwinders ≡ l.fn.session.unwinders;
      caches : marks l.session.caches ≡ marks l.fn.session.caches;
      passed : behind (map frame_of l.frames.items) (frames_from l.fn.copy.start (advanced_by samples modules l.fn.copy code) (MOST_FRAMES - l.counter) (walk_of l.walk))
          ≡ behind (map frame_of l.fn.frames.items) (frames_of samples modules l.fn.copy code l.fn.start);
    }
