-- The frames of a sample's walk.
use Rattle.std.specs.Prelude.{ℕ, zero, suc, List, [], ◌∷◌, ◌++◌}
use Rattle.framehop_loads.specs.UnwindData.{UnwindData}
use Rattle.framehop_unwinder.specs.Frames.{Frame}
use Rattle.framehop_unwinder.specs.IdViews.{modules_by}
use Rattle.framehop_unwinder.specs.Modules.{Loaded}
use Rattle.framehop_unwinder.specs.State.{SessionState}
use Rattle.framehop_unwinder.specs.Walk.{Move, Walk}
use Rattle.framehop_unwinder.specs.WalkViews.{walk_from}
use Rattle.framehop_unwinder.specs.declared.ids.UnwinderId.{UnwinderId}
use Rattle.sample_stacks.specs.SampleMeanings.{SampleMeanings}
use Rattle.sample_stacks.specs.SampleWalks.{Ends, Next, Reaches, advanced_by, next_of}
use Rattle.sample_stacks.specs.declared.arch.SampleStart.{SampleStart}
use Rattle.sample_stacks.specs.declared.frames.TheConstants.{MOST_FRAMES}
use Rattle.sample_stacks.specs.declared.stack_copy.StackCopy.{StackCopy}
use Rattle.sample_stacks.specs.declared.walks.WalkEnd.{WalkEnd}
use Rattle.sample_stacks.specs.declared.walks.WalkEnd.TheVariants.{Broken}

-- Frames from the innermost on, and how their walk ends.
pub record SampleFrames : Type 0 where
  pub frames : List Frame
  pub end : WalkEnd

-- what comes next, and then the others
abbrev pub frames_by : Next → SampleFrames → SampleFrames
frames_by (Reaches frame) others = record { frames = frame ∷ others.frames; end = others.end }
frames_by (Ends end) others = record { frames = []; end = end }

-- The frames of a walk over the part of a stack that begins at an address, move by move. A walk of more frames than these is broken.
unfoldable pub frames_from : {Registers : Type 0} → ℕ → (Walk Registers → Move Registers) → ℕ → Walk Registers → SampleFrames
frames_from start moved zero walk = record { frames = []; end = Broken }
frames_from start moved (suc left) walk =
    frames_by (next_of start (moved walk).answer) (frames_from start moved left (moved walk).walk)

-- the frames of a sample, whose walk begins here: each move is the judge's over these modules, the words of the copy and the code of the
-- process
abbrev pub frames_of : {Rule Registers : Type 0} → SampleMeanings Rule Registers → List (Loaded UnwindData) → StackCopy → (ℕ → List ℕ)
    → SampleStart Registers → SampleFrames
frames_of samples modules copy code start =
    frames_from copy.start (advanced_by samples modules copy code) MOST_FRAMES (walk_from start.instruction_pointer start.registers)

-- those by the modules of an unwinder of a session
abbrev pub frames_in : {Rule Registers : Type 0} → SampleMeanings Rule Registers → SessionState UnwindData Rule → UnwinderId → StackCopy
    → (ℕ → List ℕ) → SampleStart Registers → SampleFrames
frames_in samples session unwinder copy code start = frames_of samples (modules_by session unwinder) copy code start

-- frames behind others
abbrev pub behind : List Frame → SampleFrames → SampleFrames
behind passed others = record { frames = passed ++ others.frames; end = others.end }
