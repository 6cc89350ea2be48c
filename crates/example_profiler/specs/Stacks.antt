-- The frames of samples, as walks by the modules of a process find them.
use Rattle.std.specs.Prelude.{ℕ, zero, suc, ◌/◌, ◌%◌, ◌==◌, if◌then◌else◌, List, [], ◌∷◌, Bool, true, false, Option, Some, None, option_map, Result, Ok, Err, slice_get}
use Rattle.framehop_registers.specs.Callback.{Words}
use Rattle.framehop_registers.specs.declared.error.Error.{Error}
use Rattle.framehop_unwinder.specs.Attempt.{Meanings}
use Rattle.framehop_unwinder.specs.Frames.{Frame}
use Rattle.framehop_unwinder.specs.Judge.{judge}
use Rattle.framehop_unwinder.specs.Modules.{Loaded}
use Rattle.framehop_unwinder.specs.State.{SessionState}
use Rattle.framehop_unwinder.specs.Walk.{Judgment, Walk, move}
use Rattle.framehop_unwinder.specs.WalkViews.{walk_from}
use Rattle.framehop_unwinder.specs.declared.ids.UnwinderId.{UnwinderId}
use Rattle.example_profiler.specs.Processes.{modules_of}
use Rattle.example_profiler.specs.declared.process.Sample.{Sample}
use Rattle.example_profiler.specs.declared.profiler.Frames as profiler
use Rattle.example_profiler.specs.declared.profiler.TheConstants.{MOST_FRAMES}

-- the words of a sample's stack, which begins at address 0
abbrev pub words_of : Sample → Words
words_of sample at = if at % 8 == 0 then slice_get sample.stack (at / 8) else None

-- The code addresses of a stack's frames, and whether they go up to its end.
pub record FrameList : Type 0 where
  pub addresses : List ℕ
  pub is_complete : Bool

-- those that a call returned
abbrev pub frames_seen : profiler.Frames → FrameList
frames_seen frames = record { addresses = frames.addresses.items; is_complete = frames.is_complete }

-- no frame, at the end of the stack or before it
abbrev pub no_frames : Bool → FrameList
no_frames is_complete = record { addresses = []; is_complete = is_complete }

-- what a move gives, and then the other frames; without a frame it is the end of the stack, or no step is known
abbrev pub frames_by : Result (Option Frame) Error → FrameList → FrameList
frames_by (Ok (Some frame)) others = record { addresses = frame.address ∷ others.addresses; is_complete = others.is_complete }
frames_by (Ok None) others = no_frames true
frames_by (Err error) others = no_frames false

-- the frames of a walk, up to so many
unfoldable pub frames_from : {Registers : Type 0} → Judgment Registers → Words → ℕ → Walk Registers → FrameList
frames_from judgment words zero walk = no_frames false
frames_from judgment words (suc left) walk =
    let moved = move judgment words walk in
    frames_by moved.answer (frames_from judgment words left moved.walk)

-- the frames of a sample with these registers, by modules alone
abbrev pub frames_by_modules : {Data Rule Registers : Type 0} → Meanings Data Rule Registers → Sample → Registers → List (Loaded Data) → FrameList
frames_by_modules m sample registers modules = frames_from (judge m modules) (words_of sample) MOST_FRAMES (walk_from sample.ip registers)

-- the frames of a sample by the modules of the process that it was taken in, and nothing if that isn't followed
abbrev pub frames_of : {Data Rule Registers : Type 0} → Meanings Data Rule Registers → SessionState Data Rule → UnwinderId → Sample → Registers
    → Option FrameList
frames_of m session process sample registers = option_map (frames_by_modules m sample registers) (modules_of session process)
