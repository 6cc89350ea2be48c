-- The moves of a sample's walk, and how it ends.
use Rattle.std.specs.Prelude.{ℕ, if◌then◌else◌, List, Option, Some, None, Result, Ok, Err}
use Rattle.framehop_loads.specs.UnwindData.{UnwindData}
use Rattle.framehop_registers.specs.Callback.{Words}
use Rattle.framehop_registers.specs.declared.error.Error.{Error}
use Rattle.framehop_registers.specs.declared.error.Error.TheVariants.{CouldNotReadStack}
use Rattle.framehop_unwinder.specs.Frames.{Frame}
use Rattle.framehop_unwinder.specs.IdViews.{modules_by}
use Rattle.framehop_unwinder.specs.Judge.{judge}
use Rattle.framehop_unwinder.specs.Modules.{Loaded}
use Rattle.framehop_unwinder.specs.State.{SessionState}
use Rattle.framehop_unwinder.specs.Walk.{Move, Walk, move}
use Rattle.framehop_unwinder.specs.WalkViews.{walk_from, walk_of}
use Rattle.framehop_unwinder.specs.declared.ids.UnwinderId.{UnwinderId}
use Rattle.framehop_unwinder.specs.declared.iterator.StackWalk.{StackWalk}
use Rattle.sample_stacks.specs.SampleMeanings.{SampleMeanings}
use Rattle.sample_stacks.specs.StackCopies.{copied_words, is_behind}
use Rattle.sample_stacks.specs.declared.arch.SampleStart.{SampleStart}
use Rattle.sample_stacks.specs.declared.stack_copy.StackCopy.{StackCopy}
use Rattle.sample_stacks.specs.declared.walks.WalkEnd.{WalkEnd}
use Rattle.sample_stacks.specs.declared.walks.WalkEnd.TheVariants.{Broken, Complete, Truncated}

-- What a walk has next: a frame, or its end.
pub data Next : Type 0 where
  Reaches : Frame → Next
  Ends : WalkEnd → Next

-- how a walk ends at an error: a word behind the copied part of the stack cuts it off
abbrev pub end_of : ℕ → Error → WalkEnd
end_of start (CouldNotReadStack address) = if is_behind start address then Truncated else Broken
end_of start _ = Broken

-- what is next if a move returned this
abbrev pub next_of : ℕ → Result (Option Frame) Error → Next
next_of start (Ok (Some frame)) = Reaches frame
next_of start (Ok None) = Ends Complete
next_of start (Err error) = Ends (end_of start error)

-- a move of a walk by the judge, over these modules and words
abbrev pub moved_by : {Rule Registers : Type 0} → SampleMeanings Rule Registers → List (Loaded UnwindData) → Words → Walk Registers
    → Move Registers
moved_by samples modules words walk = move (judge samples.steps modules) words walk

-- a move of a walk over the frames of an unwinder of a session, over the copied part of a stack
abbrev pub moved_in : {Rule Registers : Type 0} → SampleMeanings Rule Registers → SessionState UnwindData Rule → UnwinderId → StackCopy
    → Walk Registers → Move Registers
moved_in samples session unwinder copy walk = moved_by samples (modules_by session unwinder) (copied_words copy) walk

-- ---- behind signals

-- where a signal interrupted the thread, if a handler returns to the frame at an address, which has these registers, by the code from that
-- address on: there has to be what the kernel pushes
abbrev pub interrupted_at : {Rule Registers : Type 0} → SampleMeanings Rule Registers → StackCopy → (ℕ → List ℕ) → ℕ → Registers
    → Option (SampleStart Registers)
interrupted_at samples copy code address registers =
    let words = copied_words copy in
    if samples.has_context words registers then samples.interrupted words (code address) registers else None

-- a walk, or one that begins anew
abbrev pub begun_or : {Registers : Type 0} → Walk Registers → Option (SampleStart Registers) → Walk Registers
begun_or walk None = walk
begun_or walk (Some start) = walk_from start.instruction_pointer start.registers

-- A walk that is at what came next, and then goes on: where a signal interrupted the thread, if a handler returns to the frame.
abbrev pub resumed : {Registers : Type 0} → (ℕ → Registers → Option (SampleStart Registers)) → Next → Walk Registers → Walk Registers
resumed interrupted (Reaches frame) walk = begun_or walk (interrupted frame.address walk.registers)
resumed interrupted (Ends end) walk = walk

-- a move, and where the walk goes on, over the part of a stack that begins at an address
abbrev pub advanced : {Registers : Type 0} → ℕ → (ℕ → Registers → Option (SampleStart Registers)) → Move Registers → Move Registers
advanced start interrupted made =
    record { answer = made.answer; walk = resumed interrupted (next_of start made.answer) made.walk }

-- a move by the judge, over these modules, the words of the copy and the code of the process, and where the walk goes on
abbrev pub advanced_by : {Rule Registers : Type 0} → SampleMeanings Rule Registers → List (Loaded UnwindData) → StackCopy → (ℕ → List ℕ)
    → Walk Registers → Move Registers
advanced_by samples modules copy code walk =
    advanced copy.start (interrupted_at samples copy code) (moved_by samples modules (copied_words copy) walk)

-- the same over the frames of an unwinder of a session
abbrev pub advanced_in : {Rule Registers : Type 0} → SampleMeanings Rule Registers → SessionState UnwindData Rule → UnwinderId → StackCopy
    → (ℕ → List ℕ) → StackWalk Registers → Move Registers
advanced_in samples session unwinder copy code walk = advanced_by samples (modules_by session unwinder) copy code (walk_of walk)
