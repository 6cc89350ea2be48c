-- The position of an iterator over frames, and its answers, as contracts see them.
use Rattle.std.specs.Prelude.{ℕ, ◌≡◌, false, Option, Result, Ok, Err, option_map}
use Rattle.framehop_registers.specs.Callback.{OverWords, Words}
use Rattle.framehop_registers.specs.declared.code_address.FrameAddress.{FrameAddress}
use Rattle.framehop_registers.specs.declared.error.Error.{Error}
use Rattle.framehop_unwinder.specs.Frames.{Frame, frame_of}
use Rattle.framehop_unwinder.specs.Trials.{wants_memory}
use Rattle.framehop_unwinder.specs.Walk.{Judgment, WalkPosition, Starts, At, Over, Walk, Move, move}
use Rattle.framehop_unwinder.specs.declared.iterator.StackWalk.{StackWalk}
use Rattle.framehop_unwinder.specs.declared.iterator.UnwindIteratorState.{UnwindIteratorState}
use Rattle.framehop_unwinder.specs.declared.iterator.UnwindIteratorState.TheVariants.{Initial, Unwinding, Done}

-- the position of an iterator in this state
abbrev pub place_of : UnwindIteratorState → WalkPosition
place_of (Initial pc) = Starts pc
place_of (Unwinding address) = At (frame_of address)
place_of Done = Over

-- an answer with the frame in place of its address
abbrev pub frame_answer : Result (Option FrameAddress) Error → Result (Option Frame) Error
frame_answer (Ok answer) = Ok (option_map frame_of answer)
frame_answer (Err error) = Err error

-- a walk that is made move by move
abbrev pub walk_of : {Registers : Type 0} → StackWalk Registers → Walk Registers
walk_of walk = record { position = place_of walk.state; registers = walk.regs }

-- a walk that has not begun
abbrev pub walk_from : {Registers : Type 0} → ℕ → Registers → Walk Registers
walk_from pc registers = record { position = Starts pc; registers = registers }

-- a walk that is at a frame
abbrev pub walk_at : {Registers : Type 0} → Frame → Registers → Walk Registers
walk_at frame registers = record { position = At frame; registers = registers }

-- unless it is out of memory, a move from one walk to another is the one that these judgments give
abbrev pub MovesAs : {Registers : Type 0} → Judgment Registers → Words → Walk Registers → Result (Option FrameAddress) Error → Walk Registers → Type 0
MovesAs judgment words old result new =
    wants_memory result ≡ false → record { answer = frame_answer result; walk = new } ≡ move judgment words old

-- a call that took the callback from one state to another moves a walk by these judgments, if a premise holds
abbrev pub MovesOverWords : {Stack Registers : Type 0} → (Stack → ℕ → Result ℕ (Unit {0}) → Stack → Type 0) → Stack → Stack → Type 0 → Judgment Registers
    → StackWalk Registers → Result (Option FrameAddress) Error → StackWalk Registers → Type 0
MovesOverWords step first last Premise judgment old result new =
    OverWords step first last (λ words. Premise → MovesAs judgment words (walk_of old) result (walk_of new))

-- an answer, and where the walk is then
abbrev pub move_made : {Registers : Type 0} → Result (Option Frame) Error → StackWalk Registers → Move Registers
move_made answer walk = record { answer = answer; walk = walk_of walk }
