-- How many frames a walk has, on any architecture.
use Rattle.std.specs.Prelude.{◌≡◌, ℕ, zero, suc, ◌+◌, ◌^◌, ◌<◌, ◌≤◌, Option, Some, None, Result, Ok, Err}
use Rattle.framehop_registers.specs.Callback.{Words}
use Rattle.framehop_registers.specs.declared.error.Error.{Error}
use Rattle.framehop_rules.specs.Outcome.{Answers, Caller}
use Rattle.framehop_unwinder.specs.Frames.{Frame, later_frame}
use Rattle.framehop_unwinder.specs.WalkViews.{walk_from}
use Rattle.framehop_unwinder.specs.Walk.{Judgment, WalkPosition, At, Starts, Over, Walk, move}

-- A move gives a frame.
abbrev pub IsFrame : Result (Option Frame) Error → Type 0
IsFrame (Ok (Some frame)) = Unit {0}
IsFrame (Ok None) = ⊥
IsFrame (Err error) = ⊥

-- This holds of the frame that a walk is at, if it is at one.
abbrev pub HoldsAt : {Registers : Type 0} → (Frame → Registers → Type 0) → WalkPosition → Registers → Type 0
HoldsAt Fact (At frame) registers = Fact frame registers
HoldsAt Fact (Starts pc) registers = Unit {0}
HoldsAt Fact Over registers = Unit {0}

-- Nothing is asked of a frame.
abbrev pub Anything : {Registers : Type 0} → Frame → Registers → Type 0
Anything frame registers = Unit {0}

-- Each of the next `count` moves of a walk gives a frame, and this holds of each frame that a step is made from.
abbrev pub GivesFrames : {Registers : Type 0} → Judgment Registers → Words → (Frame → Registers → Type 0) → (count : ℕ)
    → Walk Registers → Type 0
GivesFrames judgment words Made zero walk = Unit {0}
GivesFrames judgment words Made (suc count) walk =
    HoldsAt Made walk.position walk.registers × (IsFrame (move judgment words walk).answer
    × GivesFrames judgment words Made count (move judgment words walk).walk)

-- A walk has at most 2^64 + 1 frames, as long as this holds of each frame that a step is made from.
abbrev pub WalkEnds : {Registers : Type 0} → Judgment Registers → Words → (Frame → Registers → Type 0) → Walk Registers → Type 0
WalkEnds judgment words Made walk = (count : ℕ) → GivesFrames judgment words Made count walk → count ≤ 2 ^ 64 + 1

-- A stack pointer is above another, and has 64 bits.
pub record IsRaised (low high : ℕ) : Type 0 where
  pub higher : low < high
  pub fits : high < 2 ^ 64

-- Each walk has at most 2^64 + 1 frames.
abbrev pub WalksEnd : {Registers : Type 0} → Judgment Registers → Type 0
WalksEnd {Registers} judgment =
    (words : Words) (pc : ℕ) (registers : Registers) → WalkEnds judgment words Anything (walk_from pc registers)

-- Each step of a later frame that gives a caller raises the stack pointer.
abbrev pub LaterStepsRaise : {Registers : Type 0} → Judgment Registers → (sp : Registers → ℕ) → Type 0
LaterStepsRaise {Registers} judgment sp =
    (words : Words) (return_address : ℕ) (registers : Registers) (caller : Caller Registers)
    → judgment (later_frame return_address) registers words ≡ Answers caller → IsRaised (sp registers) (sp caller.registers)

-- What is known of a frame from which a step is made is known of its caller too; and the step of a later frame raises the stack
-- pointer.
pub record RaisesSp {Registers : Type 0} (judgment : Judgment Registers) (words : Words) (sp : Registers → ℕ)
    (Known Made : Frame → Registers → Type 0) : Type 0 where
  pub known : (frame : Frame) (registers : Registers) (caller : Caller Registers) → Known frame registers → Made frame registers
      → judgment frame registers words ≡ Answers caller → Known (later_frame caller.return_address) caller.registers
  pub raised : (return_address : ℕ) (registers : Registers) (caller : Caller Registers)
      → Known (later_frame return_address) registers → Made (later_frame return_address) registers
      → judgment (later_frame return_address) registers words ≡ Answers caller → IsRaised (sp registers) (sp caller.registers)
