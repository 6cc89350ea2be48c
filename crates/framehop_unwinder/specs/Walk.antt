-- A walk: the instruction pointer, then one step after the other, up to the first that gives no frame.
use Rattle.std.specs.Prelude.{ℕ, Option, Some, None, Result, Ok, Err, ◌==◌, if◌then◌else◌}
use Rattle.framehop_registers.specs.Callback.{Words}
use Rattle.framehop_registers.specs.declared.error.Error.{Error}
use Rattle.framehop_registers.specs.declared.error.Error.TheVariants.{ReturnAddressIsNull}
use Rattle.framehop_rules.specs.Outcome.{Outcome, Ends, Refuses, Answers, Caller}
use Rattle.framehop_unwinder.specs.Frames.{Frame, first_frame, later_frame}

-- What is judged of a step: from a frame, its registers and the words of the stack.
abbrev pub Judgment : Type 0 → Type 0
Judgment Registers = Frame → Registers → Words → Outcome (Caller Registers)

-- Where a walk is: before its first frame, at a frame, or after the last.
pub data WalkPosition : Type 0 where
  Starts : ℕ → WalkPosition
  At : Frame → WalkPosition
  Over : WalkPosition

-- A walk: how far it has come, and the registers there.
pub record Walk (Registers : Type 0) : Type 0 where
  pub position : WalkPosition
  pub registers : Registers

-- What a move returns, and where the walk is then.
pub record Move (Registers : Type 0) : Type 0 where
  pub answer : Result (Option Frame) Error
  pub walk : Walk Registers

-- a move that returns this, to this position with these registers
abbrev pub move_to : {Registers : Type 0} → Result (Option Frame) Error → WalkPosition → Registers → Move Registers
move_to answer position registers = record { answer = answer; walk = record { position = position; registers = registers } }

-- the end of the stack ends the walk; an error leaves it where it is. A return address of 0 is an error, with the registers
-- of the caller
abbrev pub move_by : {Registers : Type 0} → Frame → Registers → Outcome (Caller Registers) → Move Registers
move_by frame registers Ends = move_to (Ok None) Over registers
move_by frame registers (Refuses error) = move_to (Err error) (At frame) registers
move_by frame registers (Answers caller) =
    if caller.return_address == 0 then move_to (Err ReturnAddressIsNull) (At frame) caller.registers
    else move_to (Ok (Some (later_frame caller.return_address))) (At (later_frame caller.return_address)) caller.registers

-- a move from a position: the first frame is the instruction pointer, and a walk that is over stays so
abbrev pub move_from : {Registers : Type 0} → Judgment Registers → Words → WalkPosition → Registers → Move Registers
move_from judgment words (Starts pc) registers = move_to (Ok (Some (first_frame pc))) (At (first_frame pc)) registers
move_from judgment words (At frame) registers = move_by frame registers (judgment frame registers words)
move_from judgment words Over registers = move_to (Ok None) Over registers

-- one move of a walk
abbrev pub move : {Registers : Type 0} → Judgment Registers → Words → Walk Registers → Move Registers
move judgment words walk = move_from judgment words walk.position walk.registers
