-- Frames by their code addresses.
use Rattle.std.specs.Prelude.{ℕ, ◌-◌, Bool, true, false, if◌then◌else◌}
use Rattle.framehop_registers.specs.FrameAddress.{address_of}
use Rattle.framehop_registers.specs.declared.code_address.FrameAddress.{FrameAddress}
use Rattle.framehop_registers.specs.declared.code_address.FrameAddress.TheVariants.{InstructionPointer, ReturnAddress}

-- A frame: its code address, and whether it is the first. The first frame's is the instruction pointer, that of every other
-- frame is a return address.
pub record Frame : Type 0 where
  pub address : ℕ
  pub is_first : Bool

-- the frame of an instruction pointer, and that of a return address
abbrev pub first_frame : ℕ → Frame
first_frame pc = record { address = pc; is_first = true }

-- a later frame, at a caller's return address
abbrev pub later_frame : ℕ → Frame
later_frame return_address = record { address = return_address; is_first = false }

-- the frame that an address of a frame says
abbrev pub frame_of : FrameAddress → Frame
frame_of (InstructionPointer address) = first_frame address
frame_of (ReturnAddress address) = later_frame (address_of (ReturnAddress address))

-- the address that a frame is looked up by: a return address is past the call, the byte before it is in the call
abbrev pub lookup_address : Frame → ℕ
lookup_address frame = if frame.is_first then frame.address else frame.address - 1
