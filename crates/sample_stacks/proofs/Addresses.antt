-- The address of a frame, by what its address says.
use Rattle.std.proofs.Common.{◌≡◌, refl}
use Rattle.framehop_registers.specs.FrameAddress.{address_of}
use Rattle.framehop_registers.specs.declared.code_address.FrameAddress.{FrameAddress}
use Rattle.framehop_registers.specs.declared.code_address.FrameAddress.TheVariants.{InstructionPointer, ReturnAddress}
use Rattle.framehop_unwinder.specs.Frames.{frame_of}

pub same_address : (address : FrameAddress) → address_of address ≡ (frame_of address).address
same_address (InstructionPointer at) = refl
same_address (ReturnAddress at) = refl
