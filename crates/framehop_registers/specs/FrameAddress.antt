-- The code address of a frame.
use Rattle.std.specs.Prelude.{ℕ, ◌-◌}
use Rattle.std.specs.Int.NonZero.{non_zero_u64_get}
use Rattle.framehop_registers.specs.declared.code_address.FrameAddress.{FrameAddress}
use Rattle.framehop_registers.specs.declared.code_address.FrameAddress.TheVariants.{InstructionPointer, ReturnAddress}

-- The address itself.
abbrev pub address_of : FrameAddress → ℕ
address_of (InstructionPointer address) = address
address_of (ReturnAddress address) = non_zero_u64_get address

-- The address to look up by: a return address counts from the byte before it, inside the call.
abbrev pub lookup_address_of : FrameAddress → ℕ
lookup_address_of (InstructionPointer address) = address
lookup_address_of (ReturnAddress address) = non_zero_u64_get address - 1

-- It is a return address.
abbrev pub IsReturnAddress : FrameAddress → Type 0
IsReturnAddress (InstructionPointer address) = ⊥
IsReturnAddress (ReturnAddress address) = Unit {0}
