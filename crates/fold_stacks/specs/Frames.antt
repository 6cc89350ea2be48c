-- The frames of user code.
use Rattle.std.specs.Prelude.{ℕ, List, codes, Option, Some, None}
use Rattle.framehop_registers.specs.FrameAddress.{address_of, lookup_address_of}
use Rattle.framehop_registers.specs.declared.code_address.FrameAddress.{FrameAddress}
use Rattle.sample_stacks.specs.declared.modules.CodePlace.{CodePlace}
use Rattle.sample_stacks.specs.declared.walks.WalkEnd.{WalkEnd}
use Rattle.sample_stacks.specs.declared.walks.WalkEnd.TheVariants.{Broken, Complete, Truncated}
use Rattle.fold_stacks.specs.declared.frames.UserFrame.{UserFrame}

-- the frame at an address: its function is looked up by the address of the call, and is at this place
abbrev pub frame_of : FrameAddress → Option CodePlace → UserFrame
frame_of address place = record { address = address_of address; lookup = lookup_address_of address; place = place }

-- a frame without its place
abbrev pub without_place : UserFrame → UserFrame
without_place frame = record { address = frame.address; lookup = frame.lookup; place = None }

-- the frame at an address, without a place
abbrev pub unplaced : FrameAddress → UserFrame
unplaced address = frame_of address None

-- what a walk has in place of its outermost frame, by how it ends
abbrev pub end_text : WalkEnd → Option (List ℕ)
end_text Complete = None
end_text Truncated = Some (codes "[truncated]")
end_text Broken = Some (codes "[broken]")
