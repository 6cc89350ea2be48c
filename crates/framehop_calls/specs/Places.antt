-- Frames and places of walks as numbers.
use Rattle.std.specs.Prelude.{ℕ, Option, Some, None, ◌==◌, if◌then◌else◌}
use Rattle.framehop_unwinder.specs.Frames.{Frame, first_frame, later_frame}
use Rattle.framehop_unwinder.specs.Walk.{WalkPosition, Starts, At, Over}

-- a frame at a return address, which is not 0
abbrev pub returned_frame : ℕ → Option Frame
returned_frame address = if address == 0 then None else Some (later_frame address)

-- the frame of a place at an address: 1 is an instruction pointer, 2 a return address
abbrev pub frame_numbered : (place address : ℕ) → Option Frame
frame_numbered place address =
    if place == 1 then Some (first_frame address) else (if place == 2 then returned_frame address else None)

-- the position of a walk by numbers: 0 is before the first frame, 1 at an instruction pointer, 2 at a return address, 3 after the last
abbrev pub position_numbered : (place address : ℕ) → Option WalkPosition
position_numbered place address =
    if place == 0 then Some (Starts address)
    else (if place == 1 then Some (At (first_frame address))
    else (if place == 2 then (if address == 0 then None else Some (At (later_frame address)))
    else (if place == 3 then Some Over else None)))
