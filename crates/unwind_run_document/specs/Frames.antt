-- The address of a frame and its kind, as a command states them.
use Rattle.std.specs.Prelude.{ℕ, ◌==◌, if◌then◌else◌, List, codes, bytes_eq, Option, Some, None, Ok, Err}
use Rattle.std.specs.Option.{ok_or}
use Rattle.serde_json.specs.Data.{Data}
use Rattle.json_program.specs.declared.fault.FaultName.TheVariants.{BadCommand, BadNumber}
use Rattle.unwind_run_document.specs.declared.command.FrameKind.{FrameKind}
use Rattle.unwind_run_document.specs.declared.command.FrameKind.TheVariants.{Ip, Ra}
use Rattle.json_program.specs.Faults.{Checked, both, ◌>>=◌}
use Rattle.json_program.specs.Json.{text_value, address_value, field}

-- how the address of a frame is meant
abbrev pub kind_of : List ℕ → Option FrameKind
kind_of text = if bytes_eq text (codes "ip") then Some Ip else if bytes_eq text (codes "ra") then Some Ra else None

-- a value that has to be the kind of a frame's address
abbrev pub kind_in : Data → Checked FrameKind
kind_in d = do
  text ← text_value d
  ok_or (kind_of text) BadCommand

-- the address of a frame with its kind: no return address is 0
abbrev pub checked_frame : FrameKind → ℕ → Checked (FrameKind × ℕ)
checked_frame Ip address = Ok (Ip, address)
checked_frame Ra address = if address == 0 then Err BadNumber else Ok (Ra, address)

-- the fields of a step that name its frame
abbrev pub frame_in : Data → Checked (FrameKind × ℕ)
frame_in d = do
  frame ← both (field kind_in (codes "kind") d) (field address_value (codes "address") d)
  checked_frame frame.0 frame.1
