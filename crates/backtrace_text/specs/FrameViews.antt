-- Frames of the code, as contracts see them.
use Rattle.std.specs.Prelude.{map, option_map}
use Rattle.backtrace_text.specs.Frames as seen
use Rattle.backtrace_text.specs.declared.frames.CodeLocation.{CodeLocation}
use Rattle.backtrace_text.specs.declared.frames.CodeLocation.TheVariants.{Code, SignalTrampoline}
use Rattle.backtrace_text.specs.declared.frames.NamedOffset.{NamedOffset}
use Rattle.backtrace_text.specs.declared.frames.RegisterValue.{RegisterValue}
use Rattle.backtrace_text.specs.declared.frames.ShownFrame.{ShownFrame}

-- an offset from the start of what has a name
abbrev pub offset_view : NamedOffset → seen.Offset
offset_view place = record { name = place.name.now; offset = place.offset }

-- where the code of a frame is
abbrev pub location_view : CodeLocation → seen.Location
location_view (Code address function file) = seen.Code address (option_map offset_view function) (option_map offset_view file)
location_view SignalTrampoline = seen.SignalTrampoline

-- a register with its value
abbrev pub register_view : RegisterValue → seen.Register
register_view register = record { name = register.name.now; value = register.value }

-- a frame
abbrev pub frame_view : ShownFrame → seen.Frame
frame_view frame = record {
  location = location_view frame.location;
  names = frame.names;
  registers = map register_view frame.registers.items;
}
