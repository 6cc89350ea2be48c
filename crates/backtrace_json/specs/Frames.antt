-- A frame as a value of JSON. What isn't known, or isn't shown, is null.
use Rattle.std.specs.Prelude.{ℕ, List, [], ◌∷◌, codes, map, Option, Some, None, option_map}
use Rattle.json.specs.Json.{Json, null}
use Rattle.backtrace_text.specs.Frames.{Frame, Location, Code, SignalTrampoline, Offset, Register}
use Rattle.backtrace_text.specs.Names.{function_name}
use Rattle.backtrace_text.specs.declared.names.FunctionNames.{FunctionNames}
use Rattle.backtrace_json.specs.Values.{address_value, number_value, object_of, or_null, text_value}

-- the address of code; the code that a signal handler returns to has none
abbrev pub address_of : Location → Option ℕ
address_of (Code address function file) = Some address
address_of SignalTrampoline = None

-- the function of code
abbrev pub function_of : Location → Option Offset
function_of (Code address function file) = function
function_of SignalTrampoline = None

-- the file of code
abbrev pub file_of : Location → Option Offset
file_of (Code address function file) = file
file_of SignalTrampoline = None

-- the name of a function
abbrev pub function_value : FunctionNames → Option Offset → Json
function_value names function = or_null (option_map (λ place. text_value (function_name names place.name)) function)

-- the name of a file
abbrev pub file_value : Option Offset → Json
file_value file = or_null (option_map (λ place. text_value place.name) file)

-- how far code is behind the start of a function or a file
abbrev pub offset_value : Option Offset → Json
offset_value place = or_null (option_map (λ place. number_value place.offset) place)

-- a register by its name
abbrev pub register_member : Register → List ℕ × Json
register_member register = (register.name, address_value register.value)

-- the registers, if some are shown
abbrev pub registers_value : List Register → Json
registers_value [] = null
registers_value (register ∷ registers) = object_of (map register_member (register ∷ registers))

-- a frame, by the parts of its location
abbrev pub value_by_parts : FunctionNames → Option ℕ → (function file : Option Offset) → List Register → Json
value_by_parts names address function file registers = object_of (
    (codes "address", or_null (option_map address_value address))
    ∷ (codes "function", function_value names function)
    ∷ (codes "offset", offset_value function)
    ∷ (codes "file", file_value file)
    ∷ (codes "file_offset", offset_value file)
    ∷ (codes "registers", registers_value registers)
    ∷ [])

-- a frame
abbrev pub frame_value : Frame → Json
frame_value frame =
    value_by_parts frame.names (address_of frame.location) (function_of frame.location) (file_of frame.location) frame.registers
