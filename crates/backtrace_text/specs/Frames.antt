-- The lines of a frame: its number, where its code is, and its registers.
use Rattle.std.specs.Prelude.{ℕ, List, [], ◌∷◌, ◌++◌, codes, decimal, Option, Some, None}
use Rattle.std.specs.List.{flat_map}
use Rattle.json_program.specs.Lines.{hexadecimal, line}
use Rattle.line_parts.specs.Parts.{cell_of, hex_of}
use Rattle.backtrace_text.specs.Names.{function_name, shown_name}
use Rattle.backtrace_text.specs.declared.names.FunctionNames.{FunctionNames}

-- A place in what has this name: a function or a file.
pub record Offset : Type 0 where
  pub name : List ℕ
  pub offset : ℕ

-- Where the code of a frame is: at an address, in a function and a file if these are known; or it is what a signal handler returns to.
pub data Location : Type 0 where
  Code : (address : ℕ) → (function file : Option Offset) → Location
  SignalTrampoline : Location

-- A register by its name.
pub record Register : Type 0 where
  pub name : List ℕ
  pub value : ℕ

-- A frame, with how the name of its function is shown, and the registers that are shown.
pub record Frame : Type 0 where
  pub location : Location
  pub names : FunctionNames
  pub registers : List Register

-- an address, in 16 digits
abbrev pub address_text : ℕ → List ℕ
address_text address = codes "0x" ++ hex_of 16 address

-- how far something is behind a start
abbrev pub distance_text : ℕ → List ℕ
distance_text offset = codes "+" ++ hexadecimal offset

-- a name, and how far behind its start
abbrev pub offset_text : Offset → List ℕ
offset_text place = shown_name place.name ++ distance_text place.offset

-- a function, or two question marks if none is known
abbrev pub function_text : FunctionNames → Option Offset → List ℕ
function_text names None = codes "??"
function_text names (Some function) = shown_name (function_name names function.name) ++ distance_text function.offset

-- a file, if one is known
abbrev pub file_text : Option Offset → List ℕ
file_text None = []
file_text (Some file) = codes " from " ++ offset_text file

-- where the code of a frame is
abbrev pub location_text : FunctionNames → Location → List ℕ
location_text names (Code address function file) =
    address_text address ++ codes " in " ++ function_text names function ++ file_text file
location_text names SignalTrampoline = codes "<signal handler called>"

-- the number of a frame, in a cell for two digits
abbrev pub number_text : ℕ → List ℕ
number_text number = codes "#" ++ cell_of 2 (decimal number)

-- a register, after a space
abbrev pub register_text : Register → List ℕ
register_text register = codes " " ++ register.name ++ codes " " ++ address_text register.value

-- a line of registers, behind three spaces more, if there is one
abbrev pub registers_text : List Register → List ℕ
registers_text [] = []
registers_text (register ∷ registers) = line (codes "   " ++ flat_map register_text (register ∷ registers))

-- the lines of a frame of this number
abbrev pub frame_text : ℕ → Frame → List ℕ
frame_text number frame = line (number_text number ++ location_text frame.names frame.location) ++ registers_text frame.registers
