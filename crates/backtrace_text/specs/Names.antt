-- How names of functions and files are shown, which may be any bytes.
use Rattle.std.specs.Prelude.{ℕ, ◌==◌, ◌&&◌, Bool, not, nat_le, if◌then◌else◌, List, [], ◌∷◌, ◌++◌, codes, unwrap_or}
use Rattle.std.specs.List.{flat_map}
use Rattle.line_parts.specs.Parts.{hex_of}
use Rattle.symbol_names.specs.Names.{text_of}
use Rattle.backtrace_text.specs.declared.names.FunctionNames.{FunctionNames}
use Rattle.backtrace_text.specs.declared.names.FunctionNames.TheVariants.{Demangled, Raw}

-- a byte is shown as it is if it is printable ASCII, from the space to the tilde, and no backslash
abbrev pub is_shown_as_it_is : ℕ → Bool
is_shown_as_it_is byte = nat_le 32 byte && nat_le byte 126 && not (byte == 92)

-- any other byte is shown as a backslash, an x and two hexadecimal digits
abbrev pub shown_byte : ℕ → List ℕ
shown_byte byte = if is_shown_as_it_is byte then byte ∷ [] else (92 ∷ codes "x") ++ hex_of 2 byte

-- a name, byte by byte
abbrev pub shown_name : List ℕ → List ℕ
shown_name name = flat_map shown_byte name

-- the name of a function that a symbol has: as it is written in programs if it is mangled, or as the symbol has it
abbrev pub function_name : FunctionNames → List ℕ → List ℕ
function_name Raw name = name
function_name Demangled name = unwrap_or (text_of name) name
