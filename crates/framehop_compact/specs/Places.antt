-- Where in the sections of a Mach-O file an address is. Addresses are relative to the module's base.
use Rattle.std.specs.Prelude.{ℕ, ◌-◌, nat_lt, nat_le, Bool, ◌&&◌, if◌then◌else◌, List, length, slice_range, Option, Some, None, Ok, Err}
use Rattle.framehop_errors.specs.declared.compact.CompactUnwindInfoUnwinderError.TheVariants.{BadFormat}
use Rattle.framehop_compact_tables.specs.Bytes.{CompactResult}
use Rattle.framehop_compact_tables.specs.Functions.{function_for}
use Rattle.framehop_compact_tables.specs.declared.function.Function.{Function}
use Rattle.framehop_compact.specs.CompactFiles.{Code, CompactFile}
use Rattle.framehop_compact.specs.CompactResults.{Refusable}
use Rattle.framehop_compact.specs.declared.sections.Place.{Place}
use Rattle.framehop_compact.specs.declared.sections.Place.TheVariants as place

-- A range contains an address.
abbrev pub in_range : ℕ × ℕ → ℕ → Bool
in_range range address = nat_le range.0 address && nat_lt address range.1

-- By what was found in the tables.
abbrev pub place_of_found : CompactResult (Option Function) → Refusable Place
place_of_found (Ok (Some function)) = Ok (place.Function function)
place_of_found (Ok None) = Ok place.NoFunction
place_of_found (Err refusal) = Err (BadFormat refusal)

-- Where an address is. The tables don't describe the stubs.
abbrev pub place_of : CompactFile → ℕ → Refusable Place
place_of file address =
    if in_range file.stubs address then Ok place.Stubs else
    if in_range file.stub_helper address then Ok (place.StubHelper (address - file.stub_helper.0)) else
    place_of_found (function_for file.unwind_info address)

-- If it is in a function, this holds of the function.
abbrev pub IfInFunction : Place → (Function → Type 0) → Type 0
IfInFunction (place.Function function) P = P function
IfInFunction other P = Unit {0}

-- The text has a function whole.
abbrev pub has_function : Code → Function → Bool
has_function text function =
    nat_le text.start function.start_address && nat_le (function.end_address - text.start) (length text.bytes)

-- The bytes of a function, if the text has it whole.
abbrev pub function_text : Option Code → Function → Option (List ℕ)
function_text None function = None
function_text (Some text) function =
    if has_function text function
    then Some (slice_range text.bytes (function.start_address - text.start) (function.end_address - text.start))
    else None
