-- Steps by compact unwind info, on any architecture: by its rule in a stub, its rules in `__stub_helper`, its rule at a function's start
-- and its steps in a function.
use Rattle.std.specs.Prelude.{ℕ, ◌-◌, ◌==◌, Bool, true, false, ◌&&◌, if◌then◌else◌, List, Option, Some, None, Ok, Err}
use Rattle.framehop_errors.specs.declared.compact.CompactUnwindInfoUnwinderError.{CompactUnwindInfoUnwinderError}
use Rattle.framehop_errors.specs.declared.compact.CompactUnwindInfoUnwinderError.TheVariants.{BadFormat, AddressOutsideRange, StubFunctionCannotBeCaller}
use Rattle.framehop_compact_tables.specs.Bytes.{CompactResult}
use Rattle.framehop_compact_tables.specs.Functions.{function_for}
use Rattle.framehop_compact_tables.specs.declared.function.Function.{Function}
use Rattle.framehop_compact.specs.CompactFiles.{CompactFile}
use Rattle.framehop_compact.specs.CompactMeanings.{CompactMeanings}
use Rattle.framehop_compact.specs.CompactResults.{Refusable, CuiResult}
use Rattle.framehop_compact.specs.Places.{place_of, function_text}
use Rattle.framehop_compact.specs.declared.cui_unwind_result.CuiUnwindResult.TheVariants.{ExecRule}
use Rattle.framehop_compact.specs.declared.sections.Place.{Place}
use Rattle.framehop_compact.specs.declared.sections.Place.TheVariants as place

-- By what was found in the tables.
abbrev pub found_or_outside : ℕ → CompactResult (Option Function) → Refusable Function
found_or_outside address (Ok (Some function)) = Ok function
found_or_outside address (Ok None) = Err (AddressOutsideRange address)
found_or_outside address (Err refusal) = Err (BadFormat refusal)

-- The function of an address, if there is one.
abbrev pub found_function : List ℕ → ℕ → Refusable Function
found_function unwind_info address = found_or_outside address (function_for unwind_info address)

-- The rule in a first frame, or else the refusal.
abbrev pub first_or : {Rule : Type 0} → Bool → Rule → CompactUnwindInfoUnwinderError → CuiResult Rule
first_or true rule refusal = Ok (ExecRule rule)
first_or false rule refusal = Err refusal

-- The step in a function: at its start a first frame has the rule of a function's start.
abbrev pub step_in : {Rule : Type 0} → CompactMeanings Rule → CompactFile → ℕ → Bool → Function → CuiResult Rule
step_in m file address is_first function =
    if is_first && (address == function.start_address) then Ok (ExecRule m.start_rule)
    else m.unwound function is_first (address - function.start_address) (function_text file.text function)

-- The step by where the address is.
abbrev pub step_by_place : {Rule : Type 0} → CompactMeanings Rule → CompactFile → ℕ → Bool → Refusable Place → CuiResult Rule
step_by_place m file address is_first (Ok place.Stubs) = first_or is_first m.stub_rule StubFunctionCannotBeCaller
step_by_place m file address is_first (Ok (place.StubHelper offset)) = first_or is_first (m.helper_rule file.code_rules offset) StubFunctionCannotBeCaller
step_by_place m file address is_first (Ok place.NoFunction) = first_or is_first m.stub_rule (AddressOutsideRange address)
step_by_place m file address is_first (Ok (place.Function function)) = step_in m file address is_first function
step_by_place m file address is_first (Err refusal) = Err refusal

-- The step at an address, in a first or a later frame.
abbrev pub compact_step : {Rule : Type 0} → CompactMeanings Rule → CompactFile → ℕ → Bool → CuiResult Rule
compact_step m file address is_first = step_by_place m file address is_first (place_of file address)
