-- Results of steps by compact unwind info.
use Rattle.std.specs.Prelude.{Result, Ok, Err}
use Rattle.framehop_errors.specs.declared.compact.CompactUnwindInfoUnwinderError.{CompactUnwindInfoUnwinderError}
use Rattle.framehop_compact.specs.declared.cui_unwind_result.CuiUnwindResult.{CuiUnwindResult}
use Rattle.framehop_compact.specs.declared.cui_unwind_result.CuiUnwindResult.TheVariants.{ExecRule, NeedDwarf}

-- A value, or why there is none.
abbrev pub Refusable : Type 0 → Type 0
Refusable A = Result A CompactUnwindInfoUnwinderError

-- What the info says of a frame, or why it says nothing.
abbrev pub CuiResult : Type 0 → Type 0
CuiResult Rule = Refusable (CuiUnwindResult Rule)

-- The first part, and then the second by what the first gave.
abbrev pub then_by : {A B : Type 0} → Refusable A → (A → Refusable B) → Refusable B
then_by (Ok value) next = next value
then_by (Err refusal) next = Err refusal

-- A rule in a result can be executed.
abbrev pub HasValidCuiRule : {Rule : Type 0} → (Rule → Type 0) → CuiResult Rule → Type 0
HasValidCuiRule is_valid (Ok (ExecRule rule)) = is_valid rule
HasValidCuiRule is_valid (Ok (NeedDwarf offset)) = Unit {0}
HasValidCuiRule is_valid (Err refusal) = Unit {0}
