-- The attempt at a step by what a module's data says, on any architecture.
use Rattle.std.specs.Prelude.{ℕ, Bool, Err}
use Rattle.dwarf_constants.specs.declared.common.Vendor.{Vendor}
use Rattle.dwarf_frame_rows.specs.Effects.{Limits}
use Rattle.dwarf_frame_rows.specs.Row.{Row}
use Rattle.framehop_errors.specs.declared.compact.CompactUnwindInfoUnwinderError.TheVariants.{FunctionHasNoInfo}
use Rattle.framehop_unwinder.specs.Attempt.{Attempt, Says, Evaluates, SaysNothing}
use Rattle.framehop_rows.specs.RowMeanings.{RowMeanings}
use Rattle.framehop.specs.Coverage.{attempt_by, by_known, EvaluatesExpression}
use Rattle.framehop.specs.Methods.{Method, UsesRule, UsesFde, UsesCodes, UsesNothing}
use Rattle.framehop.specs.FormatMethods.{TableMethods, method_of}
use Rattle.framehop.specs.WayAttempts.{or_way, way_after, way_before, way_or}
use Rattle.framehop_code_ways.specs.Callers.{FirstRule}
use Rattle.framehop_loads.specs.StepLimits.{StepLimits}
use Rattle.framehop_loads.specs.UnwindData.{UnwindData}

-- the attempt by a method
abbrev pub attempt_by_method : {Rule Registers : Type 0} → RowMeanings Rule Registers → StepLimits → Bool → Method Rule Registers
    → Attempt Rule Registers
attempt_by_method m limits first (UsesRule rule) = Says rule
attempt_by_method m limits first (UsesFde section address known) =
    attempt_by m first limits.values (by_known limits.rows m.vendor section address known)
attempt_by_method m limits first (UsesCodes caller) = Evaluates caller
attempt_by_method m limits first UsesNothing = SaysNothing

-- What each format of unwind data means on an architecture, call frames and other tables, and what rule the first way out of a function
-- has from a place of its code.
pub record FormatMeanings (Rule Registers : Type 0) : Type 0 where
  pub rows : RowMeanings Rule Registers
  pub tables : TableMethods Rule Registers
  pub ways : FirstRule Rule

-- an architecture by these three
abbrev pub format_meanings : {Rule Registers : Type 0} → RowMeanings Rule Registers → TableMethods Rule Registers → FirstRule Rule
    → FormatMeanings Rule Registers
format_meanings rows tables ways = record { rows = rows; tables = tables; ways = ways }

-- the attempt at a relative address by a module's tables, in a first or a later frame
abbrev pub attempt_by_tables : {Rule Registers : Type 0} → RowMeanings Rule Registers → TableMethods Rule Registers → StepLimits → UnwindData → ℕ
    → Bool → Attempt Rule Registers
attempt_by_tables rows tables limits given relative first = attempt_by_method rows limits first (method_of tables given relative first)

-- the attempt by a module's data: by a way out of the frame's function, by its tables, or by a way where these say nothing
abbrev pub attempt_by_format : {Rule Registers : Type 0} → FormatMeanings Rule Registers → StepLimits → UnwindData → ℕ → Bool
    → Attempt Rule Registers
attempt_by_format m limits given relative first =
    way_or (way_before m.ways given relative first)
    (or_way (attempt_by_tables m.rows m.tables limits given relative first) (way_after m.ways given relative first))

-- other tables that say nothing
abbrev pub no_tables : {Rule Registers : Type 0} → TableMethods Rule Registers
no_tables = record { pe = λ file relative first. UsesNothing; compact = λ file relative first. Err FunctionHasNoInfo }

-- the attempt by call frames alone: by any other format nothing is said
abbrev pub attempt : {Rule Registers : Type 0} → RowMeanings Rule Registers → StepLimits → UnwindData → ℕ → Bool → Attempt Rule Registers
attempt m limits given relative first = attempt_by_tables m no_tables limits given relative first

-- the method takes a row that evaluates an expression; `meets` says which rows do
abbrev pub EvaluatesByMethod : {Rule Registers : Type 0} → (Row ℕ → Type 0) → Limits → Vendor → Method Rule Registers → Type 0
EvaluatesByMethod meets limits vendor (UsesRule rule) = ⊥
EvaluatesByMethod meets limits vendor (UsesFde section address known) =
    EvaluatesExpression meets (by_known limits vendor section address known)
EvaluatesByMethod meets limits vendor (UsesCodes caller) = ⊥
EvaluatesByMethod meets limits vendor UsesNothing = ⊥

-- the attempt by a module's data takes such a row
abbrev pub AsksExpression : {Rule Registers : Type 0} → (Row ℕ → Type 0) → FormatMeanings Rule Registers → StepLimits → UnwindData → ℕ → Bool
    → Type 0
AsksExpression meets m limits given relative first =
    EvaluatesByMethod meets limits.rows m.rows.vendor (method_of m.tables given relative first)
