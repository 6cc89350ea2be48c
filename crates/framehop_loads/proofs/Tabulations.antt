-- Tables of the rules that a module's call frames say.
use Rattle.std.proofs.Common.{◌≡◌, ℕ, Option, Result, subst}
use Rattle.std.specs.Prelude.{IfOk}
use Rattle.dwarf_constants.specs.declared.common.Vendor.{Vendor}
use Rattle.dwarf_frame_rows.specs.Effects.{Limits}
use Rattle.dwarf_frame_rows.specs.FrameSection.{FrameSection}
use Rattle.dwarf_frame_rows.specs.Row.{Row}
use Rattle.framehop_rows.specs.RowMeanings.{RowMeanings}
use Rattle.framehop_tables.specs.Covered.{tabulated}
use Rattle.framehop_tables.specs.RuleTables.{IsTableOf}
use Rattle.framehop_tables.specs.declared.rule_table.RuleTable.{RuleTable}

-- a table of a section with a vendor that is the same
pub made-as : {A Rule Registers Kept E : Type 0} (m : RowMeanings Rule Registers) (rule_of : Row ℕ → Option Rule) (result : Result (RuleTable A Registers Rule Kept) E) (limits : Limits) (vendor too : Vendor)
    (base : ℕ) (one other : FrameSection) → vendor ≡ too → one ≡ other
    → IfOk result (λ table. IsTableOf (tabulated m rule_of limits vendor) table base one) → IfOk result (λ table. IsTableOf (tabulated m rule_of limits too) table base other)
made-as m rule_of result limits vendor too base one other alike equal made =
    subst (λ (v : Vendor). IfOk result (λ table. IsTableOf (tabulated m rule_of limits v) table base other)) alike
    (subst (λ (s : FrameSection). IfOk result (λ table. IsTableOf (tabulated m rule_of limits vendor) table base s)) equal made)
