-- Rows are found alike by names that agree.
use Rattle.std.proofs.Common.{◌≡◌, ℕ, suc, ◌+◌, Bool, List, [], ◌∷◌, Option, Some, None, refl, ap, ◌∙◌}
use Rattle.std.specs.Prelude.{if◌then◌else◌, option_and_then}
use Rattle.std.specs.BTreeSet as tree_set
use Rattle.std.specs.List.{cons_option}
use Rattle.std.specs.Ordering.{nat_cmp}
use Rattle.backtrace_lint.specs.HeaderTables.{is_named, rowless_fdes, rowless_if, untrue_from, untrue_if}
use Rattle.backtrace_lint.specs.HeaderTableViews.{rowless_among, rowless_in}
use Rattle.backtrace_lint.specs.declared.header_tables.HeaderRow.{HeaderRow}
use Rattle.backtrace_lint.specs.declared.header_tables.LocatedFde.{LocatedFde}
use Rattle.backtrace_lint.specs.declared.header_tables.UntrueRow.{UntrueRow}

pub untrue-agree : (one other : ℕ → Option ℕ) → ((address : ℕ) → one address ≡ other address) → (index : ℕ) (rows : List HeaderRow) → untrue_from one index rows ≡ untrue_from other index rows
untrue-agree one other same index [] = refl
untrue-agree one other same index (row ∷ rows) =
    ap (λ (named : Option ℕ). cons_option (untrue_if index row named) (untrue_from one (suc index) rows)) (same row.fde)
    ∙ ap (λ (others : List UntrueRow). cons_option (untrue_if index row (other row.fde)) others) (untrue-agree one other same (suc index) rows)

pub then-agree : (one other : ℕ → Option ℕ) → ((offset : ℕ) → one offset ≡ other offset) → (offset : Option ℕ) → option_and_then one offset ≡ option_and_then other offset
then-agree one other same None = refl
then-agree one other same (Some offset) = same offset

pub rowless-agree : (named : tree_set.BTreeSet ℕ) (section : ℕ) (rows : List HeaderRow) → ((offset : ℕ) → tree_set.contains nat_cmp named offset ≡ is_named rows (section + offset)) → (fdes : List LocatedFde)
    → rowless_among named fdes ≡ rowless_fdes section rows fdes
unfolding rowless_in
rowless-agree named section rows same [] = refl
rowless-agree named section rows same (fde ∷ fdes) =
    ap (λ (has : Bool). cons_option (if has then None else Some fde) (rowless_among named fdes)) (same fde.offset)
    ∙ ap (λ (others : List LocatedFde). cons_option (rowless_if section rows fde) others) (rowless-agree named section rows same fdes)
