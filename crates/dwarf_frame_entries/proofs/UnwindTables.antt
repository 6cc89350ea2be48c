-- A call that gave a row took a step.
use Rattle.std.proofs.Common.{◌≡◌, ℕ, Bool, true, false, cond, Option, Some, None, option_map, ap, ◌∙◌}
use Rattle.std.specs.Prelude.{OnSome}
use Rattle.std.specs.Bool.{OnTrue}
use Rattle.std.specs.Borrow.{Bor}
use Rattle.dwarf_frame_rows.specs.declared.row.UnwindTableRow.{UnwindTableRow}
use Rattle.dwarf_frame_rows.specs.Row.{Row}
use Rattle.dwarf_frame_instructions.specs.Execution.{row_in}

-- fewer steps are left if a row was given
pub gave_one : {O L : Type 0} (number : O → ℕ) (result : Option (Bor (UnwindTableRow O L))) (more given : Bool) (row : Row ℕ) (Falls : Type 0)
    → given ≡ more → option_map (λ row. row_in number row.now) result ≡ cond given (Some row) None → OnTrue more Falls → OnSome result Falls
gave_one number None more given row Falls is shown falls = tt
gave_one number (Some one) true given row Falls is shown falls = falls
gave_one number (Some one) false given row Falls is shown falls =
    let none : ◌≡◌ {A = Option (Row ℕ)} (Some (row_in number one.now)) None = shown ∙ ap (λ b. cond b (Some row) None) is in cc
