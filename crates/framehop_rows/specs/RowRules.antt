-- The rules that say rows exactly.
use Rattle.std.specs.Prelude.{◌≡◌, refl, Option, Some, None, Result}
use Rattle.framehop_registers.specs.Callback.{Words}
use Rattle.framehop_rules.specs.Outcome.{Caller}
use Rattle.framehop_rows.specs.RowAttempt.{rule_of_row, said_or_given}
use Rattle.framehop_errors.specs.declared.dwarf.DwarfUnwinderError.{DwarfUnwinderError}

-- the rule of an attempt is the one that says the row
pub rule-said : {Rule Registers : Type 0} (caller : Registers → Words → Result (Caller Registers) DwarfUnwinderError) (said : Option Rule)
    → rule_of_row (said_or_given caller said) ≡ said
rule-said caller (Some rule) = refl
rule-said caller None = refl
