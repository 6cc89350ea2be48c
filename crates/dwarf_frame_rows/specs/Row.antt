-- A row of the table that call frame instructions describe (DWARF 5, 6.4.1).
use Rattle.std.specs.Prelude.{◌≡◌, ℕ, ◌+◌, Bool, ◌&&◌, List, [], ◌∷◌, ◌++◌, drop, map, nat_le, nat_lt, take}
use Rattle.std.specs.FinMap.{empty}
use Rattle.dwarf_frame_rows.specs.declared.row.UnwindTableRow.{UnwindTableRow}
use Rattle.dwarf_frame_rows.specs.declared.rules.CfaRule.{CfaRule}
use Rattle.dwarf_frame_rows.specs.declared.rules.RegisterRule.{RegisterRule}
use Rattle.dwarf_frame_rows.specs.CfaRules.{first_cfa}
use Rattle.dwarf_frame_rows.specs.RuleMap.{RuleMap}

-- from its start up to its end: the rules of the CFA and of the caller's registers, and the size of the arguments that the caller
-- pushed
pub record Row (T : Type 0) : Type 0 where
  pub start : ℕ
  pub end : ℕ
  pub saved_args_size : ℕ
  pub cfa : CfaRule T
  pub rules : RuleMap (RegisterRule T)

-- a row of the code
abbrev pub row_of : {T L : Type 0} → UnwindTableRow T L → Row T
row_of row = record {
  start = row.start_address;
  end = row.end_address;
  saved_args_size = row.saved_args_size;
  cfa = row.cfa;
  rules = row.registers;
}

-- the first n of some rows
abbrev pub first_rows : {T L : Type 0} → ℕ → List (UnwindTableRow T L) → List (Row T)
first_rows n rows = map row_of (take n rows)

-- A list has the rows before an index that it had, and at the index this row.
abbrev pub FollowsRows : {T L : Type 0} → ℕ → List (UnwindTableRow T L) → List (UnwindTableRow T L) → Row T → Type 0
FollowsRows index old new row = first_rows (index + 1) new ≡ first_rows index old ++ row ∷ []

-- A list has the items before an index and behind it that it had.
pub record SameAround {X : Type 0} (index : ℕ) (old new : List X) : Type 0 where
  pub before : take index new ≡ take index old
  pub behind : drop (index + 1) new ≡ drop (index + 1) old

-- the rules of the first of some rows, or none
abbrev pub rules_of_first : {T L : Type 0} → List (UnwindTableRow T L) → RuleMap (RegisterRule T)
rules_of_first [] = empty
rules_of_first (first ∷ rows) = first.registers

-- the row before any instruction
abbrev pub first_row : {T : Type 0} → Row T
first_row = record { start = 0; end = 0; saved_args_size = 0; cfa = first_cfa; rules = empty }

-- the row holds at the address
abbrev pub holds_at : {T : Type 0} → ℕ → Row T → Bool
holds_at address row = nat_le row.start address && nat_lt address row.end

-- a row with the parts of another, but its own bounds
abbrev pub with_parts_of : {T : Type 0} → Row T → Row T → Row T
with_parts_of from row = record row { saved_args_size = from.saved_args_size; cfa = from.cfa; rules = from.rules }
