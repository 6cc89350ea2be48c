-- Offsets of tables of abbreviations, and the codes that the tables declare.
use Rattle.std.specs.Prelude.{ℕ, zero, suc, ◌+◌, ◌%◌, ◌^◌, List, [], ◌∷◌, ◌++◌, sum_by, Result, Ok, is_some, if◌then◌else◌}
use Rattle.dwarf_constants.specs.declared.error.Error.{Error}
use Rattle.dwarf_read_core.specs.AbbreviationTable.{Declaration, declaration_for, table_in}
use Rattle.dwarf_readers.specs.Stretch.{Stretch, ◌>>=◌, number_at}

-- n numbers of four bytes, one after the other, and what is left
abbrev pub words_at : ℕ → Stretch → Result (List ℕ × Stretch) Error
words_at zero s = Ok ([], s)
words_at (suc n) s = do
  words ← words_at n s
  word ← number_at 4 words.1
  Ok (words.0 ++ word.0 ∷ [], word.1)

-- how many of the codes 1 to n are declared
abbrev pub declared_up_to : ℕ → List Declaration → ℕ
declared_up_to zero ds = 0
declared_up_to (suc n) ds = declared_up_to n ds + (if is_some (declaration_for (suc n) ds) then 1 else 0)

-- the tables at these offsets, or the first error in their order
abbrev pub tables_at_offsets : List ℕ → Stretch → Result (List (List Declaration)) Error
tables_at_offsets [] section = Ok []
tables_at_offsets (offset ∷ offsets) section = do
  table ← table_in offset section
  tables ← tables_at_offsets offsets section
  Ok (table ∷ tables)

-- how many of these codes the tables at these offsets declare, over all of them, modulo 2^64
abbrev pub declared_in : List ℕ → ℕ → Stretch → Result ℕ Error
declared_in offsets codes section = do
  tables ← tables_at_offsets offsets section
  Ok (sum_by (declared_up_to codes) tables % 2 ^ 64)
