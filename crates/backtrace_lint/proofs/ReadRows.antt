-- The rows of a table, read one after the other.
use Rattle.std.proofs.Common.{◌≡◌, ℕ, suc, ◌+◌, ◌-◌, ◌<◌, List, [], ◌∷◌, ◌++◌, Option, Some, None, Result, Ok, Err, refl, sym, ap, subst, ◌∙◌, arith}
use Rattle.std.proofs.lemmas.List.{append-nil, append_assoc}
use Rattle.dwarf_constants.specs.declared.error.Error.{Error}
use Rattle.dwarf_call_frames.specs.HeaderTable.{HeaderTable}
use Rattle.backtrace_lint.specs.declared.header_tables.HeaderFault.{HeaderFault}
use Rattle.backtrace_lint.specs.declared.header_tables.HeaderFault.TheVariants.{UnreadRow}
use Rattle.backtrace_lint.specs.declared.header_tables.HeaderRow.{HeaderRow}
use Rattle.backtrace_lint.specs.HeaderViews.{before_rows}
use Rattle.backtrace_lint.specs.Headers.{row_read, rows_after, rows_of_table, rows_within, with_row}

before-more : (found : List HeaderRow) (row : HeaderRow) (others : Result (List HeaderRow) HeaderFault) → before_rows (found ++ row ∷ []) others ≡ before_rows found (with_row row others)
before-more found row (Ok rows) = ap (λ (all : List HeaderRow). Ok all) (append_assoc found (row ∷ []) rows)
before-more found row (Err fault) = refl

module _ (limit : ℕ) (t : HeaderTable) (found : List HeaderRow) (index : ℕ) (within : index < t.count)
    (so-far : before_rows found (rows_within limit (t.count - index) index t) ≡ rows_of_table limit t) where
  -- those that are left are the next row and others
  split : before_rows found (rows_after index (row_read limit index t) (rows_within limit (t.count - suc index) (suc index) t)) ≡ rows_of_table limit t
  split =
      let left : t.count - index ≡ suc (t.count - suc index) = omega (arith, within) in
      subst (λ (n : ℕ). before_rows found (rows_within limit n index t) ≡ rows_of_table limit t) left so-far

  by-read : (read : Result (Option HeaderRow) Error) → row_read limit index t ≡ read
      → before_rows found (rows_after index read (rows_within limit (t.count - suc index) (suc index) t)) ≡ rows_of_table limit t
  by-read read is =
      subst (λ (r : Result (Option HeaderRow) Error). before_rows found (rows_after index r (rows_within limit (t.count - suc index) (suc index) t)) ≡ rows_of_table limit t) is split

  pub none-read : row_read limit index t ≡ Ok None → rows_of_table limit t ≡ Ok found
  none-read is = sym (by-read (Ok None) is) ∙ ap (λ (all : List HeaderRow). Ok all) (append-nil found)

  pub error-read : (e : Error) → row_read limit index t ≡ Err e → rows_of_table limit t ≡ Err (UnreadRow index e)
  error-read e is = sym (by-read (Err e) is)

  pub row-read : (row : HeaderRow) (after : List HeaderRow) → row_read limit index t ≡ Ok (Some row) → after ≡ found ++ row ∷ []
      → before_rows after (rows_within limit (t.count - (index + 1)) (index + 1) t) ≡ rows_of_table limit t
  row-read row after is pushed =
      let next : index + 1 ≡ suc index = omega arith in
      rw (next, pushed) (before-more found row (rows_within limit (t.count - suc index) (suc index) t) ∙ by-read (Ok (Some row)) is)
