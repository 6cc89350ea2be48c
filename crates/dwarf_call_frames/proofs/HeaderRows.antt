-- The rows of a table, by the first.
use Rattle.std.proofs.Common.{◌≡◌, ℕ, zero, suc, ◌-◌, [], ◌∷◌, Some, Result, Ok, Err, refl, arith}
use Rattle.std.specs.Prelude.{◌==◌, false, MatchOption}
use Rattle.std.specs.Iterator.{YieldsFirst}
use Rattle.std.specs.Result.{result_transpose}
use Rattle.std.proofs.lemmas.Bool.Decides.{nat_tests}
use Rattle.dwarf_constants.specs.declared.error.Error.{Error}
use Rattle.dwarf_readers.specs.Stretch.{Stretch, ◌>>=◌}
use Rattle.dwarf_frame_rows.specs.EncodedPointer.{Origins}
use Rattle.dwarf_frame_rows.specs.declared.pointer.Pointer.{Pointer}
use Rattle.dwarf_call_frames.specs.HeaderTable.{HeaderTable, after_row, first_table_row, row_alone, row_at, table_rows_from, rows_of, without_first}

module _ (origins : Origins) (encoding : ℕ) (bytes : Stretch) where
  -- so many rows from the front on
  abbrev Rows : ℕ → HeaderTable
  Rows n = record { origins = origins; encoding = encoding; count = n; bytes = bytes }

  -- a row is in front of those behind it, be it read or refused
  one-row : (n : ℕ) (read : Result ((Pointer × Pointer) × Stretch) Error)
      → MatchOption (result_transpose (read >>= λ row. Ok (Some row.0))) ((table_rows_from origins encoding (suc n) bytes ≡ []) × (table_rows_from origins encoding n (after_row origins encoding bytes read) ≡ []))
      (λ x. row_alone read ∷ table_rows_from origins encoding n (after_row origins encoding bytes read) ≡ x ∷ table_rows_from origins encoding n (after_row origins encoding bytes read))
  one-row n (Ok row) = refl
  one-row n (Err e) = refl

  rows-first-of : (n : ℕ) → YieldsFirst rows_of (Rows n) (result_transpose (first_table_row (Rows n))) (without_first (Rows n))
  unfolding rows_of
  rows-first-of zero = (refl, refl)
  rows-first-of (suc n) =
      let some : (suc n == 0) ≡ false = grind (arith, nat_tests) in
      let others : suc n - 1 ≡ n = omega arith in
      rw (some, others) (one-row n (row_at origins encoding bytes))

-- the first row is in front of the others
pub rows-first : (t : HeaderTable) → YieldsFirst rows_of t (result_transpose (first_table_row t)) (without_first t)
rows-first t = rows-first-of t.origins t.encoding t.bytes t.count
