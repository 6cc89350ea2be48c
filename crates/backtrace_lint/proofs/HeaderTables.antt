-- Rows that are read one by one are those by which a table is halved.
use Rattle.std.proofs.Common.{◌≡◌, ℕ, zero, suc, ◌+◌, ◌-◌, ◌<◌, Bool, true, false, cond, List, [], ◌∷◌, length, map, Option, Some, None, Result, Ok, Err, refl, sym, ap, subst, ◌∙◌, arith}
use Rattle.std.specs.Prelude.{◌==◌, ◌||◌, nat_lt, if◌then◌else◌}
use Rattle.std.specs.Int.{w16, w32, w64, byte_len, Width}
use Rattle.std.proofs.lemmas.Bool.Decides.{nat_tests}
use Rattle.list_laws.proofs.Laws.{by_case}
use Rattle.dwarf_constants.specs.Pointer.{format_of}
use Rattle.dwarf_constants.specs.declared.error.Error.{Error}
use Rattle.dwarf_constants.specs.declared.error.Error.TheVariants.{UnknownPointerEncoding, VariableLengthSearchTable}
use Rattle.dwarf_readers.specs.Stretch.{Stretch, ◌>>=◌, behind, behind_at, number_at, signed_number_at}
use Rattle.dwarf_frame_rows.specs.EncodedPointer.{Origins, as_unsigned, direct_address, origin_of, pointer_at, value_at}
use Rattle.dwarf_frame_rows.specs.declared.pointer.Pointer.{Pointer}
use Rattle.dwarf_frame_rows.specs.declared.pointer.Pointer.TheVariants.{Direct, Indirect}
use Rattle.dwarf_call_frames.specs.Halving.{TableRow, row_with_start}
use Rattle.dwarf_call_frames.specs.HeaderTable.{HeaderTable, after_rows, first_table_row, nth_row, pointer_size, row_at, row_at_index, rows_between, without_rows}
use Rattle.backtrace_lint.specs.declared.header_tables.HeaderFault.{HeaderFault}
use Rattle.backtrace_lint.specs.declared.header_tables.HeaderRow.{HeaderRow}
use Rattle.backtrace_lint.specs.Headers.{direct_if_there, direct_row, row_read, rows_after, rows_within, with_row}
use Rattle.backtrace_lint.proofs.Each.{Each, each-any, each-err, each-known, each-ok, each-then}

-- what came before an answer
pub then-ok : {A B : Type 0} (read : Result A Error) (next : A → Result B Error) (y : B) → (read >>= next) ≡ Ok y → (x : A) × ((read ≡ Ok x) × (next x ≡ Ok y))
then-ok (Ok x) next y is = (x, (refl, is))
then-ok (Err e) next y is = cc

-- ---- a pointer of a size leaves what is behind so many bytes

abbrev pub Leaves : {A : Type 0} → ℕ → Stretch → A × Stretch → Type 0
Leaves size s read = behind_at size s ≡ Ok read.1

choose : {A : Type 0} (short : Bool) (e : Error) (value : A) (rest : Stretch) → Each (λ (read : A × Stretch). cond short (Err e) (Ok rest) ≡ Ok read.1) (cond short (Err e) (Ok (value, rest)))
choose true e value rest = each-err
choose false e value rest = each-ok refl

number-leaves : (n : ℕ) (s : Stretch) → Each (Leaves n s) (number_at n s)
number-leaves n s = choose (nat_lt (length s.bytes) n) _ _ (behind n s)

signed-leaves : (w : Width) (s : Stretch) → Each (Leaves (byte_len w) s) (signed_number_at w s >>= as_unsigned)
signed-leaves w s = each-then (choose (nat_lt (length s.bytes) (byte_len w)) _ _ (behind (byte_len w) s)) (λ read is. each-ok is)

by-format : (P : ℕ → Type 0) (format known : ℕ) → (format == known) ≡ true → P known → P format
by-format P format known is there = let same : known ≡ format = grind (arith, nat_tests) in subst P same there

-- the size of pointers of an encoding whose format is this one
abbrev sized : ℕ → ℕ → Result ℕ Error
sized encoding format =
    if format == 1 || format == 9 then Err VariableLengthSearchTable
    else if format == 2 || format == 10 then Ok 2
    else if format == 3 || format == 11 then Ok 4
    else if format == 4 || format == 12 then Ok 8
    else Err (UnknownPointerEncoding (record { 0 = encoding }))

-- what is known of the value of a pointer whose format is this one
abbrev SizedLeaves : ℕ → ℕ → ℕ → Stretch → ℕ → Type 0
SizedLeaves encoding address_size size s format = sized encoding format ≡ Ok size → Each (Leaves size s) (value_at address_size format s)

value-leaves : (encoding address_size size format : ℕ) (s : Stretch) → SizedLeaves encoding address_size size s format
value-leaves encoding address_size size format s =
    let P = SizedLeaves encoding address_size size s in
    by_case (format == 0) (λ is. by-format P format 0 is (λ h. absurd cc)) (λ is0.
    by_case (format == 1) (λ is. by-format P format 1 is (λ h. absurd cc)) (λ is1.
    by_case (format == 2) (λ is. by-format P format 2 is (λ h. of-size 2 (number_at 2 s) (number-leaves 2 s) h)) (λ is2.
    by_case (format == 3) (λ is. by-format P format 3 is (λ h. of-size 4 (number_at 4 s) (number-leaves 4 s) h)) (λ is3.
    by_case (format == 4) (λ is. by-format P format 4 is (λ h. of-size 8 (number_at 8 s) (number-leaves 8 s) h)) (λ is4.
    by_case (format == 9) (λ is. by-format P format 9 is (λ h. absurd cc)) (λ is9.
    by_case (format == 10) (λ is. by-format P format 10 is (λ h. of-size 2 (signed_number_at w16 s >>= as_unsigned) (signed-leaves w16 s) h)) (λ is10.
    by_case (format == 11) (λ is. by-format P format 11 is (λ h. of-size 4 (signed_number_at w32 s >>= as_unsigned) (signed-leaves w32 s) h)) (λ is11.
    by_case (format == 12) (λ is. by-format P format 12 is (λ h. of-size 8 (signed_number_at w64 s >>= as_unsigned) (signed-leaves w64 s) h)) (λ is12.
    λ h. rw (is0, is1, is2, is3, is4, is9, is10, is11, is12) each-err)))))))))
  where
    of-size : (n : ℕ) (read : Result (ℕ × Stretch) Error) → Each (Leaves n s) read → ◌≡◌ {A = Result ℕ Error} (Ok n) (Ok size) → Each (Leaves size s) read
    of-size n read leaves is = let same : n ≡ size = cc in subst (λ m. Each (Leaves m s) read) same leaves

pub pointer-leaves : (origins : Origins) (encoding size : ℕ) (s : Stretch) → pointer_size encoding ≡ Ok size → Each (Leaves size s) (pointer_at origins encoding s)
pointer-leaves origins encoding size s is =
    each-any (origin_of origins encoding s.offset) (λ base.
    each-then (value-leaves encoding origins.address_size size (format_of encoding) s is) (λ value leaves. each-ok leaves))

-- ---- rows

-- a row as a table has it
abbrev pub table_row : HeaderRow → TableRow
table_row row = row_with_start (row.start, Ok (Direct row.fde))

module _ (limit size index : ℕ) (t : HeaderTable) where
  -- what is known where a row is read
  record ReadRow (found : Option (Pointer × Pointer)) : Type 0 where
    s : Stretch
    after : after_rows limit size index t.bytes ≡ Ok s
    first : first_table_row (record t { count = t.count - index; bytes = s }) ≡ Ok found

  read-row : (found : Option (Pointer × Pointer)) → pointer_size t.encoding ≡ Ok size → nth_row limit index t ≡ Ok found → ReadRow found
  read-row found has is =
      let rest = then-ok (without_rows limit index t) first_table_row found is in
      let sized = then-ok (pointer_size t.encoding) (λ size. after_rows limit size index t.bytes >>= λ s. Ok (record t { count = t.count - index; bytes = s })) rest.0 rest.1.0 in
      let same : sized.0 ≡ size = let both : ◌≡◌ {A = Result ℕ Error} (Ok sized.0) (Ok size) = sym sized.1.0 ∙ has in cc in
      let after = then-ok (after_rows limit sized.0 index t.bytes) (λ s. Ok (record t { count = t.count - index; bytes = s })) rest.0 sized.1.1 in
      let there : record t { count = t.count - index; bytes = after.0 } ≡ rest.0 = cc in
      record {
        s = after.0;
        after = subst (λ n. after_rows limit n index t.bytes ≡ Ok after.0) same after.1.0;
        first = ap first_table_row there ∙ rest.1.1;
      }

  -- a direct row, by its pointers
  record DirectRow (row : HeaderRow) (pointers : Pointer × Pointer) : Type 0 where
    start : direct_address pointers.0 ≡ Ok row.start
    fde : direct_address pointers.1 ≡ Ok row.fde

  direct-of : (pointers : Pointer × Pointer) (row : HeaderRow) → direct_row pointers ≡ Ok (Some row) → DirectRow row pointers
  direct-of pointers row is =
      let start = then-ok (direct_address pointers.0) (λ start. direct_address pointers.1 >>= λ fde. Ok (Some (record { start = start; fde = fde }))) (Some row) is in
      let fde = then-ok (direct_address pointers.1) (λ fde. Ok (Some (record { start = start.0; fde = fde }))) (Some row) start.1.1 in
      let same : record { start = start.0; fde = fde.0 } ≡ row = cc in
      record {
        start = start.1.0 ∙ ap (λ (r : HeaderRow). Ok r.start) same;
        fde = fde.1.0 ∙ ap (λ (r : HeaderRow). Ok r.fde) same;
      }

  is-direct : (pointer : Pointer) (address : ℕ) → direct_address pointer ≡ Ok address → pointer ≡ Direct address
  is-direct (Direct address) other is = cc
  is-direct (Indirect address) other is = cc

  -- the row that was read is that by index
  by-index : (row : HeaderRow) → pointer_size t.encoding ≡ Ok size → row_read limit index t ≡ Ok (Some row) → row_at_index limit size t index ≡ table_row row
  by-index row has is =
      let found = then-ok (nth_row limit index t) direct_if_there (Some row) is in
      by-found row has found.0 found.1.0 found.1.1
    where
      by-pointers : (row : HeaderRow) → pointer_size t.encoding ≡ Ok size → (s : Stretch) (pointers : Pointer × Pointer) → after_rows limit size index t.bytes ≡ Ok s
          → (row_at t.origins t.encoding s >>= λ read. Ok (Some read.0)) ≡ Ok (Some pointers) → direct_row pointers ≡ Ok (Some row) → row_at_index limit size t index ≡ table_row row
      by-pointers row has s pointers after is direct =
          let read = then-ok (row_at t.origins t.encoding s) (λ read. Ok (Some read.0)) (Some pointers) is in
          let first = then-ok (pointer_at t.origins t.encoding s) (λ start. pointer_at t.origins t.encoding start.1 >>= λ target. Ok ((start.0, target.0), target.1)) read.0 read.1.0 in
          let second = then-ok (pointer_at t.origins t.encoding first.0.1) (λ target. Ok ((first.0.0, target.0), target.1)) read.0 first.1.1 in
          let same : (first.0.0, second.0.0) ≡ pointers = let one : ◌≡◌ {A = Result ((Pointer × Pointer) × Stretch) Error} (Ok ((first.0.0, second.0.0), second.0.1)) (Ok read.0) = second.1.1 in cc in
          let leaves : behind_at size s ≡ Ok first.0.1 = each-known (Leaves size s) (pointer_at t.origins t.encoding s) first.0 (pointer-leaves t.origins t.encoding size s has) first.1.0 in
          let parts = direct-of pointers row direct in
          let start : direct_address first.0.0 ≡ Ok row.start = ap (λ (p : Pointer × Pointer). direct_address p.0) same ∙ parts.start in
          let target : second.0.0 ≡ Direct row.fde = ap (λ (p : Pointer × Pointer). p.1) same ∙ is-direct pointers.1 row.fde parts.fde in
          rw (after, first.1.0, start, leaves, second.1.0, target) refl

      by-count : (row : HeaderRow) → pointer_size t.encoding ≡ Ok size → (s : Stretch) (pointers : Pointer × Pointer) → after_rows limit size index t.bytes ≡ Ok s
          → first_table_row (record t { count = t.count - index; bytes = s }) ≡ Ok (Some pointers) → direct_row pointers ≡ Ok (Some row) → row_at_index limit size t index ≡ table_row row
      by-count row has s pointers after is direct =
          by_case (t.count - index == 0)
          (λ none. let never : ◌≡◌ {A = Result (Option (Pointer × Pointer)) Error} (Ok None) (Ok (Some pointers)) = rw none at is in absurd cc)
          (λ some. by-pointers row has s pointers after (rw some at is) direct)

      by-found : (row : HeaderRow) → pointer_size t.encoding ≡ Ok size → (found : Option (Pointer × Pointer)) → nth_row limit index t ≡ Ok found → direct_if_there found ≡ Ok (Some row) → row_at_index limit size t index ≡ table_row row
      by-found row has None nth is = absurd cc
      by-found row has (Some pointers) nth is = let read = read-row (Some pointers) has nth in by-count row has read.s pointers read.after read.first is

  -- below the number of rows there is one
  none-later : pointer_size t.encoding ≡ Ok size → row_read limit index t ≡ Ok None → index < t.count → ⊥
  none-later has is less =
      let found = then-ok (nth_row limit index t) direct_if_there None is in
      by-found found.0 found.1.0 found.1.1
    where
      some : (t.count - index == 0) ≡ false
      some = grind (arith, nat_tests, less)

      by-found : (found : Option (Pointer × Pointer)) → nth_row limit index t ≡ Ok found → direct_if_there found ≡ Ok None → ⊥
      by-found None nth direct =
          let read = read-row None has nth in
          let row = then-ok (row_at t.origins t.encoding read.s) (λ row. Ok (Some row.0)) None (rw some at read.first) in
          cc
      by-found (Some pointers) nth direct =
          let start = then-ok (direct_address pointers.0) (λ start. direct_address pointers.1 >>= λ fde. Ok (Some (record { start = start; fde = fde }))) None direct in
          let fde = then-ok (direct_address pointers.1) (λ fde. Ok (Some (record { start = start.0; fde = fde }))) None start.1.1 in
          cc

-- the rows that were read are those by index
pub rows-by-index : (limit size : ℕ) (t : HeaderTable) → pointer_size t.encoding ≡ Ok size → (n index : ℕ) (rows : List HeaderRow) → rows_within limit n index t ≡ Ok rows → index + n ≡ t.count
    → rows_between (row_at_index limit size t) index n ≡ map table_row rows
rows-by-index limit size t has zero index rows is all = let none : [] ≡ rows = cc in ap (map table_row) none
rows-by-index limit size t has (suc n) index rows is all =
    by-read (row_read limit index t) refl (rows_within limit n (suc index) t) refl is (λ more left. rows-by-index limit size t has n (suc index) more left (omega arith))
  where
    by-others : (row : HeaderRow) → row_read limit index t ≡ Ok (Some row) → (others : Result (List HeaderRow) HeaderFault) → rows_within limit n (suc index) t ≡ others → with_row row others ≡ Ok rows
        → ((more : List HeaderRow) → rows_within limit n (suc index) t ≡ Ok more → rows_between (row_at_index limit size t) (suc index) n ≡ map table_row more)
        → row_at_index limit size t index ∷ rows_between (row_at_index limit size t) (suc index) n ≡ map table_row rows
    by-others row read (Ok more) left is later =
        let same : row ∷ more ≡ rows = cc in
        let first = by-index limit size index t row has read in
        let rest = later more left in
        rw (first, rest) (ap (map table_row) same)
    by-others row read (Err fault) left is later = cc

    by-read : (read : Result (Option HeaderRow) Error) → row_read limit index t ≡ read → (others : Result (List HeaderRow) HeaderFault) → rows_within limit n (suc index) t ≡ others → rows_after index read others ≡ Ok rows
        → ((more : List HeaderRow) → rows_within limit n (suc index) t ≡ Ok more → rows_between (row_at_index limit size t) (suc index) n ≡ map table_row more)
        → row_at_index limit size t index ∷ rows_between (row_at_index limit size t) (suc index) n ≡ map table_row rows
    by-read (Ok (Some row)) there others left is later = by-others row there others left is later
    by-read (Ok None) there others left is later = absurd (none-later limit size index t has there (omega arith))
    by-read (Err e) there others left is later = cc

-- a table of which a row is read has pointers of one size
pub has-size : (limit count n : ℕ) (t : HeaderTable) (rows : List HeaderRow) → count ≡ suc n → rows_within limit count 0 t ≡ Ok rows → (size : ℕ) × (pointer_size t.encoding ≡ Ok size)
has-size limit count n t rows some all = by-size (pointer_size t.encoding) refl (subst (λ (m : ℕ). rows_within limit m 0 t ≡ Ok rows) some all)
  where
    by-size : (read : Result ℕ Error) → pointer_size t.encoding ≡ read → rows_within limit (suc n) 0 t ≡ Ok rows → (size : ℕ) × (pointer_size t.encoding ≡ Ok size)
    by-size (Ok size) there is = (size, there)
    by-size (Err e) there is = let never : ◌≡◌ {A = Result (List HeaderRow) HeaderFault} (rows_after 0 (Err e) (rows_within limit n 1 t)) (Ok rows) = rw there at is in absurd cc
