-- A truthful header has no line, if its table has a row.
use Rattle.std.proofs.Common.{◌≡◌, ◌↔◌, ℕ, zero, suc, ◌+◌, ◌-◌, ◌<◌, ◌^◌, true, false, List, [], ◌∷◌, map, Some, Ok, refl, sym, ap, subst, ◌∙◌, arith, inl, inr}
use Rattle.std.specs.Prelude.{◌==◌, nat_le, nat_lt}
use Rattle.std.specs.List.{Contains}
use Rattle.std.specs.List.Sorted.{IsStrictlyIncreasing}
use Rattle.std.proofs.lemmas.Bool.Decides.{nat_tests}
use Rattle.std.proofs.lemmas.List.Sorted.{Contains-permutation, IsPermutation-sym}
use Rattle.list_laws.proofs.Laws.{by_case}
use Rattle.dwarf_readers.specs.Stretch.{◌>>=◌}
use Rattle.dwarf_frame_rows.specs.EncodedPointer.{direct_address, pointer_at}
use Rattle.dwarf_frame_rows.specs.FrameSection.{FrameSection}
use Rattle.dwarf_frame_rows.specs.declared.base_addresses.BaseAddresses.{BaseAddresses}
use Rattle.dwarf_frame_rows.specs.declared.pointer.Pointer.TheVariants.{Direct}
use Rattle.dwarf_frame_entries.specs.Entries.{Fde}
use Rattle.dwarf_frame_entries.specs.SectionFdes.{whole_fdes}
use Rattle.dwarf_call_frames.specs.Halving.{TableRow, row_with_start}
use Rattle.dwarf_call_frames.specs.Header.{Header}
use Rattle.dwarf_call_frames.specs.HeaderTable.{HeaderTable, after_rows, header_table, pointer_size, row_at_index, rows_between, rows_by_index}
use Rattle.dwarf_call_frames.specs.Truthful.{IsSound, IsTruthful, row_of_fde}
use Rattle.backtrace_lint.specs.HeaderLines.{header_text, rows_text}
use Rattle.backtrace_lint.specs.HeaderTables.{is_named, located_fdes, rowless_fdes, start_at, start_named, unordered_from, unordered_rows, untrue_from}
use Rattle.backtrace_lint.specs.Lines.{Place}
use Rattle.backtrace_lint.specs.declared.header_tables.HeaderRow.{HeaderRow}
use Rattle.backtrace_lint.specs.declared.header_tables.LocatedFde.{LocatedFde}
use Rattle.backtrace_lint.specs.Headers.{header_name, header_rows, row_read, rows_if_read, rows_if_there, rows_within, section_start, with_row, rows_after}
use Rattle.backtrace_lint.specs.ListedFdes.{listed_fdes}
use Rattle.backtrace_lint.specs.TruthfulHeaders.{HasTruthfulHeader, HasTruthfulRows, HeadedSection, headed_bases, headed_frames, headed_lines}
use Rattle.backtrace_lint.proofs.Each.{each-known}
use Rattle.backtrace_lint.proofs.HeaderLines.{AreClean}
use Rattle.backtrace_lint.proofs.HeaderTables.{Leaves, pointer-leaves, table_row, then-ok}
use Rattle.backtrace_lint.proofs.Members.{first-member, later-member, member-cases}
use Rattle.backtrace_lint.proofs.NamedFdes.{locate, located-whole}
use Rattle.backtrace_lint.proofs.TruthfulHeaders.{same-fde, truthful-rows}

-- ---- rows by index are those that are read one by one

module _ (limit size : ℕ) (t : HeaderTable) (has : pointer_size t.encoding ≡ Ok size) where
  row-there : (index : ℕ) (row : HeaderRow) → index < t.count → row_at_index limit size t index ≡ table_row row → row_read limit index t ≡ Ok (Some row)
  row-there index row less is =
      let before = then-ok (after_rows limit size index t.bytes) (λ s. pointer_at t.origins t.encoding s >>= λ start. direct_address start.0) row.start (ap (λ (r : TableRow). r.start) is) in
      let s = before.0 in
      let after = before.1.0 in
      let first = then-ok (pointer_at t.origins t.encoding s) (λ start. direct_address start.0) row.start before.1.1 in
      let start = first.1.0 in
      let starts = first.1.1 in
      let leaves = each-known (Leaves size s) (pointer_at t.origins t.encoding s) first.0 (pointer-leaves t.origins t.encoding size s has) start in
      let targets = ap (λ (r : TableRow). r.target) is in
      let second = then-ok (pointer_at t.origins t.encoding first.0.1) (λ target. Ok target.0) (Direct row.fde) (rw (after, leaves) at targets) in
      let target = second.1.0 in
      let same : second.0.0 ≡ Direct row.fde = cc in
      let some : (t.count - index == 0) ≡ false = grind (arith, nat_tests, less) in
      rw (has, after, some, start, target, starts, same) refl

  rows-there : (n index : ℕ) (rows : List HeaderRow) → index + n ≡ t.count → rows_between (row_at_index limit size t) index n ≡ map table_row rows → rows_within limit n index t ≡ Ok rows
  rows-there zero index [] all is = refl
  rows-there zero index (row ∷ rows) all is = cc
  rows-there (suc n) index [] all is = cc
  rows-there (suc n) index (row ∷ rows) all is =
      let first : row_at_index limit size t index ≡ table_row row = cc in
      let later : rows_between (row_at_index limit size t) (suc index) n ≡ map table_row rows = cc in
      ap (λ read. rows_after index read (rows_within limit n (suc index) t)) (row-there index row (omega arith) first)
      ∙ ap (with_row row) (rows-there n (suc index) rows (omega arith) later)

-- ---- the rows of FDEs have no finding

unordered-none : (index before : ℕ) (rows : List HeaderRow) → IsStrictlyIncreasing (before ∷ map (λ row. row.start) rows) → unordered_from index before rows ≡ []
unordered-none index before [] up = refl
unordered-none index before (row ∷ rows) up =
    let first : before < row.start = up 0 (omega arith) in
    let less : nat_lt before row.start ≡ true = grind (arith, nat_tests, first) in
    let others = unordered-none (suc index) row.start rows (λ k below. let next : suc k + 1 ≡ suc (k + 1) = omega arith in let step = up (suc k) (omega arith) in rw next at step) in
    rw (less, others) refl

in-order : (rows : List HeaderRow) → IsStrictlyIncreasing (map (λ row. row.start) rows) → unordered_rows rows ≡ []
in-order [] up = refl
in-order (row ∷ rows) up = unordered-none 1 row.start rows up

-- an FDE is found at its offset, if no other is there
finds : (fdes : List Fde) (fde : Fde) → Contains fdes fde → ((other : Fde) → Contains fdes other → other.head.offset ≡ fde.head.offset → other ≡ fde)
    → start_at (map locate fdes) fde.head.offset ≡ Some fde.initial_address
finds [] fde (k, less, is) alone = absurd (omega arith)
finds (first ∷ fdes) fde has alone =
    by_case (first.head.offset == fde.head.offset)
    (λ here.
    let at : first.head.offset ≡ fde.head.offset = grind (arith, nat_tests, here) in
    rw here (ap (λ (f : Fde). Some f.initial_address) (alone first (first-member first fdes) at)))
    (λ not.
    elim (member-cases first fdes fde has) [
      | inl same ↦ (let at : first.head.offset ≡ fde.head.offset = ap (λ (f : Fde). f.head.offset) same in absurd (grind (arith, nat_tests, not, at)))
      | inr more ↦ rw not (finds fdes fde more (λ other also at. alone other (later-member first fdes other also) at))
    ])

-- the row of an FDE, in a section that starts at this address
abbrev fde_row : (start : ℕ) → Fde → HeaderRow
fde_row start fde = record { start = fde.initial_address; fde = start + fde.head.offset }

module _ (start : ℕ) where
  rows-start : (fdes : List Fde) → map (λ row. row.start) (map (fde_row start) fdes) ≡ map (λ fde. fde.initial_address) fdes
  rows-start [] = refl
  rows-start (fde ∷ fdes) = ap (λ starts. fde.initial_address ∷ starts) (rows-start fdes)

  table-rows : (fdes : List Fde) → map row_with_start (map (row_of_fde start) fdes) ≡ map table_row (map (fde_row start) fdes)
  table-rows [] = refl
  table-rows (fde ∷ fdes) = ap (λ rows. table_row (fde_row start fde) ∷ rows) (table-rows fdes)

  untrue-none : (section : FrameSection) (index : ℕ) (fdes : List Fde) → ((fde : Fde) → Contains fdes fde → Contains (whole_fdes section) fde)
      → untrue_from (start_named start (map locate (whole_fdes section))) index (map (fde_row start) fdes) ≡ []
  untrue-none section index [] there = refl
  untrue-none section index (fde ∷ fdes) there =
      let has = there fde (first-member fde fdes) in
      let within : nat_le start (start + fde.head.offset) ≡ true = grind (arith, nat_tests) in
      let offset : start + fde.head.offset - start ≡ fde.head.offset = omega arith in
      let found = finds (whole_fdes section) fde has (λ other also at. same-fde section other fde also has at) in
      let same : (fde.initial_address == fde.initial_address) ≡ true = grind (arith, nat_tests) in
      let others = untrue-none section (suc index) fdes (λ other more. there other (later-member fde fdes other more)) in
      rw (within, offset, found, same, others) refl

  is-named : (fdes : List Fde) (fde : Fde) → Contains fdes fde → is_named (map (fde_row start) fdes) (start + fde.head.offset) ≡ true
  is-named [] fde (k, less, is) = absurd (omega arith)
  is-named (first ∷ fdes) fde has =
      by_case (start + first.head.offset == start + fde.head.offset)
      (λ here. rw here refl)
      (λ not.
      elim (member-cases first fdes fde has) [
        | inl same ↦ (let at : first.head.offset ≡ fde.head.offset = ap (λ (f : Fde). f.head.offset) same in absurd (grind (arith, nat_tests, not, at)))
        | inr more ↦ rw not (is-named fdes fde more)
      ])

  rowless-none : (fdes whole : List Fde) → ((fde : Fde) → Contains whole fde → Contains fdes fde) → rowless_fdes start (map (fde_row start) fdes) (map locate whole) ≡ []
  rowless-none fdes [] there = refl
  rowless-none fdes (fde ∷ whole) there =
      let named = is-named fdes fde (there fde (first-member fde whole)) in
      let others = rowless-none fdes whole (λ other more. there other (later-member fde whole other more)) in
      rw (named, others) refl

no-text : (place : Place) (section : ℕ) (rows : List HeaderRow) (fdes : List LocatedFde) → AreClean section rows fdes → rows_text place section rows fdes ≡ []
no-text place section rows fdes clean =
    let ordered = clean.ordered in
    let true_rows = clean.true_rows in
    let all = clean.all in
    rw (ordered, true_rows, all) refl

-- ---- truthful headers

module _ (section : FrameSection) (bases : BaseAddresses) (header : Header) (t : IsTruthful section bases header) where
  are-clean : AreClean t.section_start (map (fde_row t.section_start) t.fdes) (map locate (whole_fdes section))
  are-clean =
      let start = t.section_start in
      let whole = whole_fdes section in
      record {
        ordered = in-order (map (fde_row start) t.fdes) (subst IsStrictlyIncreasing (sym (rows-start start t.fdes)) t.increase);
        true_rows = untrue-none start section 0 t.fdes (λ fde has. Contains-permutation t.fdes whole fde (IsPermutation-sym whole t.fdes t.are_all) has);
        all = rowless-none start t.fdes whole (λ fde has. Contains-permutation whole t.fdes fde t.are_all has);
      }

  are-read : section.limit ≡ 2 ^ 64 → t.section_start ≡ section_start bases → 0 < header.count → rows_if_there (2 ^ 64) bases header (direct_address header.eh_frame_ptr) ≡ Ok (map (fde_row t.section_start) t.fdes)
  are-read limit same some =
      let rows = map (fde_row t.section_start) t.fdes in
      let table = header_table bases.eh_frame_hdr header in
      let by_index : rows_by_index (2 ^ 64) t.size table ≡ map table_row rows =
      subst (λ (n : ℕ). rows_by_index n t.size table ≡ map table_row rows) limit (t.rows ∙ table-rows t.section_start t.fdes) in
      let read = rows-there (2 ^ 64) t.size table t.has_size header.count 0 rows (omega arith) by_index in
      let there = t.starts_there in
      let here : (t.section_start == section_start bases) ≡ true = grind (arith, nat_tests, same) in
      let counted : (header.count == 0) ≡ false = grind (arith, nat_tests, some) in
      rw (there, here, counted) read

-- a truthful header with a row has no line
pub truthful-lines : (h : HeadedSection) (t : HasTruthfulHeader h) → 0 < t.says.count → headed_lines h ≡ []
truthful-lines h t some =
    let section = headed_frames h in
    let bases = headed_bases h in
    let start = section_start bases in
    let truthful = t.truthful in
    let rows = map (fde_row truthful.section_start) truthful.fdes in
    let place : Place = record { file = h.name; section = header_name } in
    let both : Direct truthful.section_start ≡ Direct start = sym truthful.starts_there ∙ t.there in
    let same : truthful.section_start ≡ start = cc in
    let read : header_rows bases h.header.bytes ≡ Ok rows = ap (rows_if_read bases) t.parses ∙ are-read section bases t.says truthful refl same some in
    let clean = subst (λ (n : ℕ). AreClean n rows (map locate (whole_fdes section))) same (are-clean section bases t.says truthful) in
    let located = located_fdes (listed_fdes section) in
    ap (λ read. header_text place start read located) read
    ∙ no-text place start rows located (subst (λ (fdes : List LocatedFde). AreClean start rows fdes) (sym (located-whole section)) clean)

-- of a sound section, a header has no line if and only if it is truthful with a row
pub exactly-truthful : (h : HeadedSection) → IsSound (headed_frames h) → (headed_lines h ≡ []) ↔ HasTruthfulRows h
exactly-truthful h sound = (truthful-rows h sound, λ t. truthful-lines h t.header t.has_rows)
