-- A header of which no line is written is truthful, if its section is sound.
use Rattle.std.proofs.Common.{◌≡◌, ℕ, zero, suc, ◌+◌, ◌^◌, false, List, [], map, Result, Ok, Err, refl, sym, ap, subst, ◌∙◌, arith}
use Rattle.std.specs.Prelude.{◌==◌}
use Rattle.std.specs.List.{Contains}
use Rattle.std.proofs.lemmas.Bool.Decides.{nat_tests}
use Rattle.std.proofs.lemmas.List.Elements.{All-contains}
use Rattle.list_laws.proofs.Laws.{by_case}
use Rattle.dwarf_constants.specs.declared.error.Error.{Error}
use Rattle.dwarf_frame_rows.specs.EncodedPointer.{direct_address}
use Rattle.dwarf_frame_rows.specs.FrameSection.{FrameSection}
use Rattle.dwarf_frame_rows.specs.declared.base_addresses.BaseAddresses.{BaseAddresses}
use Rattle.dwarf_frame_rows.specs.declared.pointer.Pointer.{Pointer}
use Rattle.dwarf_frame_rows.specs.declared.pointer.Pointer.TheVariants.{Direct, Indirect}
use Rattle.dwarf_frame_entries.specs.Entries.{Fde, fde_from_offset}
use Rattle.dwarf_frame_entries.specs.SectionFdes.{StandsAtItsOffset, whole_fdes}
use Rattle.dwarf_frame_entries.proofs.Laws.{fdes_there}
use Rattle.dwarf_call_frames.specs.Halving.{row_with_start}
use Rattle.dwarf_call_frames.specs.Header.{Header}
use Rattle.dwarf_call_frames.specs.HeaderTable.{header_table, rows_by_index}
use Rattle.dwarf_call_frames.specs.Truthful.{IsSound, IsTruthful, row_of_fde}
use Rattle.backtrace_lint.specs.declared.header_tables.HeaderFault.{HeaderFault}
use Rattle.backtrace_lint.specs.declared.header_tables.HeaderFault.TheVariants.{NoTable, OtherSection}
use Rattle.backtrace_lint.specs.declared.header_tables.HeaderRow.{HeaderRow}
use Rattle.backtrace_lint.specs.Headers.{header_rows, parsed_header, rows_if_read, rows_if_some, rows_if_there, rows_within, section_start}
use Rattle.backtrace_lint.specs.TruthfulHeaders.{HasTruthfulRows, HeadedSection, headed_bases, headed_frames, headed_lines}
use Rattle.backtrace_lint.proofs.HeaderLines.{AreClean, clean-header}
use Rattle.backtrace_lint.proofs.HeaderTables.{has-size, rows-by-index}
use Rattle.backtrace_lint.proofs.Members.{SameMembers, same-members}
use Rattle.backtrace_lint.proofs.NamedFdes.{Ascends, all-named, all-rows, all-starts, ascending-distinct, increasing, locate, located-whole, name-all, named-at, named-members, ordered-up, rising-distinct}
use Rattle.backtrace_lint.proofs.Rising.{whole-rise}

-- two FDEs of a section at one offset are one
pub same-fde : (section : FrameSection) (one other : Fde) → Contains (whole_fdes section) one → Contains (whole_fdes section) other → one.head.offset ≡ other.head.offset → one ≡ other
same-fde section one other first second at =
    let there = fdes_there section in
    let here : fde_from_offset section one.head.offset ≡ Ok one = All-contains (StandsAtItsOffset section) (whole_fdes section) one there first in
    let also : fde_from_offset section other.head.offset ≡ Ok other = All-contains (StandsAtItsOffset section) (whole_fdes section) other there second in
    let both : ◌≡◌ {A = Result Fde Error} (Ok one) (Ok other) = sym here ∙ ap (fde_from_offset section) at ∙ also in
    cc

-- a header that was read, with its rows
record ReadHeader (bases : BaseAddresses) (read : Result Header Error) (rows : List HeaderRow) : Type 0 where
  header : Header
  is : read ≡ Ok header
  there : header.eh_frame_ptr ≡ Direct (section_start bases)
  last : ℕ
  count : header.count ≡ suc last
  are : rows_within (2 ^ 64) header.count 0 (header_table bases.eh_frame_hdr header) ≡ Ok rows

module _ (bases : BaseAddresses) (header : Header) (rows : List HeaderRow) where
  by-count : (count : ℕ) → header.count ≡ count → header.eh_frame_ptr ≡ Direct (section_start bases) → rows_if_some (2 ^ 64) bases header ≡ Ok rows → ReadHeader bases (Ok header) rows
  by-count zero none there is = let never : ◌≡◌ {A = Result (List HeaderRow) HeaderFault} (Err NoTable) (Ok rows) = rw none at is in absurd cc
  by-count (suc last) some there is =
      let test : (header.count == 0) ≡ false = grind (arith, nat_tests, some) in
      record { header = header; is = refl; there = there; last = last; count = some; are = rw test at is }

  by-pointer : (pointer : Pointer) → header.eh_frame_ptr ≡ pointer → rows_if_there (2 ^ 64) bases header (direct_address pointer) ≡ Ok rows → ReadHeader bases (Ok header) rows
  by-pointer (Direct start) there is =
      by_case (start == section_start bases)
      (λ here. let same : start ≡ section_start bases = grind (arith, nat_tests, here) in by-count header.count refl (there ∙ ap (λ (n : ℕ). Direct n) same) (rw here at is))
      (λ not. let never : ◌≡◌ {A = Result (List HeaderRow) HeaderFault} (Err (OtherSection start)) (Ok rows) = rw not at is in absurd cc)
  by-pointer (Indirect address) there is = absurd cc

read-header : (bases : BaseAddresses) (read : Result Header Error) (rows : List HeaderRow) → rows_if_read bases read ≡ Ok rows → ReadHeader bases read rows
read-header bases (Ok header) rows is = by-pointer bases header rows header.eh_frame_ptr refl is
read-header bases (Err e) rows is = absurd cc

-- rows without a finding make a truthful table
truthful-table : (section : FrameSection) (bases : BaseAddresses) (header : Header) (last : ℕ) (rows : List HeaderRow) → IsSound section → section.limit ≡ 2 ^ 64 → header.eh_frame_ptr ≡ Direct (section_start bases)
    → header.count ≡ suc last → rows_within (2 ^ 64) header.count 0 (header_table bases.eh_frame_hdr header) ≡ Ok rows → AreClean (section_start bases) rows (map locate (whole_fdes section)) → IsTruthful section bases header
truthful-table section bases header last rows sound limit there some are clean =
    let t = header_table bases.eh_frame_hdr header in
    let start = section_start bases in
    let fdes = whole_fdes section in
    let size = has-size (2 ^ 64) header.count last t rows some are in
    let named = name-all start 0 fdes rows clean.true_rows in
    let starts = all-starts start fdes rows named.0 named.1 in
    let up : Ascends (map (λ fde. fde.initial_address) named.0) = subst Ascends starts (ordered-up rows clean.ordered) in
    let same : SameMembers fdes named.0 = record {
      there = λ fde has.
          let other = named-at start fdes rows named.0 (start + fde.head.offset) named.1 (all-named start rows fdes clean.all fde has) in
          let offset : fde.head.offset ≡ other.0.head.offset = let sums = other.1.1 in omega (arith, sums) in
          let is = same-fde section fde other.0 has (named-members start fdes rows named.0 named.1 other.0 other.1.0) offset in
          subst (λ (f : Fde). Contains named.0 f) (sym is) other.1.0;
      back = named-members start fdes rows named.0 named.1;
    } in
    record {
      sound = sound;
      section_start = start;
      starts_there = there;
      size = size.0;
      has_size = size.1;
      fdes = named.0;
      are_all = same-members fdes named.0 (rising-distinct fdes (whole-rise section)) (ascending-distinct named.0 up) same;
      increase = increasing (map (λ fde. fde.initial_address) named.0) up;
      rows = subst (λ (n : ℕ). rows_by_index n size.0 t ≡ map row_with_start (map (row_of_fde start) named.0)) (sym limit)
          (rows-by-index (2 ^ 64) size.0 t size.1 header.count 0 rows are (omega arith) ∙ all-rows start fdes rows named.0 named.1);
    }

-- a header without a line is truthful, and its table has a row
pub truthful-rows : (h : HeadedSection) → IsSound (headed_frames h) → headed_lines h ≡ [] → HasTruthfulRows h
truthful-rows h sound none =
    let section = headed_frames h in
    let bases = headed_bases h in
    let read = header_rows bases h.header.bytes in
    let clean = clean-header _ (section_start bases) read _ none in
    let found = read-header bases (parsed_header bases h.header.bytes) clean.rows clean.is in
    let same = located-whole section in
    let count = found.count in
    record {
      header = record {
        says = found.header;
        parses = found.is;
        there = found.there;
        truthful = truthful-table section bases found.header found.last clean.rows sound refl found.there found.count found.are
            (subst (λ fdes. AreClean (section_start bases) clean.rows fdes) same clean.clean);
      };
      has_rows = omega (arith, count);
    }
