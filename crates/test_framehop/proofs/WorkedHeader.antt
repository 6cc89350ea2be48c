-- The worked header is truthful, by computation over its bytes and those of its section.
use Rattle.std.proofs.Common.{◌≡◌, ℕ, ◌+◌, suc, zero, ◌<◌, List, [], ◌∷◌, length, map, true, false, refl, sym, subst, arith}
use Rattle.std.specs.Prelude.{slice_index, nat_lt, None}
use Rattle.std.specs.List.{All}
use Rattle.std.specs.List.Sorted.{IsStrictlyIncreasing, apply_swaps}
use Rattle.std.proofs.lemmas.List.Elements.{All-from_recursion}
use Rattle.dwarf_frame_rows.specs.EncodedPointer.{is_encoding}
use Rattle.dwarf_frame_rows.specs.FrameSection.{FrameSection}
use Rattle.dwarf_frame_rows.specs.declared.pointer.Pointer.TheVariants.{Direct}
use Rattle.dwarf_frame_entries.specs.Entries.{Fde, contains}
use Rattle.dwarf_frame_entries.specs.EntryLists.{entries_from, list_end_from, list_error}
use Rattle.dwarf_frame_entries.specs.SectionFdes.{whole_fdes}
use Rattle.dwarf_call_frames.specs.Halving.{row_with_start}
use Rattle.dwarf_call_frames.specs.Header.{Header}
use Rattle.dwarf_call_frames.specs.HeaderTable.{header_table, rows_by_index}
use Rattle.dwarf_call_frames.specs.Truthful.{AreApart, row_of_fde}
use Rattle.framehop_index.specs.EntryFor.{fits_index}
use Rattle.framehop.specs.TruthfulLookups.{AreTruthful, headed_section}
use Rattle.test_framehop.specs.WorkedHeader.{header_bytes, section_bytes, worked_bases, worked_header}

abbrev section : FrameSection
section = headed_section worked_header

-- the FDEs in the order of the section
abbrev fdes : List Fde
fdes = whole_fdes section

-- the two in the order of their starts
abbrev in_order : List Fde
in_order = apply_swaps fdes ((0, 1) ∷ [])

-- what the bytes of the header say
abbrev says : Header
says = record {
  section_offset = 0;
  address_size = 8;
  eh_frame_ptr = Direct 0x200;
  table_encoding = 59;
  count = 2;
  rows = record {
    bytes = 240 ∷ 12 ∷ 0 ∷ 0 ∷ 52 ∷ 255 ∷ 255 ∷ 255 ∷ 0 ∷ 13 ∷ 0 ∷ 0 ∷ 20 ∷ 255 ∷ 255 ∷ 255 ∷ [];
    offset = 12;
    big = false;
  };
}

none-ends : list_error section ≡ None
unfolding section_bytes worked_bases list_end_from
none-ends = refl

-- the code of neither is in the other's
abbrev ApartFrom : Fde → Fde → Type 0
ApartFrom fde other = contains other.initial_address fde ≡ true → other ≡ fde

no : {X : Type 0} → false ≡ true → X
no e = absurd (let h : false ≡ true = e in cc)

apart : AreApart fdes
unfolding section_bytes worked_bases entries_from whole_fdes
apart = All-from_recursion (λ fde. All (ApartFrom fde) fdes) fdes (
  All-from_recursion (ApartFrom _) fdes ((λ here. refl), ((λ here. no here), tt)),
  (All-from_recursion (ApartFrom _) fdes ((λ here. no here), ((λ here. refl), tt)), tt),
)

have-offsets : All (λ fde. nat_lt fde.head.offset section.limit ≡ true) fdes
unfolding section_bytes worked_bases entries_from whole_fdes
have-offsets = All-from_recursion (λ fde. nat_lt fde.head.offset section.limit ≡ true) fdes (refl, (refl, tt))

indexed : All (λ fde. fits_index 0 fde ≡ true) fdes
unfolding section_bytes worked_bases entries_from whole_fdes
indexed = All-from_recursion (λ fde. fits_index 0 fde ≡ true) fdes (refl, (refl, tt))

two-increase : (a b : ℕ) → a < b → IsStrictlyIncreasing (a ∷ b ∷ [])
two-increase a b less zero fits = less
two-increase a b less (suc k) fits = absurd (omega arith)

starts : map (λ fde. fde.initial_address) in_order ≡ 0xff0 ∷ 0x1000 ∷ []
unfolding section_bytes worked_bases entries_from whole_fdes
starts = refl

same-rows : rows_by_index section.limit 4 (header_table worked_bases.eh_frame_hdr says) ≡ map row_with_start (map (row_of_fde 0x200) in_order)
unfolding section_bytes worked_bases entries_from whole_fdes is_encoding
same-rows = refl

two : length fdes ≡ 2
unfolding section_bytes worked_bases entries_from whole_fdes
two = refl

pub truthful : AreTruthful worked_header
unfolding header_bytes worked_bases is_encoding
truthful = record {
  says = says;
  parses = refl;
  is_truthful = record {
    sound = record { ends = none-ends; apart = apart; have_offsets = have-offsets };
    section_start = 0x200;
    starts_there = refl;
    size = 4;
    has_size = refl;
    fdes = in_order;
    are_all = record { moves = (0, 1) ∷ []; below = (omega (arith, two), omega (arith, two), tt); is = refl };
    increase = subst IsStrictlyIncreasing (sym starts) (two-increase 0xff0 0x1000 (omega arith));
    rows = same-rows;
  };
  indexed = indexed;
}
