-- The pages of `__unwind_info` (compact_unwind_encoding.h, struct unwind_info_regular_second_level_page_header,
-- unwind_info_regular_second_level_entry and unwind_info_compressed_second_level_page_header).
use Rattle.std.specs.Prelude.{ℕ, ◌+◌, ◌-◌, ◌*◌, ◌/◌, ◌%◌, ◌==◌, nat_lt, if◌then◌else◌, List, Ok, Err}
use Rattle.framehop_errors.specs.declared.compact_format.CompactFormatError.TheVariants.{BadPageKind, BadEncodingIndex}
use Rattle.framehop_compact_tables.specs.Bytes.{CompactResult, result_and_then, u16_at, u32_at, if_within, capped_sum}
use Rattle.framehop_compact_tables.specs.Index.{common_offset, common_count}
use Rattle.framehop_compact_tables.specs.declared.page.Page.{Page}
use Rattle.framehop_compact_tables.specs.declared.page.Page.TheVariants.{Regular, Compressed}

-- A regular page by its header: the offset and the number of its entries. Offsets in a page are from its start.
abbrev pub regular_page : List ℕ → ℕ → Page
regular_page bytes offset = Regular (capped_sum offset (u16_at bytes (offset + 4))) (u16_at bytes (offset + 6))

-- A compressed page by its header: the same, and the offset and the number of its own encodings.
abbrev pub compressed_page : List ℕ → ℕ → ℕ → Page
compressed_page bytes offset start =
    Compressed start
    (capped_sum offset (u16_at bytes (offset + 4))) (u16_at bytes (offset + 6))
    (capped_sum offset (u16_at bytes (offset + 8))) (u16_at bytes (offset + 10))

-- The page with the header at an offset, by its kind: 2 for a regular page, 3 for a compressed one.
abbrev pub page_header_at : List ℕ → ℕ → ℕ → CompactResult Page
page_header_at bytes offset start =
    if_within bytes offset 4 (
    if u32_at bytes offset == 2 then if_within bytes offset 8 (Ok (regular_page bytes offset)) else
    if u32_at bytes offset == 3 then if_within bytes offset 12 (Ok (compressed_page bytes offset start)) else
    Err (BadPageKind (u32_at bytes offset)))

-- Where the entries of a page are.
abbrev pub entries_offset : Page → ℕ
entries_offset (Regular entries count) = entries
entries_offset (Compressed start entries count encodings encoding_count) = entries

-- How many entries a page has.
abbrev pub entry_count : Page → ℕ
entry_count (Regular entries count) = count
entry_count (Compressed start entries count encodings encoding_count) = count

-- How many bytes an entry has.
abbrev pub entry_size : Page → ℕ
entry_size (Regular entries count) = 8
entry_size (Compressed start entries count encodings encoding_count) = 4

-- The page at an offset, if its entries are all there.
abbrev pub page_at : List ℕ → ℕ → ℕ → CompactResult Page
page_at bytes offset start =
    result_and_then (page_header_at bytes offset start) (λ page.
    if_within bytes (entries_offset page) (entry_size page * entry_count page) (Ok page))

-- The start of an entry. In a compressed page the low 24 bits say how far it is from the page's start.
abbrev pub entry_start : List ℕ → Page → ℕ → ℕ
entry_start bytes (Regular entries count) entry = u32_at bytes (entries + 8 * entry)
entry_start bytes (Compressed start entries count encodings encoding_count) entry =
    capped_sum start (u32_at bytes (entries + 4 * entry) % 0x1000000)

-- The encoding at an offset.
abbrev pub encoding_at : List ℕ → ℕ → CompactResult ℕ
encoding_at bytes offset = if_within bytes offset 4 (Ok (u32_at bytes offset))

-- The encoding with an index: the common ones come first, then those of the page.
abbrev pub indexed_encoding : List ℕ → ℕ → ℕ → ℕ → CompactResult ℕ
indexed_encoding bytes encodings encoding_count index =
    if nat_lt index (common_count bytes) then encoding_at bytes (common_offset bytes + 4 * index) else
    if nat_lt (index - common_count bytes) encoding_count then encoding_at bytes (encodings + 4 * (index - common_count bytes)) else
    Err BadEncodingIndex

-- The encoding of an entry. In a compressed page the high 8 bits are its index.
abbrev pub encoding_of : List ℕ → Page → ℕ → CompactResult ℕ
encoding_of bytes (Regular entries count) entry = Ok (u32_at bytes (entries + 8 * entry + 4))
encoding_of bytes (Compressed start entries count encodings encoding_count) entry =
    indexed_encoding bytes encodings encoding_count (u32_at bytes (entries + 4 * entry) / 0x1000000)
