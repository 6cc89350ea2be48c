-- The header and the index of `__unwind_info` (Apple's compact unwind encoding: compact_unwind_encoding.h, struct
-- unwind_info_section_header and unwind_info_section_header_index_entry).
use Rattle.std.specs.Prelude.{ℕ, ◌+◌, ◌*◌, Bool, ◌&&◌, List}
use Rattle.framehop_compact_tables.specs.Bytes.{u32_at, is_within}

-- Where the common encodings are.
abbrev pub common_offset : List ℕ → ℕ
common_offset bytes = u32_at bytes 4

-- How many common encodings there are.
abbrev pub common_count : List ℕ → ℕ
common_count bytes = u32_at bytes 8

-- Where the index is.
abbrev pub index_offset : List ℕ → ℕ
index_offset bytes = u32_at bytes 20

-- How many entries the index has.
abbrev pub index_count : List ℕ → ℕ
index_count bytes = u32_at bytes 24

-- The start of the functions of an entry.
abbrev pub index_start : List ℕ → ℕ → ℕ
index_start bytes row = u32_at bytes (index_offset bytes + 12 * row)

-- Where its page is.
abbrev pub index_page : List ℕ → ℕ → ℕ
index_page bytes row = u32_at bytes (index_offset bytes + 12 * row + 4)

-- The header is there, and all of the index.
abbrev pub index_is_whole : List ℕ → Bool
index_is_whole bytes = is_within bytes 0 28 && is_within bytes (index_offset bytes) (12 * index_count bytes)
