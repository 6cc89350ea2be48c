-- How many steps a lookup in the tables of `__unwind_info` takes.
use Rattle.std.specs.Prelude.{ℕ, ◌+◌, ◌^◌, ◌≤◌, ◌==◌, IsTrue, if◌then◌else◌, List, Option, Some, None, Ok, Err}
use Rattle.framehop_compact_tables.specs.Rows.{last_row, most_steps}
use Rattle.framehop_compact_tables.specs.Index.{index_count, index_start}
use Rattle.framehop_compact_tables.specs.Pages.{entry_count}
use Rattle.framehop_compact_tables.specs.Functions.{page_of}
use Rattle.framehop_compact_tables.specs.declared.lookup.UnwindInfo.{UnwindInfo}

-- How many rows the page has that is searched for an address: none if no page is.
abbrev pub rows_of_page : List ℕ → ℕ → ℕ
rows_of_page bytes row = elim (page_of bytes row) [ Ok page ↦ entry_count page | Err refusal ↦ 0 ]

-- How many rows the page of the entry that was found in the index has; its last entry has no page.
abbrev pub rows_by_index : List ℕ → Option ℕ → ℕ
rows_by_index bytes None = 0
rows_by_index bytes (Some row) = if row + 1 == index_count bytes then 0 else rows_of_page bytes row

-- How many rows the page has that is searched for an address.
abbrev pub page_rows : List ℕ → ℕ → ℕ
page_rows bytes address = rows_by_index bytes (last_row (index_count bytes) (index_start bytes) address)

-- At most ceil(log2(n)) + 1 more steps for each table of n rows that is searched for an address: the index, and a page if there is one.
abbrev pub AreFewForAddress : List ℕ → ℕ → ℕ → ℕ → Type 0
AreFewForAddress bytes address before after =
    (k j : ℕ) → index_count bytes ≤ 2 ^ k → page_rows bytes address ≤ 2 ^ j
    → after ≤ before + most_steps (index_count bytes) k + most_steps (page_rows bytes address) j

-- The same, if the tables are known to increase.
abbrev pub AreFewIfIncreasing : UnwindInfo → ℕ → ℕ → ℕ → Type 0
AreFewIfIncreasing unwind_info address before after = IsTrue unwind_info.increasing → AreFewForAddress unwind_info.bytes.now address before after
