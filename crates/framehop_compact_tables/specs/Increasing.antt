-- Tables of `__unwind_info` whose starts increase, so that they can be halved.
use Rattle.std.specs.Prelude.{ℕ, ◌≡◌, ◌+◌, ◌<◌, true, List, Ok, IsOk}
use Rattle.framehop_compact_tables.specs.Rows.{Increases}
use Rattle.framehop_compact_tables.specs.Index.{index_count, index_start, index_is_whole}
use Rattle.framehop_compact_tables.specs.Pages.{entry_count, entry_start}
use Rattle.framehop_compact_tables.specs.Functions.{page_of}
use Rattle.framehop_compact_tables.specs.declared.page.Page.{Page}

-- The page of an entry of the index can be read, and its starts increase.
pub record HasIncreasingPage (bytes : List ℕ) (row : ℕ) : Type 0 where
  pub can_be_read : IsOk (page_of bytes row)
  pub starts : (page : Page) → page_of bytes row ≡ Ok page → Increases (entry_count page) (entry_start bytes page)

-- So has every entry but the last, which has no page.
abbrev pub HaveIncreasingPages : List ℕ → Type 0
HaveIncreasingPages bytes = (row : ℕ) → row + 1 < index_count bytes → HasIncreasingPage bytes row

-- The tables are whole, and the starts of each increase.
pub record IsIncreasing (bytes : List ℕ) : Type 0 where
  pub whole : index_is_whole bytes ≡ true
  pub some : 0 < index_count bytes
  pub starts : Increases (index_count bytes) (index_start bytes)
  pub pages : HaveIncreasingPages bytes
