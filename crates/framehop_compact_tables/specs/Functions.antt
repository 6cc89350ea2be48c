-- The function that contains an address, by the tables of `__unwind_info`.
use Rattle.std.specs.Prelude.{ℕ, ◌+◌, ◌<◌, ◌≤◌, ◌==◌, nat_lt, if◌then◌else◌, List, Option, Some, None, Ok, Err}
use Rattle.framehop_errors.specs.declared.compact_format.CompactFormatError.TheVariants.{Truncated}
use Rattle.framehop_compact_tables.specs.Bytes.{CompactResult, result_and_then}
use Rattle.framehop_compact_tables.specs.Rows.{last_row}
use Rattle.framehop_compact_tables.specs.Index.{index_count, index_start, index_page, index_is_whole}
use Rattle.framehop_compact_tables.specs.Pages.{page_at, entry_count, entry_start, encoding_of}
use Rattle.framehop_compact_tables.specs.declared.function.Function.{Function}
use Rattle.framehop_compact_tables.specs.declared.page.Page.{Page}

-- The page of an entry of the index.
abbrev pub page_of : List ℕ → ℕ → CompactResult Page
page_of bytes row = page_at bytes (index_page bytes row) (index_start bytes row)

-- The end of an entry of a page: the start of the next one, or else of the next entry of the index.
abbrev pub end_of : List ℕ → ℕ → Page → ℕ → ℕ
end_of bytes row page entry = if nat_lt (entry + 1) (entry_count page) then entry_start bytes page (entry + 1) else index_start bytes (row + 1)

-- The function of an entry, with its encoding.
abbrev pub function_of : List ℕ → ℕ → Page → ℕ → CompactResult Function
function_of bytes row page entry =
    result_and_then (encoding_of bytes page entry) (λ encoding.
    Ok (record { start_address = entry_start bytes page entry; end_address = end_of bytes row page entry; opcode = encoding }))

-- The function of the entry that was found in a page. No function is at an address before its first entry.
abbrev pub function_of_found : List ℕ → ℕ → Page → Option ℕ → CompactResult (Option Function)
function_of_found bytes row page None = Ok None
function_of_found bytes row page (Some entry) = result_and_then (function_of bytes row page entry) (λ function. Ok (Some function))

-- The function of an address in the page of an entry of the index: that of the last entry that starts at or below it.
abbrev pub function_in_page : List ℕ → ℕ → ℕ → CompactResult (Option Function)
function_in_page bytes address row =
    result_and_then (page_of bytes row) (λ page.
    function_of_found bytes row page (last_row (entry_count page) (entry_start bytes page) address))

-- The function by the entry that was found in the index. The last entry has no page: it says where the last function ends.
abbrev pub function_by_index : List ℕ → ℕ → Option ℕ → CompactResult (Option Function)
function_by_index bytes address None = Ok None
function_by_index bytes address (Some row) = if row + 1 == index_count bytes then Ok None else function_in_page bytes address row

-- The function that contains an address, if there is one.
abbrev pub function_for : List ℕ → ℕ → CompactResult (Option Function)
function_for bytes address =
    if index_is_whole bytes then function_by_index bytes address (last_row (index_count bytes) (index_start bytes) address) else Err Truncated

-- A function contains an address.
pub record ContainsAddress (function : Function) (address : ℕ) : Type 0 where
  pub start : function.start_address ≤ address
  pub end : address < function.end_address
