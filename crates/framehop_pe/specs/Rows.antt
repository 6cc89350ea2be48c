-- The rows of `.pdata` (Microsoft, "x64 exception handling", struct RUNTIME_FUNCTION): three numbers of 32 bits each, for where a function
-- begins, where it ends, and where its unwind info is. All are addresses relative to the file's base.
use Rattle.std.specs.Prelude.{ℕ, zero, suc, ◌+◌, ◌*◌, ◌/◌, ◌<◌, ◌≤◌, ◌&&◌, Bool, nat_lt, nat_le, if◌then◌else◌, List, length, Option, Some, None, option_map}
use Rattle.framehop_pe_codes.specs.Codes.{u32_at}
use Rattle.framehop_pe.specs.declared.pdata.RuntimeFunction.{RuntimeFunction}

-- How many rows there are. A rest of fewer than 12 bytes is no row.
abbrev pub pdata_rows : List ℕ → ℕ
pdata_rows bytes = length bytes / 12

-- Where the function of a row begins.
unfoldable pub begin_at : List ℕ → ℕ → ℕ
begin_at bytes row = u32_at bytes (12 * row)

-- Where it ends.
unfoldable pub end_at : List ℕ → ℕ → ℕ
end_at bytes row = u32_at bytes (12 * row + 4)

-- Where its unwind info is.
unfoldable pub unwind_info_at : List ℕ → ℕ → ℕ
unwind_info_at bytes row = u32_at bytes (12 * row + 8)

-- A row contains an address.
abbrev pub row_contains : List ℕ → ℕ → ℕ → Bool
row_contains bytes address row = nat_le (begin_at bytes row) address && nat_lt address (end_at bytes row)

-- The first number for which a test holds, of so many from this one on.
unfoldable pub first_number : ℕ → ℕ → (ℕ → Bool) → Option ℕ
first_number zero from test = None
first_number (suc n) from test = if test from then Some from else first_number n (from + 1) test

-- The first row that contains an address.
abbrev pub first_row : List ℕ → ℕ → Option ℕ
first_row bytes address = first_number (pdata_rows bytes) 0 (row_contains bytes address)

-- The function of a row.
abbrev pub function_at : List ℕ → ℕ → RuntimeFunction
function_at bytes row = record {
  begin_address = begin_at bytes row;
  end_address = end_at bytes row;
  unwind_info_address = unwind_info_at bytes row;
}

-- The function of an address.
abbrev pub function_of : List ℕ → ℕ → Option RuntimeFunction
function_of bytes address = option_map (function_at bytes) (first_row bytes address)

-- Begins increase strictly, and no row's end is above the next row's begin.
abbrev pub IsIncreasing : List ℕ → Type 0
IsIncreasing bytes = (row : ℕ) → row + 1 < pdata_rows bytes → (begin_at bytes row < begin_at bytes (row + 1)) × (end_at bytes row ≤ begin_at bytes (row + 1))
