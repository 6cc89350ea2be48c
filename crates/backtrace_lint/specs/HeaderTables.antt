-- The table of an `.eh_frame_hdr` beside the FDEs of its section: a row for each, in the order of their starts (LSB 5.0, 10.6.2).
use Rattle.std.specs.Prelude.{ℕ, suc, ◌+◌, ◌-◌, ◌==◌, Bool, false, nat_le, nat_lt, if◌then◌else◌, List, [], ◌∷◌, Option, Some, None, option_and_then, option_map, Result, Ok, Err}
use Rattle.std.specs.List.{cons_option, filter_map, find, list_any}
use Rattle.dwarf_constants.specs.declared.error.Error.{Error}
use Rattle.backtrace_lint.specs.declared.fdes.Code.{Code}
use Rattle.backtrace_lint.specs.declared.fdes.ListedFde.{ListedFde}
use Rattle.backtrace_lint.specs.declared.header_tables.HeaderRow.{HeaderRow}
use Rattle.backtrace_lint.specs.declared.header_tables.LocatedFde.{LocatedFde}
use Rattle.backtrace_lint.specs.declared.header_tables.UnorderedRow.{UnorderedRow}
use Rattle.backtrace_lint.specs.declared.header_tables.UntrueRow.{UntrueRow}

-- ---- FDEs that can be read

-- the FDE at an offset, if it can be read
abbrev pub located_at : (offset : ℕ) → Result Code Error → Option LocatedFde
located_at offset (Ok code) = Some (record { offset = offset; start = code.start })
located_at offset (Err error) = None

-- an FDE of the list likewise
abbrev pub located : ListedFde → Option LocatedFde
located fde = located_at fde.offset fde.read

-- the FDEs of a list that can be read
abbrev pub located_fdes : List ListedFde → List LocatedFde
located_fdes fdes = filter_map located fdes

-- ---- the order of rows

-- a row that doesn't start above the one before it, whose start this is
abbrev pub unordered_if : (index before start : ℕ) → Option UnorderedRow
unordered_if index before start = if nat_lt before start then None else Some (record { index = index; start = start; before = before })

-- each row that doesn't, of those from an index on, after a row with this start
abbrev pub unordered_from : (index before : ℕ) → List HeaderRow → List UnorderedRow
unordered_from index before [] = []
unordered_from index before (row ∷ rows) = cons_option (unordered_if index before row.start) (unordered_from (suc index) row.start rows)

-- each row of a table that doesn't
abbrev pub unordered_rows : List HeaderRow → List UnorderedRow
unordered_rows [] = []
unordered_rows (row ∷ rows) = unordered_from 1 row.start rows

-- ---- rows and FDEs, of a section that starts at an address

-- the offset of an address in the section, if it isn't before that
abbrev pub offset_from : (section address : ℕ) → Option ℕ
offset_from section address = if nat_le section address then Some (address - section) else None

-- where the code of the FDE at an offset starts, if one is there
abbrev pub start_at : List LocatedFde → (offset : ℕ) → Option ℕ
start_at fdes offset = option_map (λ fde. fde.start) (find (λ fde. fde.offset == offset) fdes)

-- the start at an address, by the starts at offsets
abbrev pub named_by : (starts : ℕ → Option ℕ) → (section address : ℕ) → Option ℕ
named_by starts section address = option_and_then starts (offset_from section address)

-- where the code of the FDE at an address starts
abbrev pub start_named : (section : ℕ) → List LocatedFde → (address : ℕ) → Option ℕ
start_named section fdes address = named_by (start_at fdes) section address

-- a start that is named is this one
abbrev pub is_start : Option ℕ → (start : ℕ) → Bool
is_start None start = false
is_start (Some named) start = named == start

-- a row, if the code of the FDE that it names doesn't start where it says, or if it names none
abbrev pub untrue_if : (index : ℕ) → HeaderRow → (named : Option ℕ) → Option UntrueRow
untrue_if index row named = if is_start named row.start then None else Some (record { index = index; row = row; named = named })

-- each such row, of those from an index on, by the starts at addresses
abbrev pub untrue_from : (named : ℕ → Option ℕ) → (index : ℕ) → List HeaderRow → List UntrueRow
untrue_from named index [] = []
untrue_from named index (row ∷ rows) = cons_option (untrue_if index row (named row.fde)) (untrue_from named (suc index) rows)

-- each such row of a table
abbrev pub untrue_rows : (section : ℕ) → List HeaderRow → List LocatedFde → List UntrueRow
untrue_rows section rows fdes = untrue_from (start_named section fdes) 0 rows

-- a row names what is at this address
abbrev pub is_named : List HeaderRow → (address : ℕ) → Bool
is_named rows address = list_any (λ row. row.fde == address) rows

-- an FDE, unless a row names it
abbrev pub rowless_if : (section : ℕ) → List HeaderRow → LocatedFde → Option LocatedFde
rowless_if section rows fde = if is_named rows (section + fde.offset) then None else Some fde

-- the FDEs that no row names
abbrev pub rowless_fdes : (section : ℕ) → List HeaderRow → List LocatedFde → List LocatedFde
rowless_fdes section rows fdes = filter_map (rowless_if section rows) fdes
