-- The lines of findings in an `.eh_frame_hdr`, each of which begins with the file and the section.
use Rattle.std.specs.Prelude.{ℕ, ◌+◌, List, [], ◌∷◌, ◌++◌, length, codes, decimal, Option, Some, None, Result, Ok, Err}
use Rattle.dwarf_constants.specs.Error.{variant_name}
use Rattle.json_program.specs.Lines.{hexadecimal, line}
use Rattle.backtrace_lint.specs.HeaderTables.{rowless_fdes, unordered_rows, untrue_rows}
use Rattle.backtrace_lint.specs.Lines.{Place, count_text, place_text}
use Rattle.backtrace_lint.specs.declared.header_tables.HeaderFault.{HeaderFault}
use Rattle.backtrace_lint.specs.declared.header_tables.HeaderFault.TheVariants.{Unread, OtherSection, NoTable, UnreadRow}
use Rattle.backtrace_lint.specs.declared.header_tables.HeaderRow.{HeaderRow}
use Rattle.backtrace_lint.specs.declared.header_tables.LocatedFde.{LocatedFde}
use Rattle.backtrace_lint.specs.declared.header_tables.UnorderedRow.{UnorderedRow}
use Rattle.backtrace_lint.specs.declared.header_tables.UntrueRow.{UntrueRow}

-- why rows can't be compared with FDEs
abbrev pub reason_text : HeaderFault → List ℕ
reason_text (Unread error) = codes "fault: " ++ variant_name error
reason_text (OtherSection address) = codes "another .eh_frame, at " ++ hexadecimal address
reason_text NoTable = codes "no table"
reason_text (UnreadRow index error) = codes "fault: " ++ variant_name error ++ codes " in row " ++ decimal index

-- the line of such a fault
abbrev pub header_fault_text : Place → HeaderFault → List ℕ
header_fault_text place fault = place_text place ++ line (reason_text fault)

-- a row's index and its start
abbrev pub row_text : (index start : ℕ) → List ℕ
row_text index start = codes "row " ++ decimal index ++ codes ": " ++ hexadecimal start

-- a row that doesn't start above the one before it
abbrev pub unordered_text : UnorderedRow → List ℕ
unordered_text row = row_text row.index row.start ++ codes " after " ++ line (hexadecimal row.before)

-- how many rows don't, and the first
abbrev pub unordereds_text : Place → List UnorderedRow → List ℕ
unordereds_text place [] = []
unordereds_text place (row ∷ rows) = count_text place (codes "rows out of order") (length rows + 1) ++ unordered_text row

-- no FDE at the address that a row names
abbrev pub no_fde_text : (address : ℕ) → List ℕ
no_fde_text address = line (codes ", no FDE at " ++ hexadecimal address)

-- an FDE there that starts elsewhere
abbrev pub other_start_text : (address start : ℕ) → List ℕ
other_start_text address start = line (codes ", FDE at " ++ hexadecimal address ++ codes " starts at " ++ hexadecimal start)

-- what is at the address that a row names
abbrev pub named_text : (address : ℕ) → Option ℕ → List ℕ
named_text address None = no_fde_text address
named_text address (Some start) = other_start_text address start

-- a row that isn't an FDE's
abbrev pub untrue_text : UntrueRow → List ℕ
untrue_text untrue = row_text untrue.index untrue.row.start ++ named_text untrue.row.fde untrue.named

-- how many rows aren't, and the first
abbrev pub untrues_text : Place → List UntrueRow → List ℕ
untrues_text place [] = []
untrues_text place (row ∷ rows) = count_text place (codes "rows without their FDE") (length rows + 1) ++ untrue_text row

-- where an FDE is
abbrev pub located_text : LocatedFde → List ℕ
located_text fde = line (codes "at " ++ hexadecimal fde.offset)

-- how many FDEs have no row, and the first
abbrev pub rowless_text : Place → List LocatedFde → List ℕ
rowless_text place [] = []
rowless_text place (fde ∷ fdes) = count_text place (codes "FDEs without a row") (length fdes + 1) ++ located_text fde

-- the lines of a header whose rows can be read, of a section that starts at an address and has these FDEs
abbrev pub rows_text : Place → (section : ℕ) → List HeaderRow → List LocatedFde → List ℕ
rows_text place section rows fdes =
    unordereds_text place (unordered_rows rows) ++ untrues_text place (untrue_rows section rows fdes)
    ++ rowless_text place (rowless_fdes section rows fdes)

-- the lines of a header
abbrev pub header_text : Place → (section : ℕ) → Result (List HeaderRow) HeaderFault → List LocatedFde → List ℕ
header_text place section (Ok rows) fdes = rows_text place section rows fdes
header_text place section (Err fault) fdes = header_fault_text place fault
