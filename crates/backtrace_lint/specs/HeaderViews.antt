-- Headers and their rows as contracts see them.
use Rattle.std.specs.Prelude.{◌≡◌, List, ◌++◌, Option, option_map, Result, Ok, Err, Vec}
use Rattle.std.specs.Global.{Global}
use Rattle.backtrace_lint.specs.declared.header_tables.HeaderFault.{HeaderFault}
use Rattle.backtrace_lint.specs.declared.header_tables.HeaderRow.{HeaderRow}
use Rattle.backtrace_lint.specs.Headers.{HeaderSection}
use Rattle.backtrace_lint.specs.declared.headers.HeaderSection.{HeaderSection as Read}

-- the section that is read in place
abbrev pub header_seen : Read → HeaderSection
header_seen header = record { address = header.address; bytes = header.bytes.now }

-- the section, if there is one
abbrev pub if_seen : Option Read → Option HeaderSection
if_seen header = option_map header_seen header

-- These are the rows, or why they can't be compared.
abbrev pub AreRows : Result (List HeaderRow) HeaderFault → Result (Vec HeaderRow Global) HeaderFault → Type 0
AreRows rows (Ok read) = rows ≡ Ok read.items
AreRows rows (Err fault) = rows ≡ Err fault

-- rows before others, unless one of these can't be read
abbrev pub before_rows : List HeaderRow → Result (List HeaderRow) HeaderFault → Result (List HeaderRow) HeaderFault
before_rows found (Ok rows) = Ok (found ++ rows)
before_rows found (Err fault) = Err fault
