-- What contracts see of symbols whose names are read in place.
use Rattle.std.specs.Prelude.{ℕ, ◌≡◌, ◌+◌, ◌<◌, ◌≤◌, true, IfSome, if◌then◌else◌, Option, Some}
use Rattle.list_laws.specs.Greatest.{greater_of}
use Rattle.elf_files.specs.Bytes.{ElfResult}
use Rattle.elf_files.specs.declared.file.ElfFile.{ElfFile}
use Rattle.elf_files.specs.declared.section.Section.{Section}
use Rattle.elf_files.specs.declared.symbol.Symbol.{Symbol}
use Rattle.elf_files.specs.declared.symbol.SymbolEntry.{SymbolEntry}
use Rattle.elf_files.specs.Symbols.{NamedSymbol, function_in, has_address, is_function, with_name}

-- A symbol.
abbrev pub symbol_seen : Symbol → NamedSymbol
symbol_seen symbol = record {
  name = symbol.name.now;
  kind = symbol.kind;
  section_index = symbol.section_index;
  value = symbol.value;
  size = symbol.size;
}

-- A symbol of a symbol table of a file, with its name.
abbrev pub named_in : ElfFile → Section → SymbolEntry → ElfResult (Option NamedSymbol)
named_in file section symbol = with_name file.bytes.now file.header section (Some symbol)

-- The function at an address by such a table.
abbrev pub function_by : ElfFile → ℕ → Section → ElfResult (Option NamedSymbol)
function_by file address section = function_in file.bytes.now file.header address (Some section)

-- Of a symbol and what was found among those after it, the function at an address.
abbrev pub with_earlier : ℕ → SymbolEntry → Option SymbolEntry → Option SymbolEntry
with_earlier address symbol found = if has_address address symbol then greater_of (λ entry. entry.value) (Some symbol) found else found

-- What was found contains the address.
abbrev pub HasAddress : ℕ → Option SymbolEntry → Type 0
HasAddress address found = IfSome found (λ symbol. has_address address symbol ≡ true)

-- A symbol is a function that contains an address.
pub record ContainsAddress (address : ℕ) (symbol : Symbol) : Type 0 where
  pub function : is_function symbol.kind ≡ true
  pub start : symbol.value ≤ address
  pub end : address < symbol.value + symbol.size
