-- What contracts see of lines.
use Rattle.kernel_symbols.specs.Lines.{AddressParts, LineParts, SymbolParts, before_byte}
use Rattle.kernel_symbols.specs.declared.lines.Address.{Address}
use Rattle.kernel_symbols.specs.declared.lines.KernelSymbol.{KernelSymbol}
use Rattle.kernel_symbols.specs.declared.lines.Line.{Line}

-- a symbol, with its name without the module that it is in
abbrev pub symbol_seen : KernelSymbol → SymbolParts
symbol_seen symbol = record { address = symbol.address; name = before_byte symbol.name.now 9 }

-- a line and what follows it, with their bytes
abbrev pub line_seen : Line → LineParts
line_seen line = record { bytes = line.bytes.now; rest = line.rest.now }

-- an address, and the bytes that follow it
abbrev pub address_seen : Address → AddressParts
address_seen address = record { number = address.number; rest = address.rest.now }
