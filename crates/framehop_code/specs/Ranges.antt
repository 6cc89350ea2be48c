-- Ranges of addresses. An address is a number below 2^64, and no sum wraps.
use Rattle.std.specs.Prelude.{ℕ, ◌+◌, ◌-◌, ◌^◌, ◌&&◌, nat_le, nat_lt, min, Bool, if◌then◌else◌, Option, Some, None}
use Rattle.framehop_code.specs.declared.range.CodeRange.{CodeRange}

-- An address is inside: from the begin on, and below the end.
abbrev pub is_inside : CodeRange → ℕ → Bool
is_inside range address = nat_le range.begin address && nat_lt address range.end

-- Each address but the last.
abbrev pub everywhere : CodeRange
everywhere = record { begin = 0; end = 2 ^ 64 - 1 }

-- So many addresses from one on, up to the last.
abbrev pub of_length : ℕ → ℕ → CodeRange
of_length begin length = record { begin = begin; end = min (begin + length) (2 ^ 64 - 1) }

-- The bounds of the code around an address: the row that a table has for it, if that contains the address, and else everywhere.
abbrev pub bounds_around : Option CodeRange → ℕ → CodeRange
bounds_around None address = everywhere
bounds_around (Some row) address = if is_inside row address then row else everywhere
