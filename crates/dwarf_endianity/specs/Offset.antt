-- Offsets, which are numbers below a limit.
use Rattle.std.specs.Prelude.{ℕ, ◌+◌, ◌-◌, ℤ, pos, negsuc, Result, Ok, Err, nat_lt, if◌then◌else◌}
use Rattle.dwarf_constants.specs.declared.error.Error.{Error}
use Rattle.dwarf_constants.specs.declared.error.Error.TheVariants.{UnsupportedOffset}

-- a number as an offset; an error if it is too large
abbrev pub offset_below : ℕ → ℕ → Result ℕ Error
offset_below limit n = if nat_lt n limit then Ok n else Err UnsupportedOffset

-- a signed number as an offset: a negative one counts down from the limit
abbrev pub wrapped_offset : ℕ → ℤ → ℕ
wrapped_offset limit (pos n) = n
wrapped_offset limit (negsuc n) = limit - (n + 1)
