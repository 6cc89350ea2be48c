-- Offsets in bytes as the fields of unwind rules.
use Rattle.std.specs.Prelude.{ℕ, ◌%◌, ◌^◌, ℤ, pos, negsuc, Option, Some, None, option_and_then, ◌==◌, nat_lt, unsigned_abs, int_div, if◌then◌else◌}

-- the eighth of a multiple of 8
abbrev pub eighth_of : ℤ → Option ℤ
eighth_of n = if unsigned_abs n % 8 == 0 then Some (int_div n (pos 8)) else None

-- the sixteenth of a multiple of 16
abbrev pub sixteenth_of : ℤ → Option ℤ
sixteenth_of n = if unsigned_abs n % 16 == 0 then Some (int_div n (pos 16)) else None

-- a number as an unsigned one of 16 bits
abbrev pub as_u16 : ℤ → Option ℕ
as_u16 (pos n) = if nat_lt n (2 ^ 16) then Some n else None
as_u16 (negsuc n) = None

-- a number as a signed one of 16 bits
abbrev pub as_i16 : ℤ → Option ℤ
as_i16 (pos n) = if nat_lt n (2 ^ 15) then Some (pos n) else None
as_i16 (negsuc n) = if nat_lt n (2 ^ 15) then Some (negsuc n) else None

-- an offset in bytes as an unsigned number of words of 8 bytes
abbrev pub as_words : ℤ → Option ℕ
as_words offset = option_and_then as_u16 (eighth_of offset)

-- an offset in bytes as a signed number of words of 8 bytes
abbrev pub as_signed_words : ℤ → Option ℤ
as_signed_words offset = option_and_then as_i16 (eighth_of offset)

-- an offset in bytes as an unsigned number of pairs of words
abbrev pub pairs_of : ℤ → Option ℕ
pairs_of offset = option_and_then as_u16 (sixteenth_of offset)
