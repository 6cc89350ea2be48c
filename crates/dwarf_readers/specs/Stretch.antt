-- Stretches of a section, and what is read from them.
use Rattle.std.specs.Prelude.{ℕ, ◌+◌, ◌-◌, ℤ, List, [], ◌∷◌, length, take, drop, ◌==◌, Bool, true, false, Option, Some, None, option_map, suc, Result, Ok, Err, nat_lt, nat_le, ◌&&◌, slice_index, if◌then◌else◌, ◌≡◌}
use Rattle.std.specs.Int.{Width, w8, byte_len, cast_signed}
use Rattle.dwarf_constants.specs.declared.error.Error.{Error}
use Rattle.dwarf_constants.specs.declared.error.Error.TheVariants.{UnexpectedEof}
use Rattle.dwarf_endianity.specs.ByteOrder.{number_of}

-- a stretch of a section: its bytes, the offset of the first of them in the section, and whether its numbers are big-endian
pub record Stretch : Type 0 where
  pub bytes : List ℕ
  pub offset : ℕ
  pub big : Bool

-- Two stretches have the same bytes and the same byte order, at any offsets.
pub record AreAlike (s t : Stretch) : Type 0 where
  pub bytes : s.bytes ≡ t.bytes
  pub order : s.big ≡ t.big

-- a section as a whole
abbrev pub whole : Bool → List ℕ → Stretch
whole big section = record { bytes = section; offset = 0; big = big }

-- what is left after the first n bytes
abbrev pub behind : ℕ → Stretch → Stretch
behind n s = record { bytes = drop n s.bytes; offset = s.offset + n; big = s.big }

-- no bytes, at the same offset
abbrev pub empty_stretch : Stretch → Stretch
empty_stretch s = record { bytes = []; offset = s.offset; big = s.big }

-- the first n bytes
abbrev pub prefix : ℕ → Stretch → Stretch
prefix n s = record { bytes = take n s.bytes; offset = s.offset; big = s.big }

-- the offset after the last byte
abbrev pub end_of : Stretch → ℕ
end_of s = s.offset + length s.bytes

-- the error that the bytes end before a value does, with the reader at this offset
abbrev pub ends_at : ℕ → Error
ends_at offset = UnexpectedEof (record { 0 = offset })

infixl 10 ◌>>=◌
-- one read after another, up to the first error
abbrev pub ◌>>=◌ : {A B : Type 0} → Result A Error → (A → Result B Error) → Result B Error
(Ok x) >>= f = f x
(Err e) >>= f = Err e

-- an error if the test fails
abbrev pub requirement : Bool → Error → Result (Unit {0}) Error
requirement true e = Ok tt
requirement false e = Err e

-- the first n bytes alone, if there are as many
abbrev pub prefix_at : ℕ → Stretch → Result Stretch Error
prefix_at n s = if nat_lt (length s.bytes) n then Err (ends_at s.offset) else Ok (prefix n s)

-- what is left after the first n bytes, if there are as many
abbrev pub behind_at : ℕ → Stretch → Result Stretch Error
behind_at n s = if nat_lt (length s.bytes) n then Err (ends_at s.offset) else Ok (behind n s)

-- the first n bytes as a stretch, and what is left
abbrev pub split_at : ℕ → Stretch → Result (Stretch × Stretch) Error
split_at n s = if nat_lt (length s.bytes) n then Err (ends_at s.offset) else Ok (prefix n s, behind n s)

-- the first n bytes, and what is left
abbrev pub bytes_at : ℕ → Stretch → Result (List ℕ × Stretch) Error
bytes_at n s = if nat_lt (length s.bytes) n then Err (ends_at s.offset) else Ok (take n s.bytes, behind n s)

-- the number in the first n bytes, and what is left
abbrev pub number_at : ℕ → Stretch → Result (ℕ × Stretch) Error
number_at n s = if nat_lt (length s.bytes) n then Err (ends_at s.offset) else Ok (number_of s.big (take n s.bytes), behind n s)

-- the number of a width in the first bytes, in two's complement, and what is left
abbrev pub signed_number_at : Width → Stretch → Result (ℤ × Stretch) Error
signed_number_at w s =
    if nat_lt (length s.bytes) (byte_len w) then Err (ends_at s.offset)
    else Ok (cast_signed w (number_of s.big (take (byte_len w) s.bytes)), behind (byte_len w) s)

-- the first byte in two's complement, and what is left
abbrev pub signed_byte_at : Stretch → Result (ℤ × Stretch) Error
signed_byte_at s =
    if nat_lt (length s.bytes) 1 then Err (ends_at s.offset)
    else Ok (cast_signed w8 (slice_index s.bytes 0), behind 1 s)

-- how many bytes are before the first of this value, if there is one
abbrev pub count_before : ℕ → List ℕ → Option ℕ
count_before byte [] = None
count_before byte (b ∷ bs) = if b == byte then Some 0 else option_map suc (count_before byte bs)

-- a count, or the error that the bytes end without such a byte
abbrev pub found_at : Stretch → Option ℕ → Result ℕ Error
found_at s (Some n) = Ok n
found_at s None = Err (ends_at s.offset)

-- the bytes before the first zero as a stretch, and what is left after the zero
abbrev pub string_at : Stretch → Result (Stretch × Stretch) Error
string_at s = do
  n ← found_at s (count_before 0 s.bytes)
  Ok (prefix n s, behind (n + 1) s)

-- an offset in the section relative to the start of the stretch, if it is in the stretch or at its end
abbrev pub relative_offset : Stretch → ℕ → Option ℕ
relative_offset s offset = if nat_le s.offset offset && nat_le offset (end_of s) then Some (offset - s.offset) else None

-- the first byte, and what is left
abbrev pub byte_at : Stretch → Result (ℕ × Stretch) Error
byte_at s = if nat_lt (length s.bytes) 1 then Err (ends_at s.offset) else Ok (slice_index s.bytes 0, behind 1 s)

-- A move succeeded and left this stretch, or failed with the expected error.
abbrev pub Moves : Result (Unit {0}) Error → Result Stretch Error → Stretch → Type 0
Moves (Ok x) move left = move ≡ Ok left
Moves (Err e) move left = move ≡ Err e

-- A read returned what is there, as view shows it, and left this stretch, or failed with the expected error.
abbrev pub ReadsAs : {X Y : Type 0} → (X → Y) → Result X Error → Result (Y × Stretch) Error → Stretch → Type 0
ReadsAs view (Ok x) read left = read ≡ Ok (view x, left)
ReadsAs view (Err e) read left = read ≡ Err e

-- A read returned what is there and left this stretch, or failed with the expected error.
abbrev pub Reads : {X : Type 0} → Result X Error → Result (X × Stretch) Error → Stretch → Type 0
Reads (Ok x) read left = read ≡ Ok (x, left)
Reads (Err e) read left = read ≡ Err e
