-- Numbers of variable length (DWARF 5, 7.6).
use Rattle.std.specs.Prelude.{ℕ, ◌+◌, ◌-◌, ◌*◌, ◌%◌, ◌^◌, ◌≡◌, ◌≤◌, min, ℤ, pos, ◌-ℤ◌, List, [], ◌∷◌, ◌++◌, length, take, Bool, ◌&&◌, Option, Some, None, option_map, Result, Ok, Err, slice_index, nat_lt, nat_le, int_le, int_lt, neg_ℤ, if◌then◌else◌}
use Rattle.dwarf_constants.specs.declared.error.Error.{Error}
use Rattle.dwarf_constants.specs.declared.error.Error.TheVariants.{BadUnsignedLeb128, BadSignedLeb128}
use Rattle.dwarf_readers.specs.Stretch.{Stretch, ◌>>=◌, behind, end_of, ends_at, requirement}

-- the string that some bytes begin with: bytes of 128 and more, then one below 128
abbrev pub string_of : List ℕ → Option (List ℕ)
string_of [] = None
string_of (b ∷ bs) = if nat_lt b 128 then Some (b ∷ []) else option_map (λ string. b ∷ string) (string_of bs)

-- the unsigned value: the low seven bits of each byte, the least significant first
abbrev pub unsigned_value : List ℕ → ℕ
unsigned_value [] = 0
unsigned_value (b ∷ bs) = b % 128 + 128 * unsigned_value bs

-- bit 6 of the last byte is set
abbrev pub has_sign : List ℕ → Bool
has_sign string = nat_le 64 (slice_index string (length string - 1) % 128)

-- the signed value, in two's complement
abbrev pub signed_value : List ℕ → ℤ
signed_value string =
    if has_sign string then pos (unsigned_value string) -ℤ pos (128 ^ length string)
    else pos (unsigned_value string)

-- the value of a string, and what is left after the string; an error if the string has no value
abbrev pub value_behind : {A : Type 0} → Error → List ℕ → Stretch → Option A → Result (A × Stretch) Error
value_behind bad string s (Some value) = Ok (value, behind (length string) s)
value_behind bad string s None = Err bad

-- a number of at most n bytes: the value of the string in the first n bytes; an error if the value doesn't fit, if the string
-- is longer than n bytes, or if the bytes end before it does
abbrev pub leb128_within : {A : Type 0} → ℕ → Error → (List ℕ → Option A) → Stretch → Option (List ℕ) → Result (A × Stretch) Error
leb128_within n bad fitting s (Some string) = value_behind bad string s (fitting string)
leb128_within n bad fitting s None = if nat_lt (length s.bytes) n then Err (ends_at (s.offset + length s.bytes)) else Err bad

-- the unsigned value, if it is below 2^k
abbrev pub unsigned_below : ℕ → List ℕ → Option ℕ
unsigned_below k string = if nat_lt (unsigned_value string) (2 ^ k) then Some (unsigned_value string) else None

-- the signed value, if it fits 64 bits
abbrev pub signed_in_range : List ℕ → Option ℤ
signed_in_range string =
    if int_le (neg_ℤ (pos (2 ^ 63))) (signed_value string) && int_lt (signed_value string) (pos (2 ^ 63))
    then Some (signed_value string) else None

-- an unsigned number of at most n bytes that fits k bits
abbrev pub unsigned_within : ℕ → ℕ → Stretch → Result (ℕ × Stretch) Error
unsigned_within n k s = leb128_within n BadUnsignedLeb128 (unsigned_below k) s (string_of (take n s.bytes))

-- an unsigned number of at most ten bytes that fits 64 bits
abbrev pub unsigned_at : Stretch → Result (ℕ × Stretch) Error
unsigned_at s = unsigned_within 10 64 s

-- a signed number of at most ten bytes that fits 64 bits
abbrev pub signed_at : Stretch → Result (ℤ × Stretch) Error
signed_at s = leb128_within 10 BadSignedLeb128 signed_in_range s (string_of (take 10 s.bytes))

-- an unsigned number of at most three bytes that fits 16 bits: the number of a register, for example
abbrev pub unsigned_16_at : Stretch → Result (ℕ × Stretch) Error
unsigned_16_at s = unsigned_within 3 16 s

-- an unsigned number of at most ten bytes that fits 32 bits
abbrev pub unsigned_32_at : Stretch → Result (ℕ × Stretch) Error
unsigned_32_at s = do
  n ← unsigned_at s
  _ ← requirement (nat_lt n.0 (2 ^ 32)) BadUnsignedLeb128
  Ok n

-- what is left after an error: all but the first n bytes, or nothing if there are fewer
abbrev pub left_by_leb128 : ℕ → Stretch → Stretch
left_by_leb128 n s = behind (min n (length s.bytes)) s

-- what is left after a string of any length; an error if the bytes end before it does
abbrev pub behind_string : Stretch → Option (List ℕ) → Result Stretch Error
behind_string s (Some string) = Ok (behind (length string) s)
behind_string s None = Err (ends_at (end_of s))

-- The bytes are one string.
abbrev pub IsString : List ℕ → Type 0
IsString bytes = string_of bytes ≡ Some bytes

-- No string with the same value is shorter.
abbrev pub IsShortest : {V : Type 0} → (List ℕ → V) → List ℕ → Type 0
IsShortest value bytes = (other : List ℕ) → IsString other → value other ≡ value bytes → length bytes ≤ length other

-- A value is read back from its spelling, wherever it is and whatever bytes follow, and exactly those are left.
abbrev pub IsReadBack : {V : Type 0} → (Stretch → Result (V × Stretch) Error) → V → List ℕ → Type 0
IsReadBack read value spelling = (rest : List ℕ) (offset : ℕ) (big : Bool)
    → read (record { bytes = spelling ++ rest; offset = offset; big = big })
    ≡ Ok (value, record { bytes = rest; offset = offset + length spelling; big = big })
