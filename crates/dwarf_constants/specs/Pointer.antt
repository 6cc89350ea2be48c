-- Encodings of pointers (LSB 5.0, 10.5): a byte of a format, an application and a bit of indirection.
use Rattle.std.specs.Prelude.{ℕ, ◌+◌, ◌*◌, ◌/◌, ◌%◌, List, [], ◌∷◌, map}
use Rattle.std.specs.List.{flat_map}

-- the format: the low four bits
abbrev pub format_of : ℕ → ℕ
format_of encoding = encoding % 16

-- the application: bits 4 to 6, not shifted
abbrev pub application_of : ℕ → ℕ
application_of encoding = encoding / 16 % 8 * 16

-- absptr, uleb128, udata2, udata4, udata8, sleb128, sdata2, sdata4, sdata8
abbrev pub formats : List ℕ
formats = 0x00 ∷ 0x01 ∷ 0x02 ∷ 0x03 ∷ 0x04 ∷ 0x09 ∷ 0x0a ∷ 0x0b ∷ 0x0c ∷ []

-- absptr, pcrel, textrel, datarel, funcrel, aligned
abbrev pub applications : List ℕ
applications = 0x00 ∷ 0x10 ∷ 0x20 ∷ 0x30 ∷ 0x40 ∷ 0x50 ∷ []

-- direct, indirect
abbrev pub directions : List ℕ
directions = 0x00 ∷ 0x80 ∷ []

-- omit, and each format with each application, direct and indirect
abbrev pub valid_encodings : List ℕ
valid_encodings =
    0xff ∷ flat_map (λ direction.
    flat_map (λ application.
    map (λ format. format + application + direction) formats) applications) directions
