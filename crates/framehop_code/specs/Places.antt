-- Code as bytes at addresses, the places of its bytes, counted from the first, and the part that is within a range.
use Rattle.std.specs.Prelude.{ℕ, ◌≡◌, ◌-◌, ◌&&◌, nat_le, nat_lt, max, Bool, IsTrue, if◌then◌else◌, List, length, take, drop, slice_get, Option, Some, None}
use Rattle.framehop_code.specs.Ranges.{is_inside}
use Rattle.framehop_code.specs.declared.code.Code.{Code}
use Rattle.framehop_code.specs.declared.range.CodeRange.{CodeRange}

-- Bytes from an address on.
pub record CodeBytes : Type 0 where
  pub begin : ℕ
  pub bytes : List ℕ

abbrev pub code_of : Code → CodeBytes
code_of code = record { begin = code.begin; bytes = code.bytes.now }

-- The byte at an address, if there is one.
abbrev pub byte_at : CodeBytes → ℕ → Option ℕ
byte_at code address = if nat_le code.begin address then slice_get code.bytes (address - code.begin) else None

-- The place of the byte at an address, if there is one.
abbrev pub has_byte : CodeBytes → ℕ → Bool
has_byte code address = nat_le code.begin address && nat_lt (address - code.begin) (length code.bytes)

abbrev pub place_at : CodeBytes → ℕ → Option ℕ
place_at code address = if has_byte code address then Some (address - code.begin) else None

-- The part of the code within a range.
abbrev pub within : CodeRange → CodeBytes → CodeBytes
within range code =
    let begin = max code.begin range.begin in
    record { begin = begin; bytes = take (range.end - begin) (drop (begin - code.begin) code.bytes) }

-- Two pieces of code have the same bytes within a range: at each of its addresses the same, or both none.
abbrev pub SameWithin : CodeRange → CodeBytes → CodeBytes → Type 0
SameWithin range one other = (address : ℕ) → IsTrue (is_inside range address) → byte_at one address ≡ byte_at other address

-- A part has the bytes of the code that are inside a range, and no other.
abbrev pub IsPart : CodeRange → CodeBytes → CodeBytes → Type 0
IsPart range code part = (address : ℕ) → byte_at part address ≡ (if is_inside range address then byte_at code address else None)

-- Two pieces of code that have the same bytes within a range have one part there, if that has a byte at an address.
abbrev pub HaveOnePart : CodeRange → CodeBytes → CodeBytes → ℕ → Type 0
HaveOnePart range one other address =
    SameWithin range one other → IsTrue (has_byte (within range one) address) → within range one ≡ within range other
