-- Identifiers in names by the scheme v0 (RFC 2603, <undisambiguated-identifier>).
use Rattle.std.specs.Prelude.{ℕ, Bool, List, length, take, drop, nat_lt, if◌then◌else◌, Option, Some, None, is_some}
use Rattle.symbol_text.specs.declared.numerals.Numerals.TheVariants.{Decimal}
use Rattle.symbol_text.specs.Numbers.{after, number_of}
use Rattle.symbol_text.specs.Texts.{◌>>=◌}
use Rattle.rust_names.specs.declared.numbers.Identifier.{Identifier as RustIdentifier}

-- Its bytes are ASCII, or Punycode with an underscore for the delimiter.
pub record Identifier : Type 0 where
  pub is_punycode : Bool
  pub bytes : List ℕ

abbrev pub view : RustIdentifier → Identifier
view identifier = record { is_punycode = identifier.is_punycode; bytes = identifier.bytes.now }

-- A length, and what follows it. A 0 has no further digit.
abbrev pub length_of : List ℕ → Option (ℕ × List ℕ)
length_of bytes = elim (after 48 bytes) [ None ↦ number_of Decimal bytes | Some rest ↦ Some (0, rest) ]

-- What follows a byte, or all if they begin with another.
abbrev pub without : ℕ → List ℕ → List ℕ
without byte bytes = elim (after byte bytes) [ None ↦ bytes | Some rest ↦ rest ]

-- The identifier that the bytes begin with, and what follows it.
abbrev pub identifier_of : List ℕ → Option (Identifier × List ℕ)
identifier_of bytes = length_of (without 117 bytes) >>= (λ found.
    if nat_lt (length (without 95 found.1)) found.0 then None else
    Some (
      record { is_punycode = is_some (after 117 bytes); bytes = take found.0 (without 95 found.1) },
      drop found.0 (without 95 found.1),
    ))
