-- Names of Rust by either scheme.
use Rattle.std.specs.Prelude.{ℕ, ◌*◌, ◌==◌, ◌&&◌, ◌||◌, Bool, true, false, not, List, [], ◌∷◌, length, take, nat_le, nat_lt, if◌then◌else◌, Option, Some, None, position}
use Rattle.symbol_text.specs.declared.writing.TheConstants.{TEXT_LIMIT}
use Rattle.symbol_text.specs.Numbers.{after}
use Rattle.symbol_text.specs.Texts.{◌>>=◌}
use Rattle.rust_names.specs.declared.grammar.Rule.TheVariants as rules
use Rattle.rust_names.specs.declared.names.TheConstants.{STEPS_PER_BYTE}
use Rattle.rust_names.specs.Legacy as legacy
use Rattle.rust_names.specs.Runs.{entered, run, text_of_state}
use Rattle.rust_names.specs.State.{began}

-- A letter, a digit or an underscore.
abbrev pub is_word_of : ℕ → Bool
is_word_of byte =
    (nat_le 97 byte && nat_le byte 122) || (nat_le 65 byte && nat_le byte 90)
    || (nat_le 48 byte && nat_le byte 57) || (byte == 95)

abbrev pub all_words : List ℕ → Bool
all_words [] = true
all_words (byte ∷ bytes) = if is_word_of byte then all_words bytes else false

-- Where the first point stands.
unfoldable pub point_of : List ℕ → Option ℕ
point_of bytes = position (λ byte. byte == 46) bytes

-- What stands before it.
abbrev pub body_of : List ℕ → List ℕ
body_of bytes = elim (point_of bytes) [ None ↦ bytes | Some end ↦ take end bytes ]

-- What follows _R.
abbrev pub scheme_of : List ℕ → Option (List ℕ)
scheme_of name = after 95 name >>= (λ rest. after 82 rest)

-- The text of a name of the scheme v0 (RFC 2603) behind _R.
unfoldable pub v0_demangled_of : List ℕ → Option (List ℕ)
v0_demangled_of rest =
    if nat_lt TEXT_LIMIT (length (body_of rest)) || not (all_words (body_of rest)) then None else
    (entered rules.Whole (began (body_of rest)) >>= (λ s.
    run (length (body_of rest) * STEPS_PER_BYTE) s >>= text_of_state))

-- The text of a mangled name.
abbrev pub demangled_of : List ℕ → Option (List ℕ)
demangled_of name = elim (scheme_of name) [ None ↦ legacy.demangled_of name | Some rest ↦ v0_demangled_of rest ]
