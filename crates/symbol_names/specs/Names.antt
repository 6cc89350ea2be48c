-- Names of symbols.
use Rattle.std.specs.Prelude.{◌≡◌, ◌≤◌, ℕ, List, Option, option_map, IfSome, Vec, vec_len}
use Rattle.std.specs.Global.{Global}
use Rattle.std.specs.Option.{option_or}
use Rattle.symbol_text.specs.declared.writing.TheConstants.{TEXT_LIMIT}
use Rattle.itanium_names.specs.Runs as itanium
use Rattle.rust_names.specs.Names as rust

-- The text of a name of Rust, and of one of C++.
abbrev pub rust_text_of : List ℕ → Option (List ℕ)
rust_text_of name = rust.demangled_of name

abbrev pub itanium_text_of : List ℕ → Option (List ℕ)
itanium_text_of name = itanium.demangled_of name

-- The text of a name: as one of Rust, or else as one of C++, as which each of Rust could be read.
abbrev pub text_of : List ℕ → Option (List ℕ)
text_of name = option_or (rust_text_of name) (itanium_text_of name)

-- What a call found is the text, if there is one.
abbrev pub IsText : Option (Vec ℕ Global) → Option (List ℕ) → Type 0
IsText found text = option_map (λ found. found.items) found ≡ text

-- A text isn't longer than its limit.
abbrev pub HasLimit : Option (Vec ℕ Global) → Type 0
HasLimit found = IfSome found (λ text. vec_len text ≤ TEXT_LIMIT)
