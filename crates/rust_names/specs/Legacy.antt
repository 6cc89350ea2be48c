-- Names of Rust by the legacy scheme (compiler/rustc_symbol_mangling/src/legacy.rs): `_ZN`, parts of a path, each with its
-- length before it, of which the last is a hash, and `E`.
use Rattle.std.specs.Prelude.{ℕ, zero, suc, ◌==◌, ◌&&◌, ◌||◌, Bool, true, false, not, List, [], ◌∷◌, length, take, drop, codes, nat_lt, if◌then◌else◌, Option, Some, None}
use Rattle.symbol_text.specs.declared.numerals.Numerals.TheVariants.{Decimal}
use Rattle.symbol_text.specs.Numbers.{after, number_of}
use Rattle.symbol_text.specs.Texts.{◌>>=◌, appended}
use Rattle.rust_names.specs.Escapes.{first_of, unescaped}

-- All are small hexadecimal digits.
abbrev pub all_hex : List ℕ → Bool
all_hex [] = true
all_hex (byte ∷ bytes) =
    if nat_lt byte 48 || nat_lt 102 byte || (nat_lt 57 byte && nat_lt byte 97) then false else all_hex bytes

-- A part is a hash: h and 16 digits.
abbrev pub is_hash_part : List ℕ → Bool
is_hash_part [] = false
is_hash_part (first ∷ digits) = (first == 104) && (length digits == 16) && all_hex digits

-- The part that the bytes begin with, and what follows it.
abbrev pub part_of : List ℕ → Option (List ℕ × List ℕ)
part_of bytes = number_of Decimal bytes >>= (λ found.
    if nat_lt (length found.1) found.0 then None else Some (take found.0 found.1, drop found.0 found.1))

-- The path ends: behind it there is nothing, or what compilers write after a point.
abbrev pub ends_path : List ℕ → Bool
ends_path [] = false
ends_path (first ∷ []) = first == 69
ends_path (first ∷ second ∷ rest) = (first == 69) && (second == 46)

-- A text with colons behind it, unless it is about to begin.
abbrev pub separated : Bool → List ℕ → Option (List ℕ)
separated true text = Some text
separated false text = appended (codes "::") text

-- A text with the next part of a path, and what follows it, or nothing if the next part is the hash.
unfoldable pub step_of : Bool → List ℕ → List ℕ → Option (Option (List ℕ) × List ℕ)
step_of is_first bytes text = part_of bytes >>= (λ found.
    if ends_path found.1 then (if is_first || not (is_hash_part found.0) then None else Some (None, text)) else
    (separated is_first text >>= (λ begun.
    unescaped (length found.0) (first_of found.0) begun >>= (λ whole. Some (Some found.1, whole)))))

-- A text with a path of so many parts at most.
abbrev pub path_of : ℕ → Bool → List ℕ → List ℕ → Option (List ℕ)
path_of zero is_first bytes text = None
path_of (suc most) is_first bytes text = step_of is_first bytes text >>= (λ found.
    elim found.0 [ None ↦ Some found.1 | Some left ↦ path_of most false left found.1 ])

-- What follows `_ZN`.
abbrev pub prefix_of : List ℕ → Option (List ℕ)
prefix_of name = after 95 name >>= (λ one. after 90 one >>= (λ two. after 78 two))

-- The text of a mangled name.
unfoldable pub demangled_of : List ℕ → Option (List ℕ)
demangled_of name = prefix_of name >>= (λ rest. path_of (length name) true rest [] >>= (λ path. appended path []))
