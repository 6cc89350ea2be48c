-- Texts of names, lifetimes and constants.
use Rattle.std.specs.Prelude.{ℕ, zero, suc, ◌+◌, ◌-◌, ◌==◌, ◌&&◌, ◌||◌, Bool, List, [], ◌∷◌, length, codes, nat_le, nat_lt, if◌then◌else◌, Option, Some, None}
use Rattle.symbol_text.specs.Texts.{◌>>=◌, appended, decimal_appended}
use Rattle.rust_names.specs.declared.texts.TheConstants.{LIFETIME_LIMIT}
use Rattle.rust_names.specs.Identifiers.{Identifier}
use Rattle.rust_names.specs.Numerals.{hex_value_of}
use Rattle.rust_names.specs.Punycode.{decoded}
use Rattle.rust_names.specs.Words.{special_of}

-- A text with an identifier behind it.
unfoldable pub identifier_appended : Identifier → List ℕ → Option (List ℕ)
identifier_appended identifier text =
    if identifier.is_punycode then decoded identifier.bytes text else appended identifier.bytes text

-- A namespace is one of special names: a capital letter.
abbrev pub is_special_of : ℕ → Bool
is_special_of namespace = nat_le 65 namespace && nat_le namespace 90

-- What a special name is: a word, or the letter of its namespace.
abbrev pub kind_of : ℕ → List ℕ
kind_of namespace = elim (special_of namespace) [ None ↦ namespace ∷ [] | Some word ↦ word ]

unfoldable pub kind_appended : ℕ → List ℕ → Option (List ℕ)
kind_appended namespace text = appended (codes "::{") text >>= (λ opened. appended (kind_of namespace) opened)

-- A text with an identifier behind it, with a mark before that, if it has any bytes.
unfoldable pub ordinary_appended : List ℕ → Identifier → List ℕ → Option (List ℕ)
ordinary_appended mark identifier text =
    if length identifier.bytes == 0 then Some text else
    (appended mark text >>= (λ marked. identifier_appended identifier marked))

-- A text with a special name behind it, as ::{closure:name#0}.
unfoldable pub special_appended : ℕ → ℕ → Identifier → List ℕ → Option (List ℕ)
special_appended namespace number identifier text = do
  opened ← kind_appended namespace text
  named ← ordinary_appended (codes ":") identifier opened
  marked ← appended (codes "#") named
  numbered ← decimal_appended number marked
  appended (codes "}") numbered

-- A text with a name in a namespace behind it.
unfoldable pub name_appended : ℕ → ℕ → Identifier → List ℕ → Option (List ℕ)
name_appended namespace number identifier text =
    if is_special_of namespace then special_appended namespace number identifier text
    else ordinary_appended (codes "::") identifier text

-- A byte of the name of an ABI, in which underscores stand for dashes.
abbrev pub dashed_of : ℕ → ℕ
dashed_of byte = if byte == 95 then 45 else byte

abbrev pub all_dashed : List ℕ → List ℕ → Option (List ℕ)
all_dashed [] text = Some text
all_dashed (byte ∷ bytes) text = appended (dashed_of byte ∷ []) text >>= (λ more. all_dashed bytes more)

-- A text with the name of an ABI behind it.
unfoldable pub abi_appended : Identifier → List ℕ → Option (List ℕ)
abi_appended identifier text =
    if identifier.is_punycode || (length identifier.bytes == 0) then None else all_dashed identifier.bytes text

-- A text with the name of the lifetime that was bound as such: a letter, or a number behind 26 of them.
unfoldable pub bound_appended : ℕ → List ℕ → Option (List ℕ)
bound_appended index text =
    if nat_lt index 26 then appended ((97 + index) ∷ []) text else
    (appended (codes "_") text >>= (λ marked. decimal_appended index marked))

-- A text with a lifetime behind it, where so many are bound. 0 is one that was erased, 1 the one that was bound last.
unfoldable pub lifetime_appended : ℕ → ℕ → List ℕ → Option (List ℕ)
lifetime_appended depth lifetime text =
    if nat_lt depth lifetime then None else
    (appended (codes "'") text >>= (λ marked.
    if lifetime == 0 then appended (codes "_") marked else bound_appended (depth - lifetime) marked))

-- A text with a lifetime behind it that is bound behind another.
unfoldable pub next_bound_appended : ℕ → List ℕ → Option (List ℕ)
next_bound_appended index text = appended (codes ", '") text >>= (λ marked. bound_appended index marked)

-- A text with so many lifetimes more behind it.
abbrev pub more_bound_from : ℕ → ℕ → List ℕ → Option (List ℕ)
more_bound_from index zero text = Some text
more_bound_from index (suc count) text =
    next_bound_appended index text >>= (λ more. more_bound_from (index + 1) count more)

-- A text with the lifetimes behind it that are bound where some are.
unfoldable pub binder_appended : ℕ → ℕ → List ℕ → Option (List ℕ)
binder_appended depth count text =
    if nat_lt LIFETIME_LIMIT depth || nat_lt (LIFETIME_LIMIT - depth) count then None else
    if count == 0 then Some text else
    (appended (codes "for<'") text >>= (λ opened.
    bound_appended depth opened >>= (λ first.
    more_bound_from (depth + 1) (count - 1) first >>= (λ all.
    appended (codes "> ") all))))

-- A text with a number behind it: a decimal one, or its hexadecimal digits if it takes over 64 bits.
unfoldable pub number_appended : List ℕ → List ℕ → Option (List ℕ)
number_appended digits text =
    if length digits == 0 then None else
    (elim (hex_value_of digits) [
      | Some number ↦ decimal_appended number text
      | None ↦ appended (codes "0x") text >>= (λ marked. appended digits marked)
    ])

-- A text with a truth value behind it.
unfoldable pub truth_appended : List ℕ → List ℕ → Option (List ℕ)
truth_appended [] text = None
truth_appended (first ∷ rest) text =
    if nat_lt 0 (length rest) then None else
    if first == 48 then appended (codes "false") text else
    if first == 49 then appended (codes "true") text else
    None

-- A text with a character behind it by its code, or by its digits if it isn't one of ASCII that can be seen.
unfoldable pub quoted_appended : ℕ → List ℕ → List ℕ → Option (List ℕ)
quoted_appended code digits text =
    if code == 9 then appended (codes "\\t") text else
    if code == 10 then appended (codes "\\n") text else
    if code == 13 then appended (codes "\\r") text else
    if nat_lt 32 code && nat_lt code 126 then appended (code ∷ []) text else
    (appended (codes "\\u{") text >>= (λ opened. appended digits opened >>= (λ coded. appended (codes "}") coded)))

-- A text with a character in quotes behind it.
unfoldable pub character_appended : List ℕ → List ℕ → Option (List ℕ)
character_appended digits text =
    if (length digits == 0) || nat_lt 8 (length digits) then None else
    (hex_value_of digits >>= (λ code.
    appended (codes "'") text >>= (λ opened.
    quoted_appended code digits opened >>= (λ quoted.
    appended (codes "'") quoted))))
