-- Steps that read, and write what they read.
use Rattle.std.specs.Prelude.{ℕ, ◌+◌, ◌==◌, Bool, [], ◌∷◌, codes, if◌then◌else◌, Option, Some, None}
use Rattle.symbol_text.specs.Numbers.{after}
use Rattle.symbol_text.specs.Texts.{◌>>=◌, appended}
use Rattle.rust_names.specs.Identifiers.{identifier_of}
use Rattle.rust_names.specs.Numerals.{counted_of, nibbles_of, number_of}
use Rattle.rust_names.specs.State.{State, shown, with_rest}
use Rattle.rust_names.specs.Texts.{abi_appended, binder_appended, character_appended, identifier_appended, lifetime_appended, name_appended, number_appended, truth_appended}
use Rattle.rust_names.specs.Words.{basic_of}

-- Any byte is read.
abbrev pub skipped : State → Option State
skipped s = elim s.rest [ [] ↦ None | byte ∷ rest ↦ Some (with_rest s rest) ]

-- A disambiguator is read, if there is one (<disambiguator>).
unfoldable pub disambiguator_read : State → Option State
disambiguator_read s = counted_of 115 s.rest >>= (λ found. Some (with_rest s found.1))

unfoldable pub name_read : State → Option State
name_read s = identifier_of s.rest >>= (λ found. shown (identifier_appended found.0) (with_rest s found.1))

unfoldable pub abi_read : State → Option State
abi_read s = identifier_of s.rest >>= (λ found. shown (abi_appended found.0) (with_rest s found.1))

-- A path ends with a name in a namespace (<identifier>).
unfoldable pub path_ended : ℕ → State → Option State
path_ended namespace s =
    counted_of 115 s.rest >>= (λ number. identifier_of number.1 >>= (λ found.
    shown (name_appended namespace number.0 found.0) (with_rest s found.1)))

abbrev pub lifetime_written : ℕ → State → Option State
lifetime_written lifetime s = shown (lifetime_appended s.depth lifetime) s

-- A lifetime behind its L (<lifetime>).
unfoldable pub lifetime_read : State → Option State
lifetime_read s = number_of s.rest >>= (λ found. lifetime_written found.0 (with_rest s found.1))

-- The lifetime of a reference, unless there is none or it was erased.
unfoldable pub reference_lifetime_read : State → Option State
reference_lifetime_read s = elim (after 76 s.rest) [
  | None ↦ Some s
  | Some rest ↦ number_of rest >>= (λ found.
      if found.0 == 0 then Some (with_rest s found.1) else
      (lifetime_written found.0 (with_rest s found.1) >>= shown (appended (codes " "))))
]

-- The lifetime of a trait object, unless it was erased.
unfoldable pub object_lifetime_read : State → Option State
object_lifetime_read s = after 76 s.rest >>= (λ rest. number_of rest >>= (λ found.
    if found.0 == 0 then Some (with_rest s found.1) else
    (shown (appended (codes " + ")) (with_rest s found.1) >>= lifetime_written found.0)))

-- The lifetimes that are bound, if any are (<binder>). They aren't counted where nothing is written.
unfoldable pub binder_read : State → Option State
binder_read s = counted_of 71 s.rest >>= (λ found.
    if s.is_hidden then Some (with_rest s found.1) else
    (binder_appended s.depth found.0 s.text >>= (λ text.
    Some (record s { rest = found.1; text = text; depth = s.depth + found.0 }))))

unfoldable pub basic_read : State → Option State
basic_read s = elim s.rest [
  | [] ↦ None
  | letter ∷ rest ↦ basic_of letter >>= (λ word. shown (appended word) (with_rest s rest))
]

unfoldable pub number_read : State → Option State
number_read s = nibbles_of s.rest >>= (λ found. shown (number_appended found.0) (with_rest s found.1))

unfoldable pub truth_read : State → Option State
truth_read s = nibbles_of s.rest >>= (λ found. shown (truth_appended found.0) (with_rest s found.1))

unfoldable pub character_read : State → Option State
character_read s = nibbles_of s.rest >>= (λ found. shown (character_appended found.0) (with_rest s found.1))

-- The generic arguments of a trait are open, or there are none.
abbrev pub opened : Bool → State → Option State
opened is_open s = Some (record s { is_open = is_open })

abbrev pub opened_or_gone_on : State → Option State
opened_or_gone_on s = if s.is_open then shown (appended (codes ", ")) s else shown (appended (codes "<")) s

abbrev pub closed_if_open : State → Option State
closed_if_open s = if s.is_open then shown (appended (codes ">")) s else Some s
