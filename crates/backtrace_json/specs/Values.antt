-- Values of JSON (RFC 8259), and the text of one.
use Rattle.std.specs.Prelude.{ℕ, List, [], ◌∷◌, decimal, Option, Some, None}
use Rattle.std.specs.Str.Lossy.{utf8_lossy}
use Rattle.json.specs.Json.{Json, null, number, string, object, array, Items, no_items, item, Members, no_members, member}
use Rattle.json.specs.Print.{print}
use Rattle.json.specs.Tree.{json_tokens}
use Rattle.json_program.specs.Lines.{hexadecimal}

-- the text of a value, without spaces
abbrev pub json_text : Json → List ℕ
json_text value = print (json_tokens value)

-- bytes as a text, with U+FFFD for each sequence that isn't UTF-8
abbrev pub text_value : List ℕ → Json
text_value bytes = string (utf8_lossy bytes)

-- an address, a text of `0x` and its hexadecimal digits
abbrev pub address_value : ℕ → Json
address_value address = string (hexadecimal address)

-- a number, in decimal digits
abbrev pub number_value : ℕ → Json
number_value count = number (decimal count)

-- a value, or null if there is none
abbrev pub or_null : Option Json → Json
or_null None = null
or_null (Some value) = value

-- the members of an object, in their order
abbrev pub members_of : List (List ℕ × Json) → Members
members_of [] = no_members
members_of (named ∷ others) = member named.0 named.1 (members_of others)

-- an object with these members
abbrev pub object_of : List (List ℕ × Json) → Json
object_of named = object (members_of named)

-- the elements of an array, in their order
abbrev pub items_of : List Json → Items
items_of [] = no_items
items_of (value ∷ values) = item value (items_of values)

-- an array of these elements
abbrev pub array_of : List Json → Json
array_of values = array (items_of values)
