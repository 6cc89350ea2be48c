-- What the fields of a JSON value (RFC 8259) hold: texts, numbers, addresses, bytes and lists.
use Rattle.std.specs.Prelude.{ℕ, ◌+◌, ◌*◌, ◌&&◌, Bool, true, false, nat_le, if◌then◌else◌, List, [], ◌∷◌, length, take, drop, codes, bytes_eq, Option, Some, None, option_and_then, Ok}
use Rattle.std.specs.List.{list_any}
use Rattle.std.specs.Option.{ok_or, option_map_or}
use Rattle.std.specs.Str.{is_utf8}
use Rattle.std.specs.Result.{result_ok}
use Rattle.hex.specs.Hex.{hex_digit_value, decode_of}
use Rattle.serde_json.specs.Data.{Data, null, boolean, number, string, array, object, Items, no_items, item, Members, no_members, member}
use Rattle.serde_json.specs.Read.{read}
use Rattle.serde_json.specs.Find.{get, as_str, as_number, as_u64}
use Rattle.json_program.specs.declared.fault.FaultName.TheVariants.{BadCommand, BadNumber, BadHex}
use Rattle.json_program.specs.Faults.{Checked, ◌⊛◌, ◌>>=◌}

-- the value that bytes spell, which are UTF-8 (RFC 3629) and JSON (RFC 8259) as the reader takes it
unfoldable pub json_of : List ℕ → Option Data
json_of bytes = if is_utf8 bytes then read bytes else None

-- the number that hexadecimal digits of either case spell, after digits that spell n
abbrev pub hex_number : ℕ → List ℕ → Option ℕ
hex_number n [] = Some n
hex_number n (c ∷ digits) = option_and_then (λ d. hex_number (n * 16 + d) digits) (hex_digit_value c)

-- the address that a text spells: `0x`, then 1 to 16 hexadecimal digits of either case
abbrev pub spelled_address : List ℕ → Option ℕ
spelled_address text =
    if bytes_eq (take 2 text) (codes "0x") && nat_le 3 (length text) && nat_le (length text) 18
    then hex_number 0 (drop 2 text) else None

-- a value that has to be a text
abbrev pub text_value : Data → Checked (List ℕ)
text_value d = ok_or (as_str d) BadCommand

-- a value that has to be the text of an address
abbrev pub address_value : Data → Checked ℕ
address_value d = do
  text ← text_value d
  ok_or (spelled_address text) BadNumber

-- a value that has to be a whole number: a negative one is out of range
abbrev pub number_value : Data → Checked ℕ
number_value d = do
  n ← ok_or (as_number d) BadCommand
  ok_or (as_u64 n) BadNumber

-- a value that has to be the text of bytes: two hexadecimal digits of either case for each
abbrev pub bytes_value : Data → Checked (List ℕ)
bytes_value d = do
  text ← text_value d
  ok_or (result_ok (decode_of text)) BadHex

-- a field that has to be there
abbrev pub field : {A : Type 0} → (Data → Checked A) → List ℕ → Data → Checked A
field value_in name d = do
  value ← ok_or (get name d) BadCommand
  value_in value

-- a value that may be left out
abbrev pub optional_value : {A : Type 0} → (Data → Checked A) → Option Data → Checked (Option A)
optional_value value_in None = Ok None
optional_value value_in (Some d) = Ok Some ⊛ value_in d

-- the elements of a list, each checked by itself
abbrev pub list_of : {A : Type 0} → (Data → Checked A) → Items → Checked (List A)
list_of value_in no_items = Ok []
list_of value_in (item d ds) = Ok (λ x xs. x ∷ xs) ⊛ value_in d ⊛ list_of value_in ds

-- each member has one of these names
abbrev pub are_among : List (List ℕ) → Members → Bool
are_among names no_members = true
are_among names (member key d ms) = list_any (λ name. bytes_eq name key) names && are_among names ms

-- the value is an object that has no field but these
abbrev pub has_only : List (List ℕ) → Data → Bool
has_only names null = false
has_only names (boolean b) = false
has_only names (number n) = false
has_only names (string s) = false
has_only names (array ds) = false
has_only names (object ms) = are_among names ms

-- a field is this text
abbrev pub is_text : List ℕ → List ℕ → Data → Bool
is_text text name d = option_map_or (λ s. bytes_eq s text) (option_and_then as_str (get name d)) false
