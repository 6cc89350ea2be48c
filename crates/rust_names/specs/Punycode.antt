-- Punycode (RFC 3492), as identifiers have it: an underscore is the delimiter.
use Rattle.std.specs.Prelude.{ℕ, zero, suc, ◌+◌, ◌-◌, ◌*◌, ◌/◌, ◌%◌, ◌==◌, ◌&&◌, ◌||◌, Bool, true, false, List, [], ◌∷◌, length, take, drop, insert, encode_utf8, nat_le, nat_lt, if◌then◌else◌, Option, Some, None}
use Rattle.symbol_text.specs.Texts.{◌>>=◌, appended}
use Rattle.rust_names.specs.declared.punycode.Decoding.{Decoding as RustDecoding}
use Rattle.rust_names.specs.declared.punycode.TheConstants.{DELTA_LIMIT, PUNYCODE_LIMIT, TURNS}

-- What was decoded so far: the digits that aren't read, the characters, the last of them that was inserted, where the
-- next can stand, and the bias.
pub record Decoding : Type 0 where
  pub rest : List ℕ
  pub characters : List ℕ
  pub last : ℕ
  pub index : ℕ
  pub bias : ℕ

abbrev pub view : RustDecoding → Decoding
view d = record { rest = d.rest.now; characters = d.characters.items; last = d.last; index = d.index; bias = d.bias }

-- The value of a digit (section 5): a to z, 0 to 9.
abbrev pub digit_of : ℕ → Option ℕ
digit_of byte =
    if nat_le 97 byte && nat_le byte 122 then Some (byte - 97) else
    if nat_le 48 byte && nat_le byte 57 then Some (byte - 48 + 26) else
    None

-- The digit that ends a number is below this one (section 3.3), by the bias and the digit's place.
abbrev pub threshold_of : ℕ → ℕ → ℕ
threshold_of bias place =
    if nat_lt (place - bias) 1 then 1 else if nat_lt 26 (place - bias) then 26 else place - bias

-- No character is that far.
abbrev pub passed : ℕ → ℕ → ℕ → Bool
passed place weight sum = nat_le DELTA_LIMIT place || nat_le DELTA_LIMIT weight || nat_le DELTA_LIMIT sum

-- A number with those digits that are left (section 6.2), and what follows them.
abbrev pub delta_from : ℕ → ℕ → ℕ → ℕ → List ℕ → Option (ℕ × List ℕ)
delta_from bias place weight sum [] = None
delta_from bias place weight sum (byte ∷ bytes) = digit_of byte >>= (λ value.
    if passed place weight sum then None else
    if nat_lt value (threshold_of bias place) then Some (sum + value * weight, bytes) else
    delta_from bias (place + 36) (weight * (36 - threshold_of bias place)) (sum + value * weight) bytes)

abbrev pub delta_of : ℕ → ℕ → List ℕ → Option (ℕ × List ℕ)
delta_of start bias bytes = delta_from bias 36 1 start bytes

-- What a delta is spread over the characters as (section 6.1).
abbrev pub damped_of : ℕ → Bool → ℕ
damped_of delta true = delta / 700
damped_of delta false = delta / 2

abbrev pub spread_of : ℕ → ℕ → Bool → ℕ
spread_of delta count is_first = damped_of delta is_first + damped_of delta is_first / count

abbrev pub bias_of : ℕ → ℕ → ℕ
bias_of place delta = place + 36 * delta / (delta + 38)

-- The bias after a delta, in so many turns at most.
abbrev pub scaled : ℕ → ℕ → ℕ → ℕ
scaled zero place delta = bias_of place delta
scaled (suc turns) place delta =
    if nat_le delta 455 then bias_of place delta else scaled turns (place + 36) (delta / 35)

-- A code of a character that stands so many after another.
abbrev pub is_scalar : ℕ → Bool
is_scalar code = nat_lt code 0xd800 || (nat_le 0xe000 code && nat_lt code 0x110000)

abbrev pub character_of : ℕ → ℕ → Option ℕ
character_of last more =
    if nat_le 0x110000 more then None else
    if is_scalar (last + more) then Some (last + more) else None

-- The next character is inserted (section 6.2).
abbrev pub with_character : Decoding → ℕ → List ℕ → ℕ → Decoding
with_character d sum rest next = record {
  rest = rest;
  characters = insert d.characters (sum % (length d.characters + 1)) next;
  last = next;
  index = sum % (length d.characters + 1) + 1;
  bias = scaled TURNS 0 (spread_of (sum - d.index) (length d.characters + 1) (d.index == 0));
}

unfoldable pub inserted : Decoding → Option Decoding
inserted d = delta_of d.index d.bias d.rest >>= (λ found.
    character_of d.last (found.0 / (length d.characters + 1)) >>= (λ next.
    Some (with_character d found.0 found.1 next)))

-- All characters are inserted, so many at most.
abbrev pub all_inserted : ℕ → Decoding → Option Decoding
all_inserted zero d = if length d.rest == 0 then Some d else None
all_inserted (suc most) d = if length d.rest == 0 then Some d else (inserted d >>= all_inserted most)

-- Where the last underscore stands, behind those places that were passed.
abbrev pub last_underscore : ℕ → Option ℕ → List ℕ → Option ℕ
last_underscore at found [] = found
last_underscore at found (byte ∷ bytes) = last_underscore (at + 1) (if byte == 95 then Some at else found) bytes

-- A text with characters behind it, as UTF-8.
abbrev pub characters_appended : List ℕ → List ℕ → Option (List ℕ)
characters_appended [] text = Some text
characters_appended (character ∷ characters) text =
    appended (encode_utf8 character) text >>= (λ more. characters_appended characters more)

-- A text with what digits make of the characters before them.
unfoldable pub made : List ℕ → List ℕ → List ℕ → Option (List ℕ)
made basic digits text =
    if length digits == 0 then None else
    (all_inserted (length digits) (record { rest = digits; characters = basic; last = 0x80; index = 0; bias = 72 }) >>= (λ d.
    characters_appended d.characters text))

-- A text with an identifier in Punycode behind it.
unfoldable pub decoded : List ℕ → List ℕ → Option (List ℕ)
decoded bytes text =
    if nat_lt PUNYCODE_LIMIT (length bytes) then None else
    (elim (last_underscore 0 None bytes) [
      | None ↦ made [] bytes text
      | Some at ↦ made (take at bytes) (drop (at + 1) bytes) text
    ])
