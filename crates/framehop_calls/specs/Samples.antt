-- The words of a sample: a copy of the stack, and a list of what is known beside it.
use Rattle.std.specs.Prelude.{ℕ, ◌+◌, ◌-◌, length, take, drop, Option, Some, None, is_some, Bool, ◌==◌, nat_le, ◌&&◌, ◌||◌, if◌then◌else◌, position, slice_index_or}
use Rattle.std.specs.Int.{from_le_bytes}
use Rattle.std.specs.Option.{option_or}
use Rattle.framehop_registers.specs.Callback.{Words}
use Rattle.framehop_calls.specs.declared.sample.KnownWord.{KnownWord}
use Rattle.framehop_calls.specs.declared.sample.Sample.{Sample}
use mir.Syntax.{w64}

-- the word at an address in the copy, the lowest byte first, if all its bytes are there
abbrev pub word_copied : Sample → ℕ → Option ℕ
word_copied sample address =
    if nat_le sample.start address && nat_le (address - sample.start + 8) (length sample.bytes.now)
    then Some (from_le_bytes w64 (take 8 (drop (address - sample.start) sample.bytes.now)))
    else None

-- the place in the list of what is known first of the word at an address
abbrev pub place_listed : Sample → ℕ → Option ℕ
place_listed sample address = position (λ known. known.address == address) sample.known.now

-- a word that can't be read
abbrev unreadable : KnownWord
unreadable = record { address = 0; word = 0; is_readable = 0 }

-- the word, if it can be read
abbrev if_readable : KnownWord → Option ℕ
if_readable known = if known.is_readable == 0 then None else Some known.word

-- what the list says of the word at an address
abbrev pub word_listed : Sample → ℕ → Option ℕ
word_listed sample address =
    elim (place_listed sample address) [ Some place ↦ if_readable (slice_index_or sample.known.now place unreadable) | None ↦ None ]

-- the words of a sample: those in the copy, else what the list says; a word of which nothing is known can't be read
abbrev pub words_of : Sample → Words
words_of sample address = elim (word_copied sample address) [ Some word ↦ Some word | None ↦ word_listed sample address ]

-- something is known of the word at an address
abbrev pub is_known : Sample → ℕ → Bool
is_known sample address = is_some (word_copied sample address) || is_some (place_listed sample address)

-- the first address that was asked for and that the list hasn't, after one more is asked for
abbrev pub first_unlisted : Sample → Option ℕ → ℕ → Option ℕ
first_unlisted sample wanted address = if is_some (place_listed sample address) then wanted else option_or wanted (Some address)

-- the first address that was asked for and of which nothing is known, after one more is asked for
abbrev pub first_unknown : Sample → Option ℕ → ℕ → Option ℕ
first_unknown sample wanted address = if is_known sample address then wanted else option_or wanted (Some address)
