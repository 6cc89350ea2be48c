-- The machine: what each symbol does, and how a name is read.
use Rattle.std.specs.Prelude.{ℕ, zero, suc, ◌+◌, ◌-◌, ◌||◌, Bool, true, false, List, [], ◌∷◌, ◌++◌, length, slice_get, take, drop, nat_le, nat_lt, if◌then◌else◌, Option, Some, None}
use Rattle.symbol_text.specs.Texts.{◌>>=◌, appended}
use Rattle.rust_names.specs.declared.grammar.Rule.{Rule}
use Rattle.rust_names.specs.declared.symbol.Frame.{Frame}
use Rattle.rust_names.specs.declared.symbol.Frame.TheVariants as frames
use Rattle.rust_names.specs.declared.symbol.Symbol.{Symbol}
use Rattle.rust_names.specs.declared.symbol.Symbol.TheVariants as symbols
use Rattle.rust_names.specs.Choices.{entry_of}
use Rattle.rust_names.specs.Grammar.{rows_of}
use Rattle.rust_names.specs.Numerals.{number_of}
use Rattle.rust_names.specs.Reading.{abi_read, basic_read, binder_read, character_read, closed_if_open, disambiguator_read, lifetime_read, name_read, number_read, object_lifetime_read, opened, opened_or_gone_on, path_ended, reference_lifetime_read, skipped, truth_read}
use Rattle.rust_names.specs.State.{State, shown, with_rest}
use Rattle.rust_names.specs.Words.{phrase_of}

-- Something is to be done next.
abbrev pub with_frame : State → Frame → State
with_frame s frame = record s { frames = s.frames ++ frame ∷ [] }

-- Reading by a rule begins behind the When of the production that is taken.
unfoldable pub entered : Rule → State → Option State
entered rule s = entry_of (slice_get s.rest 0) (slice_get s.rest 1) (rows_of rule) >>= (λ at.
    Some (with_frame s (frames.At rule (at + 1))))

-- A path is read behind the letter of a namespace, of which a name follows.
unfoldable pub entered_nested : Rule → State → Option State
entered_nested rule s = elim s.rest [
  | [] ↦ None
  | namespace ∷ rest ↦ entered rule (with_frame (with_rest s rest) (frames.Name namespace))
]

-- What a back reference may refer to ends before the B in front of what is read.
abbrev pub end_of_references : State → ℕ
end_of_references s = length s.name - length s.rest - 1

-- What a back reference refers to is read, and then what follows it; nothing where nothing is written (<backref>).
unfoldable pub entered_back : Rule → State → Option State
entered_back rule s = number_of s.rest >>= (λ found.
    if s.is_hidden then Some (with_rest s found.1) else
    if nat_le (end_of_references s) found.0 || nat_lt (length s.name) found.0 then None else
    entered rule (record (with_frame s (frames.Resume (length found.1))) { rest = drop found.0 s.name }))

-- Nothing is written meanwhile.
unfoldable pub entered_hidden : Rule → State → Option State
entered_hidden rule s = entered rule (record (with_frame s (frames.Hide s.is_hidden)) { is_hidden = true })

-- Lifetimes are bound meanwhile.
unfoldable pub entered_bound : Rule → State → Option State
entered_bound rule s = binder_read (with_frame s (frames.Unbind s.depth)) >>= entered rule

-- What a symbol does.
unfoldable pub performed : Symbol → State → Option State
performed (symbols.When first second) s = None
performed (symbols.Rule rule) s = entered rule s
performed (symbols.Nested rule) s = entered_nested rule s
performed (symbols.Back rule) s = entered_back rule s
performed (symbols.Hidden rule) s = entered_hidden rule s
performed (symbols.Bound rule) s = entered_bound rule s
performed symbols.Skip s = skipped s
performed symbols.Disambiguator s = disambiguator_read s
performed (symbols.Put byte) s = shown (appended (byte ∷ [])) s
performed (symbols.Write phrase) s = shown (appended (phrase_of phrase)) s
performed symbols.Name s = name_read s
performed symbols.Abi s = abi_read s
performed symbols.Lifetime s = lifetime_read s
performed symbols.ReferenceLifetime s = reference_lifetime_read s
performed symbols.ObjectLifetime s = object_lifetime_read s
performed symbols.BasicType s = basic_read s
performed symbols.Number s = number_read s
performed symbols.Truth s = truth_read s
performed symbols.Character s = character_read s
performed (symbols.Open is_open) s = opened is_open s
performed symbols.OpenOrGoOn s = opened_or_gone_on s
performed symbols.CloseIfOpen s = closed_if_open s

-- A symbol begins a production.
abbrev pub begins_production : Symbol → Bool
begins_production (symbols.When first second) = true
begins_production _ = false

-- The next symbol of a production, which ends where another one begins.
unfoldable pub continued : Rule → ℕ → Option Symbol → State → Option State
continued rule at None s = Some s
continued rule at (Some symbol) s =
    if begins_production symbol then Some s else performed symbol (with_frame s (frames.At rule (at + 1)))

-- Reading goes on where so many bytes are left.
abbrev pub resumed : ℕ → State → Option State
resumed left s = if nat_lt (length s.name) left then None else Some (with_rest s (drop (length s.name - left) s.name))

-- What is next is done.
unfoldable pub stepped : Frame → State → Option State
stepped (frames.At rule at) s = continued rule at (slice_get (rows_of rule) at) s
stepped (frames.Name namespace) s = path_ended namespace s
stepped (frames.Resume left) s = resumed left s
stepped (frames.Unbind depth) s = Some (record s { depth = depth })
stepped (frames.Hide is_hidden) s = Some (record s { is_hidden = is_hidden })

-- What is next is done, if anything is.
unfoldable pub advanced : State → Option (Bool × State)
advanced s = elim (slice_get s.frames (length s.frames - 1)) [
  | None ↦ Some (false, s)
  | Some frame ↦ stepped frame (record s { frames = take (length s.frames - 1) s.frames }) >>= (λ after. Some (true, after))
]

-- All is done, in so many steps at most.
abbrev pub run : ℕ → State → Option State
run zero s = None
run (suc steps) s = advanced s >>= (λ next. if next.0 then run steps next.1 else Some next.1)

-- The text, if all of the name is read.
unfoldable pub text_of_state : State → Option (List ℕ)
text_of_state s = if nat_lt 0 (length s.rest) then None else appended s.text []
