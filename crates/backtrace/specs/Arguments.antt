-- What the arguments of the program ask for.
use Rattle.std.specs.Prelude.{ℕ, ◌+◌, ◌-◌, ◌*◌, ◌^◌, ◌==◌, ◌&&◌, ◌||◌, Bool, true, false, nat_le, nat_lt, if◌then◌else◌, List, [], ◌∷◌, codes, bytes_eq, Option, Some, None, is_some, option_and_then, option_map}
use Rattle.std.specs.List.{list_any}
use Rattle.backtrace.specs.declared.arguments.Awaited.{Awaited}
use Rattle.backtrace.specs.declared.arguments.Awaited.TheVariants.{Word, Root, DebugRoot, Thread, Limit}
use Rattle.backtrace_json.specs.declared.forms.TextForm.TheVariants.{Json, Lines}
use Rattle.backtrace_text.specs.declared.names.FunctionNames.TheVariants.{Demangled, Raw}
use Rattle.backtrace_walks.specs.declared.backtraces.BacktraceOptions.{BacktraceOptions}
use Rattle.backtrace_walks.specs.declared.backtraces.FrameOptions.{FrameOptions}

-- The stacks that are asked for: of the core at a path, whose files are below a folder, and files with their symbols below another.
pub record Stacks : Type 0 where
  pub core : List ℕ
  pub root : List ℕ
  pub debug_root : List ℕ
  pub options : BacktraceOptions

-- the stacks of a core, the findings of the files at some paths, or how the program is called
pub data Request : Type 0 where
  stacks : Stacks → Request
  lint : (files : List (List ℕ)) → Request
  help : Request

-- What the words so far say, and what the next one is.
pub record Parsed : Type 0 where
  pub core : Option (List ℕ)
  pub root : List ℕ
  pub debug_root : List ℕ
  pub options : BacktraceOptions
  pub is_help : Bool
  pub awaited : Awaited

-- the value of a decimal digit
abbrev pub digit_of : ℕ → Option ℕ
digit_of byte = if nat_le 48 byte && nat_le byte 57 then Some (byte - 48) else None

-- a number of 64 bits
abbrev pub if_fits : ℕ → Option ℕ
if_fits number = if nat_lt number (2 ^ 64) then Some number else None

-- a number with a digit more
abbrev pub number_with : ℕ → ℕ → Option ℕ
number_with number byte = option_and_then (λ digit. if_fits (number * 10 + digit)) (digit_of byte)

-- a number with more digits
abbrev pub number_from : ℕ → List ℕ → Option ℕ
number_from number [] = Some number
number_from number (byte ∷ bytes) = option_and_then (λ next. number_from next bytes) (number_with number byte)

-- the number that decimal digits say, one at least
abbrev pub number_of : List ℕ → Option ℕ
number_of [] = None
number_of (byte ∷ bytes) = number_from 0 (byte ∷ bytes)

-- an option begins with a hyphen
abbrev pub begins_with_dash : List ℕ → Bool
begins_with_dash [] = false
begins_with_dash (byte ∷ bytes) = byte == 45

-- the path of the core, if there is none yet
abbrev pub parsed_path : Parsed → List ℕ → Option Parsed
parsed_path parsed word = if is_some parsed.core || begins_with_dash word then None else Some (record parsed { core = Some word })

-- another of what is shown of frames
abbrev pub with_frames : FrameOptions → Parsed → Parsed
with_frames frames parsed = record parsed { options = record parsed.options { frames = frames } }

-- an option, or the path of the core
abbrev pub parsed_word : Parsed → List ℕ → Option Parsed
parsed_word parsed word =
    if bytes_eq word (codes "--root") then Some (record parsed { awaited = Root })
    else if bytes_eq word (codes "--debug-root") then Some (record parsed { awaited = DebugRoot })
    else if bytes_eq word (codes "--thread") then Some (record parsed { awaited = Thread })
    else if bytes_eq word (codes "--limit") then Some (record parsed { awaited = Limit })
    else if bytes_eq word (codes "--registers") then Some (with_frames (record parsed.options.frames { registers = true }) parsed)
    else if bytes_eq word (codes "--raw-names") then Some (with_frames (record parsed.options.frames { names = Raw }) parsed)
    else if bytes_eq word (codes "--json") then Some (record parsed { options = record parsed.options { form = Json } })
    else if bytes_eq word (codes "--help") || bytes_eq word (codes "-h") then Some (record parsed { is_help = true })
    else parsed_path parsed word

-- the id of a thread, after `--thread`
abbrev pub parsed_thread : Parsed → List ℕ → Option Parsed
parsed_thread parsed word =
    option_map (λ thread. record parsed { options = record parsed.options { thread = Some thread }; awaited = Word }) (number_of word)

-- a number of frames, after `--limit`
abbrev pub parsed_limit : Parsed → List ℕ → Option Parsed
parsed_limit parsed word =
    option_map (λ limit. record parsed { options = record parsed.options { limit = limit }; awaited = Word }) (number_of word)

-- a word, by what it is awaited as
abbrev pub parsed_as : Awaited → Parsed → List ℕ → Option Parsed
parsed_as Word parsed word = parsed_word parsed word
parsed_as Root parsed word = Some (record parsed { root = word; awaited = Word })
parsed_as DebugRoot parsed word = Some (record parsed { debug_root = word; awaited = Word })
parsed_as Thread parsed word = parsed_thread parsed word
parsed_as Limit parsed word = parsed_limit parsed word

-- one word more
abbrev pub parsed_next : Parsed → List ℕ → Option Parsed
parsed_next parsed word = parsed_as parsed.awaited parsed word

-- more words, one after the other
abbrev pub parsed_words : Parsed → List (List ℕ) → Option Parsed
parsed_words parsed [] = Some parsed
parsed_words parsed (word ∷ words) = option_and_then (λ next. parsed_words next words) (parsed_next parsed word)

-- nothing was said yet: all threads, up to 2^20 frames of each, names as they are written in programs, lines, and the folder in which
-- distributions have files with symbols
abbrev pub nothing_said : Parsed
nothing_said = record {
  core = None;
  root = [];
  debug_root = codes "/usr/lib/debug";
  options = record { thread = None; limit = 2 ^ 20; frames = record { registers = false; names = Demangled }; form = Lines };
  is_help = false;
  awaited = Word;
}

-- the stacks that words ask for, if they name a core, and no value of an option is missing
abbrev pub stacks_by : Awaited → Parsed → Option Request
stacks_by Word parsed =
    option_map (λ core. stacks (record { core = core; root = parsed.root; debug_root = parsed.debug_root; options = parsed.options })) parsed.core
stacks_by Root parsed = None
stacks_by DebugRoot parsed = None
stacks_by Thread parsed = None
stacks_by Limit parsed = None

-- what words ask for
abbrev pub request_by : Parsed → Option Request
request_by parsed = if parsed.is_help then Some help else stacks_by parsed.awaited parsed

-- the stacks that words ask for, or how the program is called
abbrev pub stacks_request : List (List ℕ) → Option Request
stacks_request words = option_and_then request_by (parsed_words nothing_said words)

-- a word is an option
abbrev pub option_among : List (List ℕ) → Bool
option_among words = list_any begins_with_dash words

-- the findings of files, one at least
abbrev pub lint_request : List (List ℕ) → Option Request
lint_request [] = None
lint_request (word ∷ words) = if option_among (word ∷ words) then None else Some (lint (word ∷ words))

-- what arguments ask for, without the program's name
abbrev pub request_of : List (List ℕ) → Option Request
request_of [] = None
request_of (word ∷ words) = if bytes_eq word (codes "--lint") then lint_request words else stacks_request (word ∷ words)
