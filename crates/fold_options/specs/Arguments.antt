-- What the arguments of the program ask for.
use Rattle.std.specs.Prelude.{ℕ, ◌==◌, Bool, true, false, if◌then◌else◌, List, [], ◌∷◌, Option, Some, None, is_some, Result, Ok, Err}
use Rattle.fold_options.specs.Results.{result_and_then, result_map}
use Rattle.fold_options.specs.Names.{flag_of, valued_of}
use Rattle.fold_options.specs.Options.{Options, Refusal, defaults, missing_value, no_recording, second_recording, unknown_option, with_value}
use Rattle.fold_options.specs.declared.option_names.FlagOption.{FlagOption}
use Rattle.fold_options.specs.declared.option_names.FlagOption.TheVariants.{Addresses, NoKernel, PerThread, Inverted, Help}
use Rattle.fold_options.specs.declared.option_names.ValuedOption.{ValuedOption}

-- the folded stacks of the recording at a path, or how the program is called
pub data Request : Type 0 where
  fold : (recording : List ℕ) → Options → Request
  help : Request

-- What the words so far say, and the option whose value the next one is.
pub record Said : Type 0 where
  pub recording : Option (List ℕ)
  pub options : Options
  pub is_help : Bool
  pub awaited : Option ValuedOption

-- an option begins with a hyphen
abbrev pub begins_with_dash : List ℕ → Bool
begins_with_dash [] = false
begins_with_dash (byte ∷ bytes) = byte == 45

-- an option that has no value
abbrev pub with_flag : Said → FlagOption → Said
with_flag said Addresses = record said { options = record said.options { addresses = true } }
with_flag said NoKernel = record said { options = record said.options { no_kernel = true } }
with_flag said PerThread = record said { options = record said.options { per_thread = true } }
with_flag said Inverted = record said { options = record said.options { inverted = true } }
with_flag said Help = record said { is_help = true }

-- the recording, if none is named yet
abbrev pub said_recording : Said → List ℕ → Result Said Refusal
said_recording said word =
    if begins_with_dash word then Err (unknown_option word)
    else if is_some said.recording then Err (second_recording word)
    else Ok (record said { recording = Some word })

-- an option without a value, or the recording
abbrev pub said_plainly : Option FlagOption → Said → List ℕ → Result Said Refusal
said_plainly (Some flag) said word = Ok (with_flag said flag)
said_plainly None said word = said_recording said word

-- an option with a value to come, or else one without, or the recording
abbrev pub said_as : Option ValuedOption → Said → List ℕ → Result Said Refusal
said_as (Some option) said word = Ok (record said { awaited = Some option })
said_as None said word = said_plainly (flag_of word) said word

-- a word that is no value
abbrev pub said_word : Said → List ℕ → Result Said Refusal
said_word said word = said_as (valued_of word) said word

-- a word by what it is awaited as
abbrev pub said_awaited : Option ValuedOption → Said → List ℕ → Result Said Refusal
said_awaited (Some option) said word =
    result_map (λ options. record said { options = options; awaited = None }) (with_value said.options option word)
said_awaited None said word = said_word said word

-- one word more
abbrev pub said_next : Said → List ℕ → Result Said Refusal
said_next said word = said_awaited said.awaited said word

-- more words, one after the other
abbrev pub said_words : Said → List (List ℕ) → Result Said Refusal
said_words said [] = Ok said
said_words said (word ∷ words) = result_and_then (λ next. said_words next words) (said_next said word)

-- what is asked for, if a recording is named
abbrev pub fold_of : Options → Option (List ℕ) → Result Request Refusal
fold_of options (Some recording) = Ok (fold recording options)
fold_of options None = Err no_recording

-- what is asked for, if no value is missing
abbrev pub asked_with : Option ValuedOption → Said → Result Request Refusal
asked_with (Some option) said = Err (missing_value option)
asked_with None said = if said.is_help then Ok help else fold_of said.options said.recording

-- what words ask for
abbrev pub asked_by : Said → Result Request Refusal
asked_by said = asked_with said.awaited said

-- nothing is said yet
abbrev pub nothing_said : Said
nothing_said = record { recording = None; options = defaults; is_help = false; awaited = None }

-- what arguments ask for, without the program's name
abbrev pub request_of : List (List ℕ) → Result Request Refusal
request_of words = result_and_then asked_by (said_words nothing_said words)
