-- What options mean.
use Rattle.std.specs.Prelude.{ℕ, Bool, false, if◌then◌else◌, List, [], codes, bytes_eq, Option, Some, None, ok_or, Result, Ok, Err}
use Rattle.fold_options.specs.Results.{result_map}
use Rattle.fold_options.specs.Numbers.{number_of}
use Rattle.fold_options.specs.declared.option_names.ValuedOption.{ValuedOption}
use Rattle.fold_options.specs.declared.option_names.ValuedOption.TheVariants as option
use Rattle.fold_options.specs.declared.options.Weights.{Weights}
use Rattle.fold_options.specs.declared.options.Weights.TheVariants.{Samples, Period}

-- What is said of a recording: where its files are, which samples are folded, and how.
pub record Options : Type 0 where
  pub root : List ℕ
  pub build_ids : Option (List ℕ)
  pub pid : Option ℕ
  pub tid : Option ℕ
  pub comm : Option (List ℕ)
  pub event : Option (List ℕ)
  pub weights : Weights
  pub addresses : Bool
  pub no_kernel : Bool
  pub per_thread : Bool
  pub inverted : Bool
  pub svg : Option (List ℕ)

-- why arguments are refused
pub data Refusal : Type 0 where
  unknown_option : (word : List ℕ) → Refusal
  missing_value : ValuedOption → Refusal
  not_a_number : (word : List ℕ) → Refusal
  unknown_weights : (word : List ℕ) → Refusal
  no_recording : Refusal
  second_recording : (word : List ℕ) → Refusal

-- nothing is said: all samples, each as one, by the names of their functions
abbrev pub defaults : Options
defaults = record {
  root = [];
  build_ids = None;
  pid = None;
  tid = None;
  comm = None;
  event = None;
  weights = Samples;
  addresses = false;
  no_kernel = false;
  per_thread = false;
  inverted = false;
  svg = None;
}

-- the number of a process or a thread
abbrev pub read_number : List ℕ → Result ℕ Refusal
read_number word = ok_or (number_of word) (not_a_number word)

-- the weights by a name
abbrev pub read_weights : List ℕ → Result Weights Refusal
read_weights word =
    if bytes_eq word (codes "samples") then Ok Samples
    else if bytes_eq word (codes "period") then Ok Period
    else Err (unknown_weights word)

-- options with a value more; a later value counts
abbrev pub with_value : Options → ValuedOption → List ℕ → Result Options Refusal
with_value options option.Root word = Ok (record options { root = word })
with_value options option.BuildIds word = Ok (record options { build_ids = Some word })
with_value options option.Pid word = result_map (λ pid. record options { pid = Some pid }) (read_number word)
with_value options option.Tid word = result_map (λ tid. record options { tid = Some tid }) (read_number word)
with_value options option.Comm word = Ok (record options { comm = Some word })
with_value options option.Event word = Ok (record options { event = Some word })
with_value options option.Weights word = result_map (λ weights. record options { weights = weights }) (read_weights word)
with_value options option.Svg word = Ok (record options { svg = Some word })
