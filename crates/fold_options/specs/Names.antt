-- The names of options.
use Rattle.std.specs.Prelude.{ℕ, ◌||◌, if◌then◌else◌, List, codes, bytes_eq, Option, Some, None}
use Rattle.fold_options.specs.declared.option_names.FlagOption.{FlagOption}
use Rattle.fold_options.specs.declared.option_names.FlagOption.TheVariants.{Addresses, NoKernel, PerThread, Inverted, Help}
use Rattle.fold_options.specs.declared.option_names.ValuedOption.{ValuedOption}
use Rattle.fold_options.specs.declared.option_names.ValuedOption.TheVariants.{Root, BuildIds, Pid, Tid, Comm, Event, Weights, Svg}

-- the name of an option with a value
abbrev pub name_of : ValuedOption → List ℕ
name_of Root = codes "--root"
name_of BuildIds = codes "--build-ids"
name_of Pid = codes "--pid"
name_of Tid = codes "--tid"
name_of Comm = codes "--comm"
name_of Event = codes "--event"
name_of Weights = codes "--weights"
name_of Svg = codes "--svg"

-- the option with a value that has a name
abbrev pub valued_of : List ℕ → Option ValuedOption
valued_of word =
    if bytes_eq word (name_of Root) then Some Root
    else if bytes_eq word (name_of BuildIds) then Some BuildIds
    else if bytes_eq word (name_of Pid) then Some Pid
    else if bytes_eq word (name_of Tid) then Some Tid
    else if bytes_eq word (name_of Comm) then Some Comm
    else if bytes_eq word (name_of Event) then Some Event
    else if bytes_eq word (name_of Weights) then Some Weights
    else if bytes_eq word (name_of Svg) then Some Svg
    else None

-- the option without a value that has a name
abbrev pub flag_of : List ℕ → Option FlagOption
flag_of word =
    if bytes_eq word (codes "--addresses") then Some Addresses
    else if bytes_eq word (codes "--no-kernel") then Some NoKernel
    else if bytes_eq word (codes "--per-thread") then Some PerThread
    else if bytes_eq word (codes "--inverted") then Some Inverted
    else if bytes_eq word (codes "--help") || bytes_eq word (codes "-h") then Some Help
    else None
