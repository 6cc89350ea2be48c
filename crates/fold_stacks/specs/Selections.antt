-- Which samples are folded, and what each counts for.
use Rattle.std.specs.Prelude.{ℕ, ◌==◌, ◌&&◌, Bool, true, List, bytes_eq, Option, Some, None, unwrap_or}
use Rattle.std.specs.Option.{option_copied}
use Rattle.fold_options.specs.declared.options.Selection.{Selection}
use Rattle.fold_options.specs.declared.options.Weights.{Weights}
use Rattle.fold_options.specs.declared.options.Weights.TheVariants.{Samples, Period}
use Rattle.perf_files.specs.declared.fields.ThreadId.{ThreadId}

-- a number is the one that is asked for, if one is
abbrev pub is_asked : Option ℕ → ℕ → Bool
is_asked None number = true
is_asked (Some asked) number = asked == number

-- a name is the one that is asked for, if one is
abbrev pub is_named : Option (List ℕ) → List ℕ → Bool
is_named None name = true
is_named (Some asked) name = bytes_eq asked name

-- a sample of a thread, whose name is this, of an event of that name
abbrev pub is_selected : Selection → ThreadId → List ℕ → List ℕ → Bool
is_selected selection thread comm event =
    is_asked selection.pid thread.pid && is_asked selection.tid thread.tid
    && is_named (option_copied selection.comm) comm && is_named (option_copied selection.event) event

-- what a sample counts for: 1, or how many events it stands for, which is its event's period if it doesn't say
abbrev pub weight_of : Weights → Option ℕ → ℕ → ℕ
weight_of Samples recorded period = 1
weight_of Period recorded period = unwrap_or recorded period
