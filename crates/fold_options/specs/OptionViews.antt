-- Options and refusals as contracts see them.
use Rattle.std.specs.Option.{option_copied}
use Rattle.fold_options.specs.Options.{Options, Refusal, unknown_option, missing_value, not_a_number, unknown_weights, no_recording, second_recording}
use Rattle.fold_options.specs.declared.error.ArgumentError.{ArgumentError}
use Rattle.fold_options.specs.declared.error.ArgumentError.TheVariants as error
use Rattle.fold_options.specs.declared.options.FoldOptions.{FoldOptions}

-- options, with the bytes of their texts
abbrev pub options_seen : FoldOptions → Options
options_seen options = record {
  root = options.root.now;
  build_ids = option_copied options.build_ids;
  pid = options.selection.pid;
  tid = options.selection.tid;
  comm = option_copied options.selection.comm;
  event = option_copied options.selection.event;
  weights = options.weights;
  addresses = options.addresses;
  no_kernel = options.no_kernel;
  per_thread = options.per_thread;
  inverted = options.inverted;
  svg = option_copied options.svg;
}

-- an error, with the bytes of its word
abbrev pub refusal_seen : ArgumentError → Refusal
refusal_seen (error.UnknownOption word) = unknown_option word.now
refusal_seen (error.MissingValue option) = missing_value option
refusal_seen (error.NotANumber word) = not_a_number word.now
refusal_seen (error.UnknownWeights word) = unknown_weights word.now
refusal_seen error.NoRecording = no_recording
refusal_seen (error.SecondRecording word) = second_recording word.now
