-- Arguments as contracts see them.
use Rattle.std.specs.Option.{option_copied}
use Rattle.fold_options.specs.Arguments.{Request, Said, fold, help}
use Rattle.fold_options.specs.OptionViews.{options_seen}
use Rattle.fold_options.specs.declared.request.Request.{Request as Asked}
use Rattle.fold_options.specs.declared.request.Request.TheVariants as asked
use Rattle.fold_options.specs.declared.request.Said.{Said as SaidWords}

-- what words say
abbrev pub said_seen : SaidWords → Said
said_seen said = record {
  recording = option_copied said.recording;
  options = options_seen said.options;
  is_help = said.help;
  awaited = said.awaited;
}

-- what is asked for
abbrev pub request_seen : Asked → Request
request_seen (asked.Fold request) = fold request.recording.now (options_seen request.options)
request_seen asked.Help = help
