-- Arguments as contracts see them.
use Rattle.std.specs.Prelude.{map, string_bytes}
use Rattle.std.specs.Option.{option_copied}
use Rattle.backtrace.specs.Arguments.{Parsed, Request, Stacks, help, lint, stacks}
use Rattle.backtrace.specs.declared.arguments.CoreRequest.{CoreRequest}
use Rattle.backtrace.specs.declared.arguments.Parsed.{Parsed as Said}
use Rattle.backtrace.specs.declared.arguments.Request.{Request as Asked}
use Rattle.backtrace.specs.declared.arguments.Request.TheVariants as asked

-- what words say
abbrev pub parsed_seen : Said → Parsed
parsed_seen said = record {
  core = option_copied said.core;
  root = said.root.now;
  debug_root = said.debug_root.now;
  options = said.options;
  is_help = said.help;
  awaited = said.awaited;
}

-- the stacks that are asked for
abbrev pub stacks_seen : CoreRequest → Stacks
stacks_seen asked = record { core = asked.core.now; root = asked.root.now; debug_root = asked.debug_root.now; options = asked.options }

-- what is asked for
abbrev pub request_seen : Asked → Request
request_seen (asked.Stacks stacks_asked) = stacks (stacks_seen stacks_asked)
request_seen (asked.Lint files) = lint (map string_bytes files.now)
request_seen asked.Help = help
