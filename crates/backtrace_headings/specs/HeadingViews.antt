-- Headings of the code, as contracts see them.
use Rattle.std.specs.Option.{option_map}
use Rattle.core_files.specs.ProcessViews.{process_seen}
use Rattle.backtrace_headings.specs.Headings as seen
use Rattle.backtrace_headings.specs.declared.heading.Heading.{Heading}

-- what a core says of its process
abbrev pub heading_view : Heading → seen.Heading
heading_view heading = record { process = option_map process_seen heading.process; signal = heading.signal }
