-- The document of a core's stacks.
use Rattle.std.specs.Prelude.{ℕ, List, [], ◌∷◌, codes, map}
use Rattle.json.specs.Json.{Json}
use Rattle.json_program.specs.Lines.{line}
use Rattle.backtrace_headings.specs.Headings.{Heading}
use Rattle.backtrace_text.specs.Threads.{Backtrace}
use Rattle.backtrace_json.specs.Headings.{command_value, signal_value}
use Rattle.backtrace_json.specs.Threads.{thread_value}
use Rattle.backtrace_json.specs.Values.{array_of, json_text, object_of}

-- what a core says of its process, and the stacks of its threads
abbrev pub document_of : Heading → List Backtrace → Json
document_of heading stacks = object_of (
    (codes "command", command_value heading.process)
    ∷ (codes "signal", signal_value heading.signal)
    ∷ (codes "threads", array_of (map thread_value stacks))
    ∷ [])

-- the text of the document, which is one line
abbrev pub document_text : Heading → List Backtrace → List ℕ
document_text heading stacks = line (json_text (document_of heading stacks))
