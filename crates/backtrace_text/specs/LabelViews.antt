-- What contracts see of the label of a thread.
use Rattle.std.specs.Option.{option_copied}
use Rattle.backtrace_text.specs.Threads.{Label}
use Rattle.backtrace_text.specs.declared.threads.ThreadLabel.{ThreadLabel}

-- a label
abbrev pub label_view : ThreadLabel → Label
label_view label = record { id = label.id; name = option_copied label.name; got_signal = label.got_signal }
