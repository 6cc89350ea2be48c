use Rattle.std.proofs.Common.{◌≡◌, ◌++◌, take}
use Rattle.backtrace_text.specs.Names.{shown_name}
use Rattle.backtrace_text.proofs.names.push_name.Given as goal

abbrev pub invariant-loop-byte : goal.invariant-loop-byte
invariant-loop-byte l = l.text.items ≡ l.fn.text.items ++ shown_name (take l.byte-index l.name)
