use Rattle.std.proofs.Common.{◌≡◌, drop}
use Rattle.std.specs.Prelude.{map, string_bytes}
use Rattle.backtrace.specs.Arguments.{option_among}
use Rattle.backtrace.proofs.arguments.option_among.Given as goal

-- whether there is one is so among the words that are left
abbrev pub invariant-loop-word : goal.invariant-loop-word
invariant-loop-word l = option_among (map string_bytes (drop l.word-index l.words)) ≡ option_among (map string_bytes l.words)
