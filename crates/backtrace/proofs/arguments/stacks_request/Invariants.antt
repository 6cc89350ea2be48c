use Rattle.std.proofs.Common.{◌≡◌, drop, map}
use Rattle.std.specs.Prelude.{string_bytes}
use Rattle.backtrace.specs.ArgumentViews.{parsed_seen}
use Rattle.backtrace.specs.Arguments.{nothing_said, parsed_words}
use Rattle.backtrace.proofs.arguments.stacks_request.Given as goal

-- what the words so far say, with those that are left
abbrev pub invariant-loop-word : goal.invariant-loop-word
invariant-loop-word l =
    parsed_words (parsed_seen l.parsed) (map string_bytes (drop l.word-index l.words)) ≡ parsed_words nothing_said (map string_bytes l.words)
