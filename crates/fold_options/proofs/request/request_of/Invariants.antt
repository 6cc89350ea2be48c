use Rattle.std.proofs.Common.{◌≡◌, drop, map}
use Rattle.std.specs.Prelude.{string_bytes}
use Rattle.fold_options.specs.ArgumentViews.{said_seen}
use Rattle.fold_options.specs.Arguments.{nothing_said, said_words}
use Rattle.fold_options.proofs.request.request_of.Given as goal

-- what the words so far say, with those that are left
abbrev pub invariant-loop-word : goal.invariant-loop-word
invariant-loop-word l =
    said_words (said_seen l.said) (map string_bytes (drop l.word-index l.words)) ≡ said_words nothing_said (map string_bytes l.words)
