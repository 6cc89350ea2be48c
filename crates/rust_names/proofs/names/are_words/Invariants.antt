use Rattle.std.proofs.Common.{◌≡◌, drop}
use Rattle.rust_names.specs.Names.{all_words}
use Rattle.rust_names.proofs.names.are_words.Given as goal

-- each byte so far is a letter, a digit or an underscore
abbrev pub invariant-loop-byte : goal.invariant-loop-byte
invariant-loop-byte l = all_words (drop l.byte-index l.bytes) ≡ all_words l.bytes
