use Rattle.std.proofs.Common.{◌≡◌, ◌++◌, string_bytes, take}
use Rattle.regular_files.specs.Paths.{digits_of}
use Rattle.regular_files.proofs.paths.push_digits.Given as goal

abbrev pub invariant-loop-byte : goal.invariant-loop-byte
invariant-loop-byte l = string_bytes l.path ≡ string_bytes l.fn.path ++ digits_of (take l.byte-index l.bytes)
