use Rattle.std.proofs.Common.{◌≡◌, drop}
use Rattle.rust_names.specs.Texts.{all_dashed}
use Rattle.rust_names.proofs.texts.append_dashed.Given as goal

-- what is left, behind the text so far, gives what all give
abbrev pub invariant-loop-byte : goal.invariant-loop-byte
invariant-loop-byte l = all_dashed (drop l.byte-index l.bytes) l.text.items ≡ all_dashed l.bytes l.fn.text.items
