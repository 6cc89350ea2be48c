use Rattle.std.proofs.Common.{◌≡◌, ◌++◌, drop, map}
use Rattle.folded_stacks.specs.Names.{shown_byte}
use Rattle.folded_stacks.proofs.names.push_frame_name.Given as goal

-- the text, with the bytes of the name that are left
abbrev pub invariant-loop-byte : goal.invariant-loop-byte
invariant-loop-byte l = l.text.items ++ map shown_byte (drop l.byte-index l.name) ≡ l.initial.text.items ++ map shown_byte l.name
