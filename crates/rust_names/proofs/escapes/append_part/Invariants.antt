use Rattle.std.proofs.Common.{◌≡◌, ◌-◌, length}
use Rattle.rust_names.specs.Escapes.{first_of, unescaped}
use Rattle.rust_names.proofs.escapes.append_part.Given as goal

-- the characters that are left give what all would give
abbrev pub invariant-loop-i : goal.invariant-loop-i
invariant-loop-i l =
    unescaped (length l.fn.bytes - l.i) l.rest l.text.items ≡ unescaped (length l.fn.bytes) (first_of l.fn.bytes) l.fn.text.items
