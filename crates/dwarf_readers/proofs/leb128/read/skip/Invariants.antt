use Rattle.std.proofs.Common.{◌≡◌, length}
use Rattle.dwarf_readers.specs.Leb128.{behind_string, string_of}
use Rattle.dwarf_readers.specs.Stretch.{behind}
use Rattle.dwarf_readers.proofs.leb128.read.skip.Given as goal

-- where the string ends is seen as well from here
abbrev pub invariant-string : goal.invariant-string
invariant-string g l =
    let stretch = g.R.Reader.stretch in
    record {
      moved : behind_string (stretch l.r) (string_of (stretch l.r).bytes) ≡ behind_string (stretch l.fn.r) (string_of (stretch l.fn.r).bytes);
      all : behind (length (stretch l.r).bytes) (stretch l.r) ≡ behind (length (stretch l.fn.r).bytes) (stretch l.fn.r);
    }

abbrev pub decreases-string : goal.decreases-string
decreases-string g l = length (g.R.Reader.stretch l.r).bytes
