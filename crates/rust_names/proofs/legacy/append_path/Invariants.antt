use Rattle.std.proofs.Common.{◌≡◌, ◌-◌, true}
use Rattle.rust_names.specs.Legacy.{path_of}
use Rattle.rust_names.proofs.legacy.append_path.Given as goal

-- the parts that are left give what all would give
abbrev pub invariant-loop-i : goal.invariant-loop-i
invariant-loop-i l = path_of (l.most - l.i) l.is_first l.rest l.text.items ≡ path_of l.most true l.fn.bytes l.fn.text.items
