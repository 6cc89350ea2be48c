use Rattle.std.proofs.Common.{◌≡◌, ◌+◌, ◌-◌}
use Rattle.rust_names.specs.Texts.{more_bound_from}
use Rattle.rust_names.proofs.texts.append_more_bound.Given as goal

-- the lifetimes that are left, behind the text so far, give what all give
abbrev pub invariant-loop-i : goal.invariant-loop-i
invariant-loop-i l =
    more_bound_from (l.depth + l.i) (l.count - l.i) l.text.items ≡ more_bound_from l.depth l.count l.fn.text.items
