use Rattle.std.proofs.Common.{◌≡◌, ◌-◌}
use Rattle.symbol_text.specs.Modifiers.{modified_all}
use Rattle.symbol_text.proofs.modifiers.modify_all.Given as goal

-- the elements that are left, behind those so far, give what all give
abbrev pub invariant-loop-i : goal.invariant-loop-i
invariant-loop-i l =
    modified_all l.modifier l.i (l.fn.pack.end - l.i) l.elements.items l.text.items
    ≡ modified_all l.modifier l.fn.pack.start (l.fn.pack.end - l.fn.pack.start) l.fn.elements.items l.fn.text.items
