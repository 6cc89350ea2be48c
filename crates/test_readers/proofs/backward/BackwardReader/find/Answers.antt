use Rattle.std.proofs.Common.{◌≡◌, ◌∙◌, None, Some, reverse, sym}
use Rattle.dwarf_readers.specs.Stretch.{count_before}
use Rattle.test_readers.proofs.Reversed.{position_is_count}
use Rattle.test_readers.proofs.backward.BackwardReader.find.Goals as goal

pub returns-in-Some : goal.returns-in-Some
returns-in-Some c =
    let bytes = reverse c.args.self.now.stored.now in
    let counted : count_before c.args.byte bytes ≡ Some c.in-Some.len = sym (position_is_count c.args.byte bytes) ∙ sym c.in-Some.ensures in
    rw counted

pub returns-in-None : goal.returns-in-None
returns-in-None c =
    let bytes = reverse c.args.self.now.stored.now in
    let counted : count_before c.args.byte bytes ≡ None = sym (position_is_count c.args.byte bytes) ∙ sym c.in-None.ensures in
    rw counted
