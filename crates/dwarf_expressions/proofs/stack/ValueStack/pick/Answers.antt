use Rattle.std.proofs.Common.{sym, subst}
use Rattle.dwarf_expressions.specs.Effects.{Stack}
use Rattle.dwarf_expressions.specs.StackViews.{Becomes}
use Rattle.dwarf_expressions.proofs.Stacks.{picked_is}
use Rattle.dwarf_expressions.proofs.stack.ValueStack.pick.Goals as goal

pub returns-clause-becomes : goal.returns-clause-becomes
returns-clause-becomes g c =
    let same = picked_is c.args.self.now.address_size c.args.index c.from.result c.args.self.now.values c.in_ok-value.value c.in_ok-value.ensures.value c.from.ensures c.in_ok-value.ensures.below in
    let P : Stack → Type 0 = λ expected. Becomes g.L.ArrayLike.capacity expected c.push.result c.push.new.self.values in
    subst P (sym same) c.push.ensures.becomes
