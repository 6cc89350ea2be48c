use Rattle.std.proofs.Common.{ap, sym, subst}
use Rattle.dwarf_expressions.specs.Effects.{Stack, of_top, of_two, with_top, with_two}
use Rattle.dwarf_expressions.specs.StackViews.{Becomes, SizedValues}
use Rattle.dwarf_expressions.proofs.Stacks.{leaves_becomes, top_changes, two_change}
use Rattle.dwarf_expressions.proofs.stack.ValueStack.apply.Goals as goal

pub returns-in-Abs-clause-becomes : goal.returns-in-Abs-clause-becomes
returns-in-Abs-clause-becomes g c =
    let s = c.args.self.now in
    let is = top_changes s.address_size s.values c.args.operation c.in-Abs.is in
    let P : Stack → Type 0 = λ expected. Becomes g.L.ArrayLike.capacity expected c.change_top.result c.change_top.new.self.values in
    subst P (sym is) (leaves_becomes g.L.ArrayLike.capacity (g.L.ArrayLike.items c.self.inside.items) s.values (with_top s.address_size (of_top s.address_size c.args.operation) s.values) c.change_top.result c.change_top.new.self.values
    c.self.invariant.1 (ap (λ (view : SizedValues). view.values) c.self.view_is) c.change_top.ensures.shorter c.change_top.ensures.leaves)

pub returns-in-And-clause-becomes : goal.returns-in-And-clause-becomes
returns-in-And-clause-becomes g c =
    let s = c.args.self.now in
    let is = two_change s.address_size s.values c.args.operation c.in-And.is in
    let P : Stack → Type 0 = λ expected. Becomes g.L.ArrayLike.capacity expected c.change_two.result c.change_two.new.self.values in
    subst P (sym is) (leaves_becomes g.L.ArrayLike.capacity (g.L.ArrayLike.items c.self.inside.items) s.values (with_two s.address_size (of_two s.address_size c.args.operation) s.values) c.change_two.result c.change_two.new.self.values
    c.self.invariant.1 (ap (λ (view : SizedValues). view.values) c.self.view_is) c.change_two.ensures.shorter c.change_two.ensures.leaves)
