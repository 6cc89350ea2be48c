-- The entries start where the values change, but for one at 0.
use Rattle.std.proofs.Common.{◌≡◌, length, sym, arith}
use Rattle.std.specs.Prelude.{Some, slice_get}
use Rattle.framehop_ranges.proofs.ChangeLaws.{changes-of-all, changes-of-none, changes-of-others}
use Rattle.framehop_ranges.proofs.range_table.RangeTable.change_count.Goals as goal

pub returns-in_default : goal.returns-in_default
returns-in_default g c f same =
    let table = c.args.self.now in
    changes-of-none f table.before table.entries.items table.rises table.fit table.differ same (sym (rw (c.in_default.is, c.deref.ensures.value) at c.first.ensures.value))

pub returns-then-first-eq0 : goal.returns-then-first-eq0
returns-then-first-eq0 g c f same =
    let table = c.args.self.now in
    let first = c.in-Some.first.now in
    let is : slice_get table.entries.items 0 ≡ Some first = sym (rw (c.in-Some.is, c.deref.ensures.value) at c.first.ensures.value) in
    let count : c.len-count.result ≡ length table.entries.items = omega (arith, table.entries.ok.0) in
    rw count (changes-of-others f table.before table.entries.items first table.rises table.fit table.differ same is (omega (arith, c.if-first-eq0.true)))

pub returns-else-first-eq0 : goal.returns-else-first-eq0
returns-else-first-eq0 g c f same =
    let table = c.args.self.now in
    let first = c.in-Some.first.now in
    let is : slice_get table.entries.items 0 ≡ Some first = sym (rw (c.in-Some.is, c.deref.ensures.value) at c.first.ensures.value) in
    let count : c.len-count.result ≡ length table.entries.items = omega (arith, table.entries.ok.0) in
    rw count (changes-of-all f table.before table.entries.items table.rises table.fit table.differ same first is (omega (arith, c.if-first-eq0.false)))
