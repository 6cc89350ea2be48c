-- So many entries that start at or below an address tell its value.
use Rattle.std.proofs.Common.{arith, ◌≡◌, ◌∙◌, ◌-◌, suc, sym, ap}
use Rattle.framehop_ranges.specs.RangeValues.{value_in}
use Rattle.framehop_ranges.proofs.RangeLaws.{value-found, value-none}
use Rattle.framehop_ranges.proofs.range_table.RangeTable.value_of.Goals as goal

pub returns-in-0 : goal.returns-in-0
unfolding value_in
returns-in-0 g c =
    let table = c.args.self.now in
    sym (value-none table.before table.entries.items c.args.address (rw c.in-0.is at c.requires.partition.1))

pub returns-in_default : goal.returns-in_default
unfolding value_in
returns-in_default g c =
    let table = c.args.self.now in
    let next : c.args.count ≡ suc (c.args.count - 1) = omega arith in
    ap (λ e. e.value) c.index.ensures
    ∙ sym (value-found table.before table.entries.items c.args.address c.args.count (c.args.count - 1) c.index.result.now next c.requires.bound c.requires.partition.0 c.requires.partition.1)
