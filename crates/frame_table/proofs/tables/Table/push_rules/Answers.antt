use Rattle.std.proofs.Common.{◌≤◌, length, ap, arith}
use Rattle.std.proofs.lemmas.List.{take_all}
use Rattle.frame_table.proofs.tables.Table.push_rules.Goals as goal

pub returns : goal.returns
returns g c =
    let end : length c.args.self.now.columns.items ≤ c.loop-register.register-index = omega (arith, ap length c.deref-register-items.ensures.value, c.loop-register-test.false) in
    rw (take_all c.loop-register.register-index c.args.self.now.columns.items end) at c.loop-register.invariant
