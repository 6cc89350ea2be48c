use Rattle.std.proofs.Common.{arith, ◌∙◌}
use Rattle.framehop_tables.specs.Covered.{tabulated}
use Rattle.framehop_tables.proofs.RoomLaws.{room-indexed}
use Rattle.framehop_tables.proofs.rule_table.RuleTable.by_index.Goals as goal

pub returns : goal.returns
returns g c =
    let frame = g.Section._UnwindSectionPrivate.frame c.args.section.now c.args.bases.now in
    let t = tabulated g.A.DwarfUnwinding.rows g.A.RowRules.rule_of g.S.UnwindContextStorage.limits (g.Section._UnwindSectionPrivate.extensions c.args.section.now) c.args.base_svma frame in
    let ranges = c.in_ok-ranges.ensures in
    let room = room-indexed t c.args.index.now.fdes.items c.args.index.now.left_out c.requires.index in
    record {
      says = λ relative fits. c.in_ok-table.ensures.values relative ∙ ranges.says relative fits;
      few = omega (arith, c.in_ok-table.ensures.count, ranges.few, room);
    }
