use Rattle.dwarf_frame_instructions.specs.ProgramRows.{rows_left, steps_left}
use Rattle.framehop_ranges.specs.Ranges.{Sound}
use Rattle.framehop_tables.specs.Covered.{row_rules}
use Rattle.framehop_tables.proofs.RowLaws.{ReachesFrom}
use Rattle.framehop_tables.proofs.rows.add_rows.Given as goal

abbrev pub invariant-rows : goal.invariant-rows
invariant-rows g l =
    let limits = g.S.UnwindContextStorage.limits in
    let all = rows_left g.R.Reader.stretch g.R.Offset.ReaderOffset.limit g.R.Offset.ReaderOffset.value g.S-Stack-ArrayLike.items limits l.fn.rows in
    let left = rows_left g.R.Reader.stretch g.R.Offset.ReaderOffset.limit g.R.Offset.ReaderOffset.value g.S-Stack-ArrayLike.items limits l.rows in
    record {
      sound : Sound l.ranges;
      reached : ReachesFrom (row_rules g.A.DwarfUnwinding.rows g.A.RowRules.rule_of) l.span all l.fn.ranges l.ranges left;
    }

abbrev pub decreases-rows : goal.decreases-rows
decreases-rows g l = steps_left g.R.Reader.stretch g.R.Offset.ReaderOffset.limit l.rows
