use Rattle.std.proofs.Common.{◌∙◌}
use Rattle.std.specs.BTreeMap as tree_map
use Rattle.std.specs.Ordering.{nat_cmp}
use Rattle.std.proofs.lemmas.Result.{IfOk-weaker}
use Rattle.backtrace_lint.specs.HeaderTables.{named_by, offset_from, start_at, start_named}
use Rattle.backtrace_lint.proofs.Agree.{then-agree, untrue-agree}
use Rattle.backtrace_lint.proofs.header_tables.untrue_rows.Goals as goal

pub returns : goal.returns
returns c =
    let starts = tree_map.get nat_cmp c.in_ok-starts.starts in
    let agree = then-agree starts (start_at c.args.fdes.now) c.in_ok-starts.ensures in
    let same = untrue-agree (named_by starts c.args.section) (start_named c.args.section c.args.fdes.now) (λ address. agree (offset_from c.args.section address)) 0 c.args.rows.now in
    IfOk-weaker c.untrue_among.result _ _ (λ found is. is ∙ same) c.untrue_among.ensures
