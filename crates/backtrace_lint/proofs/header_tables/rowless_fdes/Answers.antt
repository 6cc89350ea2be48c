use Rattle.std.proofs.Common.{◌∙◌}
use Rattle.std.proofs.lemmas.Result.{IfOk-weaker}
use Rattle.backtrace_lint.proofs.Agree.{rowless-agree}
use Rattle.backtrace_lint.proofs.header_tables.rowless_fdes.Goals as goal

pub returns : goal.returns
returns c =
    let same = rowless-agree c.in_ok-named.named c.args.section c.args.rows.now c.in_ok-named.ensures c.args.fdes.now in
    IfOk-weaker c.rowless_among.result _ _ (λ found is. is ∙ same) c.rowless_among.ensures
