use Rattle.std.proofs.Common.{arith, sym, ◌∙◌}
use Rattle.framehop_pe.specs.Rows.{pdata_rows, row_contains}
use Rattle.framehop_pe.proofs.Halves.{pass-on, pass-here, pass-end}
use Rattle.framehop_pe.proofs.pdata.pdata_lookup.Goals as goal

pub returns-then-contains : goal.returns-then-contains
returns-then-contains c =
    pass-here (pdata_rows c.args.bytes.now) c.loop-row.row (row_contains c.args.bytes.now c.args.address) _ (omega arith) (sym c.contains.ensures ∙ c.if-contains.true) c.loop-row.invariant

pub loop-row-preserved : goal.loop-row-preserved
loop-row-preserved c =
    pass-on (pdata_rows c.args.bytes.now) c.loop-row.row (row_contains c.args.bytes.now c.args.address) _ (omega arith) (sym c.contains.ensures ∙ c.if-contains.false) c.loop-row.invariant

pub returns : goal.returns
returns c =
    pass-end (pdata_rows c.args.bytes.now) c.loop-row.row (row_contains c.args.bytes.now c.args.address) _ (omega arith) c.loop-row.invariant
