use Rattle.std.proofs.Common.{sym}
use Rattle.framehop_pe.proofs.Halves.{row-found}
use Rattle.framehop_pe.proofs.pdata.function_of.Goals as goal

pub begin_at-requires : goal.begin_at-requires
begin_at-requires c = (row-found c.args.sections.now.pdata.now c.args.address c.in_ok-row.row (sym c.in_ok-row.ensures)).within

pub end_at-requires : goal.end_at-requires
end_at-requires c = (row-found c.args.sections.now.pdata.now c.args.address c.in_ok-row.row (sym c.in_ok-row.ensures)).within

pub unwind_info_at-requires : goal.unwind_info_at-requires
unwind_info_at-requires c = (row-found c.args.sections.now.pdata.now c.args.address c.in_ok-row.row (sym c.in_ok-row.ensures)).within

pub returns-clause-begin : goal.returns-clause-begin
returns-clause-begin c = rw c.begin_at.ensures (row-found c.args.sections.now.pdata.now c.args.address c.in_ok-row.row (sym c.in_ok-row.ensures)).begin

pub returns-clause-end : goal.returns-clause-end
returns-clause-end c = rw c.end_at.ensures (row-found c.args.sections.now.pdata.now c.args.address c.in_ok-row.row (sym c.in_ok-row.ensures)).end
