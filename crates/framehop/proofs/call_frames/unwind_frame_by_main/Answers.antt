use Rattle.std.proofs.Common.{sym, ap, ◌∙◌}
use Rattle.dwarf_frame_rows.specs.Effects.{Limits}
use Rattle.framehop_index.specs.FdeLookups.{section_of}
use Rattle.framehop_tables.specs.Covered.{covered_at, tabulated}
use Rattle.framehop.proofs.CoveredSteps.{nothing-answers, says-answers}
use Rattle.framehop.proofs.call_frames.unwind_frame_by_main.Goals as goal

pub returns-in-Says-clause-answers : goal.returns-in-Says-clause-answers
returns-in-Says-clause-answers g c =
    let m = g.A.DwarfUnwinding.rows in
    let main = c.args.frames.now.main in
    let covered = c.in-Some.ensures.covered in
    let is = covered.says ∙ ap (λ (l : Limits). covered_at (tabulated m g.A.RowRules.rule_of l m.vendor main.base_svma (section_of main)) c.args.relative_address) (sym g.P.AllocationPolicy.rows_limited) in
    says-answers m g.A.RowRules.rule_of g.met.A.RowRules.says g.P.AllocationPolicy.limits main covered.by_index c.args.relative_address c.args.is_first_frame c.in-Some.covered is
    g.A.DwarfUnwinding.MeetsExpression g.P.AllocationPolicy.may_allocate _ c.args.regs.now c.in-Says.rule c.in-Says.is

pub returns-in-Nothing-clause-answers : goal.returns-in-Nothing-clause-answers
returns-in-Nothing-clause-answers g c =
    let m = g.A.DwarfUnwinding.rows in
    let main = c.args.frames.now.main in
    let covered = c.in-Some.ensures.covered in
    let is = covered.says ∙ ap (λ (l : Limits). covered_at (tabulated m g.A.RowRules.rule_of l m.vendor main.base_svma (section_of main)) c.args.relative_address) (sym g.P.AllocationPolicy.rows_limited) in
    nothing-answers m g.A.RowRules.rule_of g.met.A.RowRules.says g.P.AllocationPolicy.limits main covered.by_index c.args.relative_address c.args.is_first_frame c.in-Some.covered is
    g.A.DwarfUnwinding.MeetsExpression g.P.AllocationPolicy.may_allocate _ c.args.regs.now c.in-Nothing.is
