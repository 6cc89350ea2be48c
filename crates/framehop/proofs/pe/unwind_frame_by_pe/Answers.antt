use Rattle.std.proofs.Common.{◌≡◌, ap}
use Rattle.framehop_pe_codes.specs.Sections.{PeFile, file_of}
use Rattle.framehop_pe_codes.specs.declared.sections.PeSections.{PeSections}
use Rattle.framehop.proofs.PeTrials.{file-as, lent-as, pe-answers, pe-fails, said-as}
use Rattle.framehop.proofs.pe.unwind_frame_by_pe.Goals as goal

pub returns-in-Ok-clause-answers : goal.returns-in-Ok-clause-answers
returns-in-Ok-clause-answers g c =
    let sections : PeSections = record { pdata = c.pdata.result; increasing = c.is_increasing.result; rdata = c.as_ref.result; xdata = c.as_ref-2.result; text = c.as_ref-3.result; code_rules = c.code_rules.result } in
    let file : PeFile = c.args.file.now in
    let same : file_of sections ≡ file = file-as sections file c.pdata.ensures (lent-as _ _ _ c.as_ref.ensures.value c.rdata-rdata.ensures)
    (lent-as _ _ _ c.as_ref-2.ensures.value c.xdata-xdata.ensures) (lent-as _ _ _ c.as_ref-3.ensures.value c.text-text.ensures) c.code_rules.ensures in
    pe-answers g.A.DwarfUnwinding.rows g.A.DwarfUnwinding.MeetsExpression g.P.AllocationPolicy.limits g.P.AllocationPolicy.may_allocate c.args.is_first_frame
    _ _ _ _ c.in-Ok.answer _ c.in-Ok.ensures.keeps
    (said-as _ _ _ _ _ _ _ (ap (λ (f : PeFile). g.A.PeUnwinding.pe_attempt f c.args.relative_address c.args.is_first_frame) same) c.in-Ok.ensures.answers)

pub returns-in-Err-clause-answers : goal.returns-in-Err-clause-answers
returns-in-Err-clause-answers g c =
    let sections : PeSections = record { pdata = c.pdata.result; increasing = c.is_increasing.result; rdata = c.as_ref.result; xdata = c.as_ref-2.result; text = c.as_ref-3.result; code_rules = c.code_rules.result } in
    let file : PeFile = c.args.file.now in
    let same : file_of sections ≡ file = file-as sections file c.pdata.ensures (lent-as _ _ _ c.as_ref.ensures.value c.rdata-rdata.ensures)
    (lent-as _ _ _ c.as_ref-2.ensures.value c.xdata-xdata.ensures) (lent-as _ _ _ c.as_ref-3.ensures.value c.text-text.ensures) c.code_rules.ensures in
    pe-fails g.A.DwarfUnwinding.rows g.A.DwarfUnwinding.MeetsExpression g.P.AllocationPolicy.limits g.P.AllocationPolicy.may_allocate c.args.is_first_frame
    _ _ _ _ c.in-Err.error c.failure_of.result _ c.failure_of.ensures c.in-Err.ensures.keeps
    (said-as _ _ _ _ _ _ _ (ap (λ (f : PeFile). g.A.PeUnwinding.pe_attempt f c.args.relative_address c.args.is_first_frame) same) c.in-Err.ensures.answers)
