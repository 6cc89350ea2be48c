use Rattle.std.proofs.lemmas.Result.{err_from_is_err_and}
use Rattle.framehop_pe_codes.specs.Sections.{file_of}
use Rattle.framehop_pe.proofs.AttemptAnswers.{refused-answers, undone-answers}
use Rattle.framehop_pe.proofs.FileRefusals.{refused-by_file}
use Rattle.framehop_pe.proofs.x86_64.pe.ArchX86_64PeUnwinding.unwind_frame.Goals as goal

pub returns-in_err-undoing-clause-answers : goal.returns-in_err-undoing-clause-answers
returns-in_err-undoing-clause-answers g c =
    let e = c.in_err-undoing.field-0.0 in
    let is = c.in_err-undoing.ensures.err in
    let from = err_from_is_err_and c.from_residual.result c.from_residual.ensures.1 in
    rw (from.1, from.2) (refused-answers _ _ _ e is (refused-by_file (file_of c.args.sections) c.args.address c.args.is_first_frame e is))

pub returns-clause-answers : goal.returns-clause-answers
returns-clause-answers g c =
    undone-answers _ _ _ _ c.undo.result _ c.in_ok-undoing.undoing c.in_ok-undoing.ensures.ok c.undo.ensures.undone
