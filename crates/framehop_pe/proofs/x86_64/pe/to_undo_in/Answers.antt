use Rattle.std.proofs.Common.{subst}
use Rattle.std.proofs.lemmas.Result.{err_from_is_err_and}
use Rattle.framehop_pe_codes.specs.Sections.{file_of}
use Rattle.framehop_pe_codes.specs.declared.ends.RowCode.{RowCode}
use Rattle.framehop_pe.specs.PartViews.{IsEpilogRead}
use Rattle.framehop_pe.specs.ToUndo.{epilog_at}
use Rattle.framehop_pe.proofs.ToUndoReads.{read-epilog, read-codes, refused-codes}
use Rattle.framehop_pe.proofs.x86_64.pe.to_undo_in.Goals as goal

pub returns-in_err-codes-in-None-clause-err : goal.returns-in_err-codes-in-None-clause-err
returns-in_err-codes-in-None-clause-err c =
    let a = c.args in
    let from = err_from_is_err_and c.from_residual-in_err-codes-in-None.result c.from_residual-in_err-codes-in-None.ensures.1 in
    let info = c.in_ok-info.info in
    let read = subst (λ (row : RowCode). IsEpilogRead (epilog_at (file_of a.sections) row info.frame_register a.address a.is_first_frame) c.in_ok-found.found) c.row_code-row.ensures c.in_ok-found.ensures.ok in
    rw (from.1, from.2) (refused-codes (file_of a.sections) a.function a.address a.is_first_frame info c.in_ok-info.ensures.ok
    c.in_ok-found.found read c.in-None.is c.in_err-codes-in-None.field-0.0 c.in_err-codes-in-None.ensures.err)

pub returns-in-Some-clause-ok : goal.returns-in-Some-clause-ok
returns-in-Some-clause-ok c =
    let a = c.args in
    let info = c.in_ok-info.info in
    let read = subst (λ (row : RowCode). IsEpilogRead (epilog_at (file_of a.sections) row info.frame_register a.address a.is_first_frame) c.in_ok-found.found) c.row_code-row.ensures c.in_ok-found.ensures.ok in
    read-epilog (file_of a.sections) a.function a.address a.is_first_frame info c.in_ok-info.ensures.ok
    c.in_ok-found.found c.in-Some.epilog read c.in-Some.is

pub returns-in_ok-codes-in-None-clause-ok : goal.returns-in_ok-codes-in-None-clause-ok
returns-in_ok-codes-in-None-clause-ok c =
    let a = c.args in
    let info = c.in_ok-info.info in
    let read = subst (λ (row : RowCode). IsEpilogRead (epilog_at (file_of a.sections) row info.frame_register a.address a.is_first_frame) c.in_ok-found.found) c.row_code-row.ensures c.in_ok-found.ensures.ok in
    read-codes (file_of a.sections) a.function a.address a.is_first_frame info c.in_ok-info.ensures.ok
    c.in_ok-found.found read c.in-None.is c.in_ok-codes-in-None.codes c.in_ok-codes-in-None.ensures.ok
