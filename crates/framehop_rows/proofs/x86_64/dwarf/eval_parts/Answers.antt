use Rattle.std.proofs.Common.{◌≡◌, ℕ, Some, None, Err, refl, ap, sym, ◌∙◌}
use Rattle.std.specs.Prelude.{option_and_then, unwrap_or}
use Rattle.std.proofs.lemmas.Result.{err_from_is_err_and}
use Rattle.framehop_registers.specs.Registers.{bp_of}
use Rattle.framehop_registers.proofs.Laws.{over_both}
use Rattle.framehop_rows.specs.Columns.{Sources, column_by}
use Rattle.framehop_rows.specs.DirectRow.{direct_bp, frame_sources}
use Rattle.dwarf_frame_parts.specs.RowParts.{parts_as}
use Rattle.framehop_rows.proofs.DirectRows.{answer_is, refused_is, caller_is}
use Rattle.framehop_rows.proofs.x86_64.dwarf.eval_parts.Goals as goal

-- memory is wanted for the return address
pub returns-in_err-return_address-clause-caller : goal.returns-in_err-return_address-clause-caller
returns-in_err-return_address-clause-caller g c =
    let error = err_from_is_err_and c.from_residual-in_err-return_address.result c.from_residual-in_err-return_address.ensures.1 in
    over_both c.in_ok-stored_bp.ensures.value c.in_err-return_address.ensures.value (λ words _ _ other. absurd (other (error.1 ∙ ap (λ e. Err e) error.2)))

-- there is no return address
pub returns-in_default-2-clause-caller : goal.returns-in_default-2-clause-caller
returns-in_default-2-clause-caller g c =
    let number = g.R.Offset.ReaderOffset.value in
    let registers = c.args.regs.now in
    let parts = parts_as number c.args.parts.now in
    let sources : Sources = frame_sources g.S.Stack.ArrayLike.capacity c.args.encoding.address_size (g.R.Reader.stretch (g.Section._UnwindSectionPrivate.reader c.args.section.now)) registers in
    let cfa : ℕ = c.in-Some.cfa in
    over_both c.in_ok-stored_bp.ensures.value c.in_ok-return_address.ensures.value (λ words bp to _.
    answer_is sources c.args.is_first_frame registers words parts cfa None _
    (sym c.in-Some.is ∙ c.in_ok-cfa.ensures.value)
    (sym c.in_default-2.is ∙ to)
    refl)

-- the step is refused
pub returns-in-Some-refusal-clause-caller : goal.returns-in-Some-refusal-clause-caller
returns-in-Some-refusal-clause-caller g c =
    let number = g.R.Offset.ReaderOffset.value in
    let registers = c.args.regs.now in
    let parts = parts_as number c.args.parts.now in
    let sources : Sources = frame_sources g.S.Stack.ArrayLike.capacity c.args.encoding.address_size (g.R.Reader.stretch (g.Section._UnwindSectionPrivate.reader c.args.section.now)) registers in
    let cfa : ℕ = c.in-Some.cfa in
    let to : ℕ = c.in-Some-2.return_address in
    over_both c.in_ok-stored_bp.ensures.value c.in_ok-return_address.ensures.value (λ words bp read _.
    answer_is sources c.args.is_first_frame registers words parts cfa (Some to) _
    (sym c.in-Some.is ∙ c.in_ok-cfa.ensures.value)
    (sym c.in-Some-2.is ∙ read)
    (refused_is sources c.args.is_first_frame registers words parts cfa to c.in-Some-refusal.refusal c.in-Some-refusal.ensures.refusal))

-- the caller is answered
pub returns-in-None-clause-caller : goal.returns-in-None-clause-caller
returns-in-None-clause-caller g c =
    let number = g.R.Offset.ReaderOffset.value in
    let registers = c.args.regs.now in
    let parts = parts_as number c.args.parts.now in
    let sources : Sources = frame_sources g.S.Stack.ArrayLike.capacity c.args.encoding.address_size (g.R.Reader.stretch (g.Section._UnwindSectionPrivate.reader c.args.section.now)) registers in
    let cfa : ℕ = c.in-Some.cfa in
    let to : ℕ = c.in-Some-2.return_address in
    over_both c.in_ok-stored_bp.ensures.value c.in_ok-return_address.ensures.value (λ words stored read _.
    let bp : c.unwrap_or.result ≡ direct_bp sources registers words cfa parts.fp =
    c.unwrap_or.ensures ∙ ap (unwrap_or c.in_ok-stored_bp.stored_bp) c.bp-bp.ensures
    ∙ ap (λ o. unwrap_or o (bp_of registers))
    (stored ∙ ap (λ own. option_and_then (column_by sources words cfa own) parts.fp) c.bp-bp.ensures) in
    answer_is sources c.args.is_first_frame registers words parts cfa (Some to) _
    (sym c.in-Some.is ∙ c.in_ok-cfa.ensures.value)
    (sym c.in-Some-2.is ∙ read)
    (caller_is sources c.args.is_first_frame registers words parts cfa to c.unwrap_or.result c.in-None.ensures.refusal bp))
