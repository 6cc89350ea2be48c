use Rattle.std.proofs.Common.{◌≡◌, ℕ, Some, None, Ok, Err, refl, ap, sym, ◌∙◌}
use Rattle.std.specs.Prelude.{option_and_then}
use Rattle.std.proofs.lemmas.Result.{err_from_is_err_and}
use Rattle.framehop_registers.specs.RegistersAarch64.{lr_of, fp_of}
use Rattle.framehop_registers.proofs.Laws.{over_none, over_weaker, over_both}
use Rattle.framehop_rows.specs.Columns.{Sources, cfa_by, column_by}
use Rattle.framehop_rows.specs.DirectRowAarch64.{restored}
use Rattle.framehop_rows.specs.RowAnswerAarch64.{register_value}
use Rattle.dwarf_frame_parts.specs.RowParts.{parts_as}
use Rattle.framehop_rows.specs.RowSources.{direct_sources}
use Rattle.framehop_rows.proofs.DirectRowsAarch64.{refused-is, answer-is}
use Rattle.framehop_rows.proofs.aarch64.dwarf.eval_parts.Goals as goal

-- the step is refused
pub returns-then-is_refused-clause-caller : goal.returns-then-is_refused-clause-caller
returns-then-is_refused-clause-caller g c =
    let number = g.R.Offset.ReaderOffset.value in
    let registers = c.args.regs.now in
    let parts = parts_as number c.args.parts.now in
    let first = c.args.is_first_frame in
    let sources : Sources = direct_sources g.S.Stack.ArrayLike.capacity c.args.encoding.address_size (g.R.Reader.stretch (g.Section._UnwindSectionPrivate.reader c.args.section.now)) (register_value registers) in
    let cfa : ℕ = c.in-Some.cfa in
    let cfa_is : Some cfa ≡ cfa_by sources parts.cfa = sym c.in-Some.is ∙ c.in_ok-cfa.ensures.value in
    over_none (λ words _. refused-is sources first registers words parts cfa cfa_is (sym c.if-is_refused.true ∙ c.is_refused.ensures))

-- there is no frame pointer
pub returns-in_default-restored-clause-caller : goal.returns-in_default-restored-clause-caller
returns-in_default-restored-clause-caller g c =
    let number = g.R.Offset.ReaderOffset.value in
    let registers = c.args.regs.now in
    let parts = parts_as number c.args.parts.now in
    let first = c.args.is_first_frame in
    let sources : Sources = direct_sources g.S.Stack.ArrayLike.capacity c.args.encoding.address_size (g.R.Reader.stretch (g.Section._UnwindSectionPrivate.reader c.args.section.now)) (register_value registers) in
    let cfa : ℕ = c.in-Some.cfa in
    let cfa_is : Some cfa ≡ cfa_by sources parts.cfa = sym c.in-Some.is ∙ c.in_ok-cfa.ensures.value in
    over_weaker c.in_ok-stored_fp.ensures.value (λ words fp _.
    answer-is sources first registers words parts cfa cfa_is _ None _ (sym c.if-is_refused.false ∙ c.is_refused.ensures) refl
    (c.in_default-restored.ensures ∙ ap (restored first c.fp-own_fp.result) (fp ∙ ap (λ own. option_and_then (column_by sources words cfa own) parts.fp) c.fp-own_fp.ensures) ∙ ap (λ own. restored first own (option_and_then (column_by sources words cfa (fp_of registers)) parts.fp)) c.fp-own_fp.ensures)
    refl)

-- memory is wanted for the link register
pub returns-in_err-stored_lr-clause-caller : goal.returns-in_err-stored_lr-clause-caller
returns-in_err-stored_lr-clause-caller g c =
    let error = err_from_is_err_and c.from_residual-in_err-stored_lr.result c.from_residual-in_err-stored_lr.ensures.1 in
    over_both c.in_ok-stored_fp.ensures.value c.in_err-stored_lr.ensures.value (λ words _ _ other. absurd (other (error.1 ∙ ap (λ e. Err e) error.2)))

-- there is no link register
pub returns-in_default-restored-2-clause-caller : goal.returns-in_default-restored-2-clause-caller
returns-in_default-restored-2-clause-caller g c =
    let number = g.R.Offset.ReaderOffset.value in
    let registers = c.args.regs.now in
    let parts = parts_as number c.args.parts.now in
    let first = c.args.is_first_frame in
    let sources : Sources = direct_sources g.S.Stack.ArrayLike.capacity c.args.encoding.address_size (g.R.Reader.stretch (g.Section._UnwindSectionPrivate.reader c.args.section.now)) (register_value registers) in
    let cfa : ℕ = c.in-Some.cfa in
    let cfa_is : Some cfa ≡ cfa_by sources parts.cfa = sym c.in-Some.is ∙ c.in_ok-cfa.ensures.value in
    over_both c.in_ok-stored_fp.ensures.value c.in_ok-stored_lr.ensures.value (λ words fp lr _.
    answer-is sources first registers words parts cfa cfa_is None (Some c.in-Some-restored.fp) _ (sym c.if-is_refused.false ∙ c.is_refused.ensures)
    (c.in_default-restored-2.ensures ∙ ap (restored first c.lr-own_lr.result) (lr ∙ ap (λ own. option_and_then (column_by sources words cfa own) parts.ra) c.lr-own_lr.ensures) ∙ ap (λ own. restored first own (option_and_then (column_by sources words cfa (lr_of registers)) parts.ra)) c.lr-own_lr.ensures)
    (c.in-Some-restored.ensures ∙ ap (restored first c.fp-own_fp.result) (fp ∙ ap (λ own. option_and_then (column_by sources words cfa own) parts.fp) c.fp-own_fp.ensures) ∙ ap (λ own. restored first own (option_and_then (column_by sources words cfa (fp_of registers)) parts.fp)) c.fp-own_fp.ensures)
    refl)

-- the caller is answered
pub returns-clause-caller : goal.returns-clause-caller
returns-clause-caller g c =
    let number = g.R.Offset.ReaderOffset.value in
    let registers = c.args.regs.now in
    let parts = parts_as number c.args.parts.now in
    let first = c.args.is_first_frame in
    let sources : Sources = direct_sources g.S.Stack.ArrayLike.capacity c.args.encoding.address_size (g.R.Reader.stretch (g.Section._UnwindSectionPrivate.reader c.args.section.now)) (register_value registers) in
    let cfa : ℕ = c.in-Some.cfa in
    let cfa_is : Some cfa ≡ cfa_by sources parts.cfa = sym c.in-Some.is ∙ c.in_ok-cfa.ensures.value in
    over_both c.in_ok-stored_fp.ensures.value c.in_ok-stored_lr.ensures.value (λ words fp lr _.
    answer-is sources first registers words parts cfa cfa_is (Some c.in-Some-restored-2.lr) (Some c.in-Some-restored.fp) _ (sym c.if-is_refused.false ∙ c.is_refused.ensures)
    (c.in-Some-restored-2.ensures ∙ ap (restored first c.lr-own_lr.result) (lr ∙ ap (λ own. option_and_then (column_by sources words cfa own) parts.ra) c.lr-own_lr.ensures) ∙ ap (λ own. restored first own (option_and_then (column_by sources words cfa (lr_of registers)) parts.ra)) c.lr-own_lr.ensures)
    (c.in-Some-restored.ensures ∙ ap (restored first c.fp-own_fp.result) (fp ∙ ap (λ own. option_and_then (column_by sources words cfa own) parts.fp) c.fp-own_fp.ensures) ∙ ap (λ own. restored first own (option_and_then (column_by sources words cfa (fp_of registers)) parts.fp)) c.fp-own_fp.ensures)
    (ap (λ r. Ok (record { return_address = lr_of r; registers = r })) c.registers_with.ensures))
