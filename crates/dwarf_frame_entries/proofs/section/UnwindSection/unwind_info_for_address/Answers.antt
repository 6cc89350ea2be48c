use Rattle.std.proofs.Common.{ap, false, ◌≡◌, ℕ, Result}
use Rattle.std.proofs.lemmas.Result.{err_from_is_err_and}
use Rattle.dwarf_constants.specs.declared.error.Error.{Error}
use Rattle.dwarf_readers.specs.Stretch.{◌>>=◌}
use Rattle.dwarf_frame_rows.specs.Row.{Row}
use Rattle.dwarf_frame_entries.specs.Entries.{Fde}
use Rattle.dwarf_frame_entries.specs.EntryPrograms.{fde_row}
use Rattle.dwarf_frame_entries.proofs.LookupMemory.{address_lookup_memory}
use Rattle.dwarf_frame_entries.proofs.RowLookups.{fde-row, found-with-memory, no-fde}
use Rattle.dwarf_frame_entries.proofs.section.UnwindSection.unwind_info_for_address.Goals as goal

pub returns-in_err-fde : goal.returns-in_err-fde
returns-in_err-fde g c =
    let section = g.Self._UnwindSectionPrivate.frame c.args.self.now c.args.bases.now in
    let p = err_from_is_err_and c.from_residual.result c.from_residual.ensures.1 in
    record {
      row = λ may_allocate h. rw (p.1, p.2) (no-fde _ _ may_allocate c.in_err-fde.field-0.0 _ (c.in_err-fde.ensures may_allocate h));
      memory = λ fixed h. rw (p.1, p.2) (found-with-memory (address_lookup_memory section c.args.address) c.in_err-fde.field-0.0 (c.in_err-fde.ensures false h));
    }

pub returns : goal.returns
returns g c =
    let section = g.Self._UnwindSectionPrivate.frame c.args.self.now c.args.bases.now in
    let row : Fde → Result (Row ℕ) Error = λ fde. fde_row g.S.UnwindContextStorage.limits section (g.Self._UnwindSectionPrivate.extensions c.args.self.now) fde c.args.address in
    record {
      row = λ may_allocate h. fde-row g.R.Offset.ReaderOffset.value g.S.UnwindContextStorage.never_allocates (may_allocate ≡ false) _ _ c.unwind_info_for_address.result
          (ap (λ (found : Result Fde Error). found >>= row) (c.in_ok-fde.ensures may_allocate h)) c.unwind_info_for_address.ensures.row;
      memory = λ fixed h. c.unwind_info_for_address.ensures.memory fixed;
    }
