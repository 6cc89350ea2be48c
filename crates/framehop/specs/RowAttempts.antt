-- What the attempt by a row is for its module.
use Rattle.std.specs.Result.{result_ok}
use Rattle.framehop_unwinder.specs.Attempt.{Attempt, Says, Evaluates}
use Rattle.framehop_unwinder.specs.declared.unwinding.UnwindFailure.{UnwindFailure}
use Rattle.framehop_unwinder.specs.declared.unwinding.UnwindFailure.TheVariants.{OfModule, OfFrame, OutOfMemory}
use Rattle.framehop_rows.specs.RowAttempt.{RowAttempt, Translates, Gives}
use Rattle.framehop_errors.specs.declared.dwarf.DwarfUnwinderError.{DwarfUnwinderError}
use Rattle.framehop_errors.specs.declared.dwarf.DwarfUnwinderError.TheVariants as why
use Rattle.framehop_errors.specs.declared.pe.PeUnwinderError.TheVariants.{MissingStackData}
use Rattle.framehop_errors.specs.declared.unwinder.UnwinderError.{UnwinderError}
use Rattle.framehop_errors.specs.declared.unwinder.UnwinderError.TheVariants as of

-- the module's attempt by that of a row, which leaves out why there is no caller
abbrev pub attempt_by_row : {Rule Registers : Type 0} → RowAttempt Rule Registers → Attempt Rule Registers
attempt_by_row (Translates rule) = Says rule
attempt_by_row (Gives caller) = Evaluates (λ registers words. result_ok (caller registers words))

-- what an error of call frames is for the module: it says nothing of the address if the FDE isn't known, and gives no caller for these
-- registers after any other but want of memory
abbrev pub dwarf_failure : DwarfUnwinderError → UnwindFailure
dwarf_failure (why.FdeFromOffsetFailed error) = OfModule
dwarf_failure (why.UnwindInfoForAddressFailed error) = OfModule
dwarf_failure why.LookupAddressOverflow = OfModule
dwarf_failure why.CouldNotRecoverCfa = OfFrame
dwarf_failure why.CouldNotRecoverReturnAddress = OfFrame
dwarf_failure why.CouldNotRecoverFramePointer = OfFrame
dwarf_failure why.DidNotAdvance = OfFrame
dwarf_failure why.StackPointerMovedBackwards = OfFrame
dwarf_failure why.OutOfMemory = OutOfMemory

-- what an error of unwind data is for the module: of PE files, only a word that is missing says something of these registers alone
abbrev pub failure_of : UnwinderError → UnwindFailure
failure_of (of.CompactUnwindInfo error) = OfModule
failure_of (of.Dwarf error) = dwarf_failure error
failure_of (of.Pe (MissingStackData word)) = OfFrame
failure_of (of.Pe error) = OfModule
failure_of of.NoDwarfData = OfModule
failure_of of.NoModuleUnwindData = OfModule
failure_of of.EhFrameHdrCouldNotFindAddress = OfModule
failure_of of.DwarfCfiIndexCouldNotFindAddress = OfModule
