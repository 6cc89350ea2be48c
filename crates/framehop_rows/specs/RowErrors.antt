-- The errors of a step by a row.
use Rattle.framehop_errors.specs.declared.dwarf.DwarfUnwinderError.{DwarfUnwinderError}
use Rattle.framehop_errors.specs.declared.dwarf.DwarfUnwinderError.TheVariants.{FdeFromOffsetFailed, UnwindInfoForAddressFailed, LookupAddressOverflow, CouldNotRecoverCfa, CouldNotRecoverReturnAddress, CouldNotRecoverFramePointer, DidNotAdvance, StackPointerMovedBackwards, OutOfMemory}

-- an error of a row, and not of the way to its FDE
abbrev pub IsOfRow : DwarfUnwinderError → Type 0
IsOfRow (FdeFromOffsetFailed error) = ⊥
IsOfRow (UnwindInfoForAddressFailed error) = ⊥
IsOfRow LookupAddressOverflow = ⊥
IsOfRow CouldNotRecoverCfa = Unit {0}
IsOfRow CouldNotRecoverReturnAddress = Unit {0}
IsOfRow CouldNotRecoverFramePointer = Unit {0}
IsOfRow DidNotAdvance = Unit {0}
IsOfRow StackPointerMovedBackwards = Unit {0}
IsOfRow OutOfMemory = Unit {0}
