-- The names of the variants of each error, as they are printed: without what a variant carries.
use Rattle.std.specs.Prelude.{ℕ, List, codes}
use Rattle.framehop_errors.specs.declared.cfi_index.DwarfCfiIndexError.{DwarfCfiIndexError}
use Rattle.framehop_errors.specs.declared.cfi_index.DwarfCfiIndexError.TheVariants as cfi_index
use Rattle.framehop_errors.specs.declared.compact.CompactUnwindInfoUnwinderError.{CompactUnwindInfoUnwinderError}
use Rattle.framehop_errors.specs.declared.compact.CompactUnwindInfoUnwinderError.TheVariants as compact
use Rattle.framehop_errors.specs.declared.compact_format.CompactFormatError.{CompactFormatError}
use Rattle.framehop_errors.specs.declared.compact_format.CompactFormatError.TheVariants as compact_format
use Rattle.framehop_errors.specs.declared.dwarf.DwarfUnwinderError.{DwarfUnwinderError}
use Rattle.framehop_errors.specs.declared.dwarf.DwarfUnwinderError.TheVariants as dwarf
use Rattle.framehop_errors.specs.declared.pe.PeUnwinderError.{PeUnwinderError}
use Rattle.framehop_errors.specs.declared.pe.PeUnwinderError.TheVariants as pe
use Rattle.framehop_errors.specs.declared.unwinder.UnwinderError.{UnwinderError}
use Rattle.framehop_errors.specs.declared.unwinder.UnwinderError.TheVariants as unwinder

-- a variant of DwarfCfiIndexError: what an index can't be made for
abbrev pub index_error_name : DwarfCfiIndexError → List ℕ
index_error_name (cfi_index.Gimli _) = codes "Gimli"
index_error_name cfi_index.CouldNotSubtractBaseAddress = codes "CouldNotSubtractBaseAddress"
index_error_name cfi_index.RelativeAddressTooBig = codes "RelativeAddressTooBig"
index_error_name cfi_index.FdeOffsetTooBig = codes "FdeOffsetTooBig"
index_error_name cfi_index.OutOfMemory = codes "OutOfMemory"

-- a variant of CompactUnwindInfoUnwinderError: why a step by __unwind_info has no result
abbrev pub compact_error_name : CompactUnwindInfoUnwinderError → List ℕ
compact_error_name (compact.BadFormat _) = codes "BadFormat"
compact_error_name (compact.AddressOutsideRange _) = codes "AddressOutsideRange"
compact_error_name compact.CallerCannotBeFrameless = codes "CallerCannotBeFrameless"
compact_error_name compact.FunctionHasNoInfo = codes "FunctionHasNoInfo"
compact_error_name compact.BpOffsetDoesNotFit = codes "BpOffsetDoesNotFit"
compact_error_name (compact.BadOpcodeKind _) = codes "BadOpcodeKind"
compact_error_name (compact.BadDwarfUnwinding _) = codes "BadDwarfUnwinding"
compact_error_name compact.NoTextBytesToLookUpIndirectStackOffset = codes "NoTextBytesToLookUpIndirectStackOffset"
compact_error_name compact.IndirectStackOffsetOutOfBounds = codes "IndirectStackOffsetOutOfBounds"
compact_error_name compact.StackAdjustOverflow = codes "StackAdjustOverflow"
compact_error_name compact.StackSizeDoesNotFit = codes "StackSizeDoesNotFit"
compact_error_name compact.StubFunctionCannotBeCaller = codes "StubFunctionCannotBeCaller"
compact_error_name compact.InvalidFrameless = codes "InvalidFrameless"

-- a variant of CompactFormatError: what is wrong with the bytes of __unwind_info
abbrev pub compact_format_error_name : CompactFormatError → List ℕ
compact_format_error_name compact_format.Truncated = codes "Truncated"
compact_format_error_name (compact_format.BadPageKind _) = codes "BadPageKind"
compact_format_error_name compact_format.BadEncodingIndex = codes "BadEncodingIndex"

-- a variant of DwarfUnwinderError: why a step by call frame information has no result
abbrev pub dwarf_error_name : DwarfUnwinderError → List ℕ
dwarf_error_name (dwarf.FdeFromOffsetFailed _) = codes "FdeFromOffsetFailed"
dwarf_error_name (dwarf.UnwindInfoForAddressFailed _) = codes "UnwindInfoForAddressFailed"
dwarf_error_name dwarf.LookupAddressOverflow = codes "LookupAddressOverflow"
dwarf_error_name dwarf.CouldNotRecoverCfa = codes "CouldNotRecoverCfa"
dwarf_error_name dwarf.CouldNotRecoverReturnAddress = codes "CouldNotRecoverReturnAddress"
dwarf_error_name dwarf.CouldNotRecoverFramePointer = codes "CouldNotRecoverFramePointer"
dwarf_error_name dwarf.DidNotAdvance = codes "DidNotAdvance"
dwarf_error_name dwarf.StackPointerMovedBackwards = codes "StackPointerMovedBackwards"
dwarf_error_name dwarf.OutOfMemory = codes "OutOfMemory"

-- a variant of PeUnwinderError: why a step by Windows' unwind data has no result
abbrev pub pe_error_name : PeUnwinderError → List ℕ
pe_error_name (pe.MissingUnwindInfoData _) = codes "MissingUnwindInfoData"
pe_error_name (pe.MissingInstructionData _) = codes "MissingInstructionData"
pe_error_name (pe.MissingStackData _) = codes "MissingStackData"
pe_error_name pe.UnwindInfoParseError = codes "UnwindInfoParseError"
pe_error_name pe.Aarch64Unsupported = codes "Aarch64Unsupported"

-- a variant of UnwinderError: why a module's data gives no step
abbrev pub unwinder_error_name : UnwinderError → List ℕ
unwinder_error_name (unwinder.CompactUnwindInfo _) = codes "CompactUnwindInfo"
unwinder_error_name (unwinder.Dwarf _) = codes "Dwarf"
unwinder_error_name (unwinder.Pe _) = codes "Pe"
unwinder_error_name unwinder.NoDwarfData = codes "NoDwarfData"
unwinder_error_name unwinder.NoModuleUnwindData = codes "NoModuleUnwindData"
unwinder_error_name unwinder.EhFrameHdrCouldNotFindAddress = codes "EhFrameHdrCouldNotFindAddress"
unwinder_error_name unwinder.DwarfCfiIndexCouldNotFindAddress = codes "DwarfCfiIndexCouldNotFindAddress"
