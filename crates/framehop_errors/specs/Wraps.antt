-- An error of compact unwind info as one of a module's unwind data.
use Rattle.framehop_errors.specs.declared.compact.CompactUnwindInfoUnwinderError.{CompactUnwindInfoUnwinderError}
use Rattle.framehop_errors.specs.declared.compact.CompactUnwindInfoUnwinderError.TheVariants.{BadDwarfUnwinding}
use Rattle.framehop_errors.specs.declared.unwinder.UnwinderError.{UnwinderError}
use Rattle.framehop_errors.specs.declared.unwinder.UnwinderError.TheVariants.{Dwarf, CompactUnwindInfo}

-- that of the call frames to which the info refers is theirs
abbrev pub of_compact_error : CompactUnwindInfoUnwinderError → UnwinderError
of_compact_error (BadDwarfUnwinding error) = Dwarf error
of_compact_error error = CompactUnwindInfo error
