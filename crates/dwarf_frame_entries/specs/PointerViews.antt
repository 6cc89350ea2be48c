-- Reads of what may have encoded pointers, by the code's parameters of them.
use Rattle.std.specs.Prelude.{Result}
use Rattle.dwarf_constants.specs.declared.error.Error.{Error}
use Rattle.dwarf_readers.specs.Operands.{Parse}
use Rattle.dwarf_readers.specs.Stretch.{Reads, Stretch}
use Rattle.dwarf_frame_rows.specs.EncodedPointer.{Origins, origins_of}
use Rattle.dwarf_frame_rows.specs.declared.pointer.PointerEncodingParameters.{PointerEncodingParameters}

-- The code read as a definition reads by what pointers are relative to: it returned what is there, and left the rest.
abbrev pub ReadsIn : {R X : Type 0} → (R → Stretch) → PointerEncodingParameters R → (Origins → Parse X) → R → Result X Error → R → Type 0
ReadsIn stretch parameters parse old result new = Reads result (parse (origins_of stretch parameters) (stretch old)) (stretch new)
