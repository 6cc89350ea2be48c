-- The lines of findings, each of which begins with the file and the section.
use Rattle.std.specs.Prelude.{ℕ, ◌+◌, List, [], ◌∷◌, ◌++◌, length, codes, decimal, Option, Some, None}
use Rattle.dwarf_constants.specs.Error.{variant_name}
use Rattle.json_program.specs.Lines.{hexadecimal, line}
use Rattle.backtrace_lint.specs.declared.fdes.Fault.{Fault}
use Rattle.backtrace_lint.specs.declared.left_out.LeftOut.{LeftOut}
use Rattle.backtrace_lint.specs.declared.left_out.LeftOutCause.{LeftOutCause}
use Rattle.backtrace_lint.specs.declared.left_out.LeftOutCause.TheVariants.{Unread, FarStart, FarOffset}
use Rattle.backtrace_lint.specs.declared.overlaps.Overlap.{Overlap}
use Rattle.backtrace_lint.specs.declared.overlaps.SpannedFde.{SpannedFde}

-- the path of a file, and the name of a section
pub record Place : Type 0 where
  pub file : List ℕ
  pub section : List ℕ

-- what a line begins with
abbrev pub place_text : Place → List ℕ
place_text place = place.file ++ codes ": " ++ place.section ++ codes ": "

-- how many there are of something, before the first
abbrev pub count_text : Place → (what : List ℕ) → (count : ℕ) → List ℕ
count_text place what count = place_text place ++ what ++ codes ": " ++ decimal count ++ codes ", first "

-- the error that ends a list of entries, and the offset of what can't be read
abbrev pub fault_line : Place → Fault → List ℕ
fault_line place fault = place_text place ++ codes "fault: " ++ line (variant_name fault.error ++ codes " at " ++ hexadecimal fault.offset)

-- the line of the error that ends a list of entries, if one does
abbrev pub fault_text : Place → Option Fault → List ℕ
fault_text place None = []
fault_text place (Some fault) = fault_line place fault

-- why an FDE is left out
abbrev pub cause_text : LeftOutCause → List ℕ
cause_text (Unread error) = variant_name error
cause_text FarStart = codes "start of more than 32 bits"
cause_text FarOffset = codes "offset of more than 32 bits"

-- an FDE that is left out
abbrev pub left_out_text : LeftOut → List ℕ
left_out_text out = codes "at " ++ hexadecimal out.offset ++ codes ": " ++ line (cause_text out.cause)

-- how many FDEs are left out, and the first
abbrev pub left_outs_text : Place → List LeftOut → List ℕ
left_outs_text place [] = []
left_outs_text place (out ∷ outs) = count_text place (codes "FDEs left out") (length outs + 1) ++ left_out_text out

-- the addresses of an FDE, and its offset
abbrev pub span_text : SpannedFde → List ℕ
span_text fde = hexadecimal fde.start ++ codes ".." ++ hexadecimal fde.end ++ codes " at " ++ hexadecimal fde.offset

-- two FDEs that overlap
abbrev pub overlap_text : Overlap → List ℕ
overlap_text overlap = line (span_text overlap.first ++ codes " and " ++ span_text overlap.second)

-- how many FDEs overlap one before them, and the first with that one
abbrev pub overlaps_text : Place → List Overlap → List ℕ
overlaps_text place [] = []
overlaps_text place (overlap ∷ overlaps) =
    count_text place (codes "FDEs that overlap") (length overlaps + 1) ++ overlap_text overlap
