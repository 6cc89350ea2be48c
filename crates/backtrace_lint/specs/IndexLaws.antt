-- What is said of a section, beside what an unwinder's index of it holds.
use Rattle.std.specs.Prelude.{Bool, List, Ok, is_none}
use Rattle.std.specs.List.{filter, filter_map}
use Rattle.dwarf_frame_rows.specs.FrameSection.{FrameSection}
use Rattle.dwarf_frame_entries.specs.Entries.{Fde, end_address}
use Rattle.framehop_errors.specs.declared.cfi_index.DwarfCfiIndexError.{DwarfCfiIndexError}
use Rattle.framehop_errors.specs.declared.cfi_index.DwarfCfiIndexError.TheVariants.{Gimli}
use Rattle.backtrace_lint.specs.LeftOut.{left_out}
use Rattle.backtrace_lint.specs.declared.fdes.Fault.{Fault}
use Rattle.backtrace_lint.specs.declared.fdes.ListedFde.{ListedFde}
use Rattle.backtrace_lint.specs.declared.left_out.LeftOut.{LeftOut}
use Rattle.backtrace_lint.specs.ListedFdes.{listed_fdes}

-- what is said of the FDEs of a section that an index leaves out
abbrev pub left_outs : FrameSection → List LeftOut
left_outs section = filter_map left_out (listed_fdes section)

-- an FDE isn't said to be left out
abbrev pub is_kept : ListedFde → Bool
is_kept fde = is_none (left_out fde)

-- the FDEs of a section that aren't, in their order
abbrev pub kept_fdes : FrameSection → List ListedFde
kept_fdes section = filter is_kept (listed_fdes section)

-- an FDE that can be read, as it is listed
abbrev pub listed_whole : Fde → ListedFde
listed_whole fde = record {
  offset = fde.head.offset;
  read = Ok (record { start = fde.initial_address; end = end_address fde });
}

-- the error for which a section with a fault has no index
abbrev pub index_fault : Fault → DwarfCfiIndexError
index_fault fault = Gimli fault.error
