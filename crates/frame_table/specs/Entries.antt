-- What a listing has of each entry: its line, and its table.
use Rattle.std.specs.Prelude.{ℕ, ◌*◌, not, Bool, true, false, List, [], ◌++◌, codes, decimal, Option, Some, None, Result, Ok, Err}
use Rattle.std.specs.Fmt.{signed_decimal}
use Rattle.json_program.specs.Lines.{hexadecimal, line}
use Rattle.dwarf_constants.specs.Error.{variant_name}
use Rattle.dwarf_constants.specs.declared.common.Vendor.{Vendor}
use Rattle.dwarf_constants.specs.declared.error.Error.{Error}
use Rattle.dwarf_readers.specs.Stretch.{◌>>=◌}
use Rattle.dwarf_frame_instructions.specs.Programs.{EntryProgram, Instructions, RowList, rows_of_program}
use Rattle.dwarf_frame_rows.specs.Effects.{Limits}
use Rattle.dwarf_frame_rows.specs.declared.section.CieOffsetEncoding.{CieOffsetEncoding}
use Rattle.dwarf_frame_rows.specs.declared.section.CieOffsetEncoding.TheVariants.{U32, U64}
use Rattle.dwarf_frame_rows.specs.FrameSection.{FrameSection}
use Rattle.dwarf_frame_entries.specs.Entries.{AnyEntry, Cie, Fde, Head, PartialFde, end_address, fde_of}
use Rattle.dwarf_frame_entries.specs.EntryPrograms.{cie_instructions, factors_of, fde_instructions, fde_program}
use Rattle.dwarf_frame_entries.specs.declared.entries.Entry.TheVariants as which
use Rattle.line_parts.specs.Parts.{hex_of}
use Rattle.frame_table.specs.Columns.{all_nops, columns_with}
use Rattle.frame_table.specs.EntryPrefix.{EntryPrefix, augmentation_text, entry_prefix_at}
use Rattle.frame_table.specs.Tables.{Table, table_text}
use Rattle.frame_table.specs.declared.names.Machine.{Machine}

-- a section, and how it is listed: whose instructions are read, whose names registers have, and what rows have room for
pub record Setting : Type 0 where
  pub section : FrameSection
  pub vendor : Vendor
  pub machine : Option Machine
  pub limits : Limits

-- the line of a fault: the error's name, and the offset of the entry that has it
abbrev pub fault_text : Error → ℕ → List ℕ
fault_text e offset = line (codes "fault " ++ variant_name e ++ codes " at " ++ hexadecimal offset)

-- the text of an entry, the offset after it, and whether it has no fault
pub record Part : Type 0 where
  pub text : List ℕ
  pub end : ℕ
  pub is_whole : Bool

-- a text, and the line of the error, if there is one, of the entry at an offset, which ends at another
abbrev pub part_with : ℕ → ℕ → List ℕ → Option Error → Part
part_with offset end text None = record { text = text; end = end; is_whole = true }
part_with offset end text (Some e) = record { text = text ++ fault_text e offset; end = end; is_whole = false }

-- the line of a fault alone
abbrev pub fault_part : ℕ → ℕ → Error → Part
fault_part offset end e = part_with offset end [] (Some e)

-- a part, or else the line of the error of an entry's beginning, with no byte of the entry read
abbrev pub part_or_fault : ℕ → Result Part Error → Part
part_or_fault offset (Ok part) = part
part_or_fault offset (Err e) = fault_part offset offset e

-- ---- what both kinds of entry have

-- how many digits an id has
abbrev pub id_digits : CieOffsetEncoding → ℕ
id_digits U32 = 8
id_digits U64 = 16

-- where an entry is, and how long it is
abbrev pub head_of : (offset length : ℕ) → Head
head_of offset length = record { offset = offset; length = length }

-- the beginning of an entry's line: its offset, its length and its id
abbrev pub prefix_text : ℕ → Head → EntryPrefix → List ℕ
prefix_text address_size head prefix =
    codes "\n" ++ hex_of 8 head.offset ++ codes " " ++ hex_of (2 * address_size) head.length ++ codes " "
    ++ hex_of (id_digits prefix.width) prefix.id

-- the table of an entry with a CIE: columns are named by both their instructions, and it is shown unless all of the entry's own are
-- padding
abbrev pub entry_table : Option Machine → Cie → List ℕ → Instructions ℕ → Table
entry_table machine cie columns own = record {
  machine = machine;
  address_size = cie.address_size;
  return_address = cie.return_address_register.0;
  columns = columns_with columns own;
  is_shown = not (all_nops own);
}

-- ---- common information entries

-- a program of the CIE's instructions alone, from 0 on
abbrev pub cie_program : FrameSection → Vendor → Cie → EntryProgram ℕ
cie_program section vendor cie = record {
  factors = factors_of cie;
  initial_address = 0;
  end_address = 0;
  initial_instructions = cie_instructions section vendor cie;
  instructions = [];
}

-- the rows of a CIE
abbrev pub cie_rows : Setting → Cie → RowList ℕ
cie_rows s cie = rows_of_program s.limits (cie_program s.section s.vendor cie)

-- the table of a CIE
abbrev pub cie_table : Setting → Cie → Table
cie_table s cie = entry_table s.machine cie [] (cie_instructions s.section s.vendor cie)

-- the factors of a CIE, which are after the text of its augmentation
abbrev pub cie_factors : Cie → List ℕ
cie_factors cie = codes "\" cf=" ++ decimal cie.code_alignment_factor ++ codes " df=" ++ signed_decimal cie.data_alignment_factor

-- the column of the return address
abbrev pub cie_register : Cie → List ℕ
cie_register cie = codes " ra=" ++ decimal cie.return_address_register.0 ++ codes "\n"

-- the line of a CIE, with the text of its augmentation
abbrev pub cie_line : Cie → EntryPrefix × List ℕ → List ℕ
cie_line cie (prefix, augmentation) =
    prefix_text cie.address_size cie.head prefix ++ codes " CIE \"" ++ augmentation ++ cie_factors cie ++ cie_register cie

-- the text of a CIE whose prefix is read, with the text of its augmentation
abbrev pub whole_cie_part : Setting → Cie → EntryPrefix × List ℕ → Part
whole_cie_part s cie prefix =
    part_with cie.head.offset prefix.0.end (cie_line cie prefix ++ table_text (cie_table s cie) (cie_rows s cie))
    (cie_rows s cie).refusal

-- the prefix of the CIE at an offset, and the text of its augmentation
abbrev pub cie_prefix : FrameSection → ℕ → Result (EntryPrefix × List ℕ) Error
cie_prefix section offset = do
  prefix ← entry_prefix_at section offset
  augmentation ← augmentation_text prefix
  Ok (prefix, augmentation)

-- the text of a CIE, or the error of its prefix
abbrev pub cie_part : Setting → Cie → Result Part Error
cie_part s cie = do
  read ← cie_prefix s.section cie.head.offset
  Ok (whole_cie_part s cie read)

-- ---- frame description entries

-- the rows of an FDE
abbrev pub rows_of_fde : Setting → Fde → RowList ℕ
rows_of_fde s fde = rows_of_program s.limits (fde_program s.section s.vendor fde)

-- the table of an FDE
abbrev pub fde_table : Setting → Fde → Table
fde_table s fde =
    entry_table s.machine fde.cie (columns_with [] (cie_instructions s.section s.vendor fde.cie)) (fde_instructions s.section s.vendor fde)

-- the offset of an FDE's CIE, and its code, from its start to its end
abbrev pub fde_places : ℕ → ℕ → ℕ → ℕ → List ℕ
fde_places address_size cie_offset start end =
    codes " FDE cie=" ++ hex_of 8 cie_offset ++ codes " pc=" ++ hex_of (2 * address_size) start ++ codes ".."
    ++ hex_of (2 * address_size) end ++ codes "\n"

-- the line of an FDE
abbrev pub fde_line : ℕ → Fde → EntryPrefix → List ℕ
fde_line cie_offset fde prefix =
    prefix_text fde.cie.address_size fde.head prefix
    ++ fde_places fde.cie.address_size cie_offset fde.initial_address (end_address fde)

-- the text of an FDE whose prefix is read
abbrev pub whole_fde_part : Setting → ℕ → Fde → EntryPrefix → Part
whole_fde_part s cie_offset fde prefix =
    part_with fde.head.offset prefix.end (fde_line cie_offset fde prefix ++ table_text (fde_table s fde) (rows_of_fde s fde))
    (rows_of_fde s fde).refusal

-- the text of an FDE, or the line of the error if it can't be read
abbrev pub fde_or_fault : Setting → PartialFde → EntryPrefix → Result Fde Error → Part
fde_or_fault s partial prefix (Ok fde) = whole_fde_part s partial.cie_offset fde prefix
fde_or_fault s partial prefix (Err e) = fault_part partial.head.offset prefix.end e

-- the text of an FDE, or the error of its prefix
abbrev pub fde_part : Setting → PartialFde → Result Part Error
fde_part s partial = do
  prefix ← entry_prefix_at s.section partial.head.offset
  Ok (fde_or_fault s partial prefix (fde_of s.section.limit s.section.kind partial))

-- ---- either

-- the text of an entry
abbrev pub listed_part : Setting → AnyEntry → Part
listed_part s (which.Cie cie) = part_or_fault cie.head.offset (cie_part s cie)
listed_part s (which.Fde partial) = part_or_fault partial.head.offset (fde_part s partial)
