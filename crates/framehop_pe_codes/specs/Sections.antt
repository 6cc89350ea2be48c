-- The sections of a PE file, and their bytes by addresses. All addresses of unwind data are relative to the file's base (RVA).
use Rattle.std.specs.Borrow.{Bor}
use Rattle.std.specs.Prelude.{ℕ, ◌-◌, ◌&&◌, nat_lt, nat_le, if◌then◌else◌, List, length, drop, Option, Some, None, option_and_then, option_map}
use Rattle.std.specs.Option.{option_or}
use Rattle.std.specs.declared.ops.Range.{Range}
use Rattle.framehop_code_rules.specs.declared.CodeRules.{CodeRules}
use Rattle.framehop_pe_codes.specs.Refusals.{PeResult, or_refusal}
use Rattle.framehop_errors.specs.declared.pe.PeUnwinderError.TheVariants.{MissingUnwindInfoData, MissingInstructionData}
use Rattle.framehop_pe_codes.specs.declared.sections.DataAtRvaRange.{DataAtRvaRange}
use Rattle.framehop_pe_codes.specs.declared.sections.PeSections.{PeSections}

-- A section: its bytes, and the addresses that it takes.
pub record PeSection : Type 0 where
  pub bytes : List ℕ
  pub rva_range : Range ℕ

-- The sections of a file that unwinding reads, and by which rules the code is read.
pub record PeFile : Type 0 where
  pub pdata : List ℕ
  pub rdata : Option PeSection
  pub xdata : Option PeSection
  pub text : Option PeSection
  pub code_rules : CodeRules

-- A section that is lent.
abbrev pub section_of : DataAtRvaRange → PeSection
section_of section = record { bytes = section.bytes.now; rva_range = section.rva_range }

-- A section that is lent, if it is there.
abbrev pub section_lent : Option (Bor DataAtRvaRange) → Option PeSection
section_lent lent = option_map (λ found. section_of found.now) lent

-- The sections of a file that are lent.
unfoldable pub file_of : PeSections → PeFile
file_of sections = record {
  pdata = sections.pdata.now;
  rdata = section_lent sections.rdata;
  xdata = section_lent sections.xdata;
  text = section_lent sections.text;
  code_rules = sections.code_rules;
}

-- The bytes from an address on: where it is in the range, and not past the data. At the very end of the data there are none.
abbrev pub bytes_from : PeSection → ℕ → Option (List ℕ)
bytes_from section address =
    if nat_le section.rva_range.start address && nat_lt address section.rva_range.end
    && nat_le (address - section.rva_range.start) (length section.bytes)
    then Some (drop (address - section.rva_range.start) section.bytes) else None

-- The same of a section that may not be there.
abbrev pub section_bytes : Option PeSection → ℕ → Option (List ℕ)
section_bytes section address = option_and_then (λ found. bytes_from found address) section

-- The bytes of unwind info by its address, or why there are none.
abbrev pub Memory : Type 0
Memory = ℕ → PeResult (List ℕ)

-- Those of `.rdata`, or else of `.xdata`.
abbrev pub unwind_info_memory : PeFile → Memory
unwind_info_memory file address =
    or_refusal (MissingUnwindInfoData address) (option_or (section_bytes file.rdata address) (section_bytes file.xdata address))

-- Those of sections that are lent.
abbrev pub info_memory : PeSections → Memory
info_memory sections = unwind_info_memory (file_of sections)

-- The code from an address on.
abbrev pub text_memory : PeFile → ℕ → PeResult (List ℕ)
text_memory file address =
    or_refusal (MissingInstructionData address) (section_bytes file.text address)
