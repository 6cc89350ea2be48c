-- The module over which a step is made by each lookup, and its sections.
use Rattle.std.specs.Prelude.{ℕ, ◌+◌, ◌-◌, ◌^◌, min, List, [], ◌∷◌, length, codes, Some}
use Rattle.framehop_unwinder.specs.Modules.{Loaded}
use Rattle.unwind_run_document.specs.Tasks.{StatedSection, TableData}

-- the address that is a count of addresses after another, or else the last address
abbrev pub address_behind : ℕ → ℕ → ℕ
address_behind start count = min (start + count) (2 ^ 64 - 1)

-- a section of these bytes at its stated start
abbrev pub section_at : List ℕ → ℕ → List ℕ → StatedSection
section_at name start bytes = record {
  name = name;
  range = Some (record { start = start; end = address_behind start (length bytes) });
  bytes = Some bytes;
}

-- the section of call frames
abbrev pub stated_section : TableData → StatedSection
stated_section t = section_at (codes ".eh_frame") t.section_start t.section

-- the header of the section
abbrev pub stated_header : TableData → StatedSection
stated_header t = section_at (codes ".eh_frame_hdr") t.header_start t.header

-- the section with its header
abbrev pub headed_section : TableData → List StatedSection
headed_section t = stated_section t ∷ stated_header t ∷ []

-- the module at the base: 2^32 addresses, or those up to the last
abbrev pub module_at : {Data : Type 0} → ℕ → Data → Loaded Data
module_at base given = record {
  name = [];
  start = base;
  end = address_behind base (2 ^ 32);
  base = base;
  unwind_data = given;
}
