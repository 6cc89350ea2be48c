-- The tables of a file, as they are read in place.
use Rattle.std.proofs.Common.{◌≡◌, ℕ, List, refl, sym, ap, ◌∙◌}
use Rattle.std.specs.Prelude.{Some, Result, Ok, Err, IfOk, IfErr}
use Rattle.elf_files.specs.declared.header.Header.{Header}
use Rattle.elf_files.specs.declared.section.Section.{Section}
use Rattle.elf_files.specs.declared.section_table.SectionTable.{SectionTable}
use Rattle.elf_files.specs.declared.segment_table.SegmentTable.{SegmentTable}
use Rattle.elf_files.specs.BuildIds.{by_sections, by_segments, section_build_id, segment_build_id}
use Rattle.elf_files.specs.SectionViews.{IsTableOf, sections_in}
use Rattle.elf_files.specs.SegmentViews.{IsSegmentTableOf, segments_in}
use Rattle.elf_files.specs.Sections.{all_sections, section_from}
use Rattle.elf_files.specs.Segments.{all_segments, segment_from}
use Rattle.elf_files.specs.Symbols.{function_in, symbol_for_address, symbol_table}
use Rattle.elf_files.specs.Tables.{first_found}
use Rattle.elf_files.proofs.Tables.{entries-equal}

pub sections-all : (bytes : List ℕ) (header : Header) (table : SectionTable) → IsTableOf bytes header table → sections_in table ≡ all_sections bytes header
sections-all bytes header table is =
    entries-equal section_from 64 table.bytes.now bytes table.offset header.section_table table.count header.section_count is.same_bytes is.offset is.count

pub segments-all : (bytes : List ℕ) (header : Header) (table : SegmentTable) → IsSegmentTableOf bytes header table → segments_in table ≡ all_segments bytes header
segments-all bytes header table is =
    entries-equal segment_from 56 table.bytes.now bytes table.offset header.segment_table table.count header.segment_count is.same_bytes is.offset is.count

pub by_sections-is : (bytes : List ℕ) (header : Header) (table : SectionTable) → IsTableOf bytes header table
    → by_sections bytes header ≡ first_found (section_build_id bytes) (sections_in table)
by_sections-is bytes header table is =
    let whole : by_sections bytes header ≡ first_found (section_build_id bytes) (all_sections bytes header) = rw is.whole refl in
    whole ∙ ap (first_found (section_build_id bytes)) (sym (sections-all bytes header table is))

pub by_segments-is : (bytes : List ℕ) (header : Header) (table : SegmentTable) → IsSegmentTableOf bytes header table
    → by_segments bytes header ≡ first_found (segment_build_id bytes) (segments_in table)
by_segments-is bytes header table is =
    let whole : by_segments bytes header ≡ first_found (segment_build_id bytes) (all_segments bytes header) = rw is.whole refl in
    whole ∙ ap (first_found (segment_build_id bytes)) (sym (segments-all bytes header table is))

pub symbol-is : (bytes : List ℕ) (header : Header) (address : ℕ) (table : SectionTable) (section : Section) → IsTableOf bytes header table → symbol_table (sections_in table) ≡ Some section
    → symbol_for_address bytes header address ≡ function_in bytes header address (Some section)
symbol-is bytes header address table section is chosen =
    let whole : symbol_for_address bytes header address ≡ function_in bytes header address (symbol_table (all_sections bytes header)) = rw is.whole refl in
    whole
    ∙ ap (λ sections. function_in bytes header address (symbol_table sections)) (sym (sections-all bytes header table is))
    ∙ ap (function_in bytes header address) chosen

-- a fact of a result by an equal value
pub if_ok-same : {T E A : Type 0} (r : Result T E) (view : T → A) (x y : A) → x ≡ y → IfOk r (λ t. y ≡ view t) → IfOk r (λ t. x ≡ view t)
if_ok-same (Ok t) view x y same is = same ∙ is
if_ok-same (Err e) view x y same is = tt

pub if_err-same : {T E A : Type 0} (r : Result T E) (view : E → A) (x y : A) → x ≡ y → IfErr r (λ e. y ≡ view e) → IfErr r (λ e. x ≡ view e)
if_err-same (Ok t) view x y same is = tt
if_err-same (Err e) view x y same is = same ∙ is
