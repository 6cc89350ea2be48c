-- A pass over the entries of a section that keeps the CIEs which it read.
use Rattle.std.proofs.Common.{◌≡◌, ℕ, List, ◌∷◌, Result, Ok, subst, sym, ◌∙◌}
use Rattle.std.specs.List.{All}
use Rattle.dwarf_constants.specs.declared.error.Error.{Error}
use Rattle.dwarf_frame_rows.specs.FrameSection.{FrameSection, SectionContents}
use Rattle.dwarf_frame_rows.specs.SectionKind.{FrameSectionKind}
use Rattle.dwarf_frame_entries.proofs.Laws.{fdes_of_section, first_of_section, others_of_section}
use Rattle.dwarf_frame_entries.specs.Entries.{AnyEntry, PartialFde}
use Rattle.dwarf_frame_entries.specs.EntryLists.{entries_of}
use Rattle.dwarf_frame_entries.specs.SectionFdes.{IsOfSection}
use Rattle.dwarf_frame_entries.specs.SectionWithin.{section_within}
use Rattle.dwarf_frame_entries.specs.declared.entries.Entry.TheVariants as which

-- Entries of a section are left, of which the CIEs are kept that were read.
pub record Keeping (section : FrameSection) (cies : SectionContents) (left : List (Result AnyEntry Error)) : Type 0 where
  pub within : All (IsOfSection section) left
  pub known : cies ≡ section.within

-- all are left
pub keeping-all : (section : FrameSection) (cies : SectionContents) (all : List (Result AnyEntry Error)) → all ≡ entries_of section → cies ≡ section.within
    → Keeping section cies all
keeping-all section cies all is known = record { within = subst (All (IsOfSection section)) (sym is) (fdes_of_section section); known = known }

-- one was taken
pub keeping-others : (section : FrameSection) (cies new : SectionContents) (all left : List (Result AnyEntry Error)) (item : Result AnyEntry Error) → all ≡ item ∷ left → new ≡ cies
    → Keeping section cies all → Keeping section new left
keeping-others section cies new all left item is same keeping = record { within = others_of_section section all left item is keeping.within; known = same ∙ keeping.known }

-- an entry of a section is one of any section with the same contents
same-contents : (section : FrameSection) (limit : ℕ) (kind : FrameSectionKind) (cies : SectionContents) (entry : AnyEntry) → cies ≡ section.within
    → IsOfSection section (Ok entry) → IsOfSection (section_within limit kind cies) (Ok entry)
same-contents section limit kind cies (which.Cie cie) known of = tt
same-contents section limit kind cies (which.Fde partial) known of = of ∙ sym known

-- the first that is left is an entry of the section
pub keeping-first : (section : FrameSection) (limit : ℕ) (kind : FrameSectionKind) (cies : SectionContents) (all left : List (Result AnyEntry Error)) (entry : AnyEntry) → all ≡ Ok entry ∷ left
    → Keeping section cies all → IsOfSection (section_within limit kind cies) (Ok entry)
keeping-first section limit kind cies all left entry is keeping =
    same-contents section limit kind cies entry keeping.known (first_of_section section all left (Ok entry) is keeping.within)

-- .. if it is an FDE
pub keeping-fde : (section : FrameSection) (cies : SectionContents) (all left : List (Result AnyEntry Error)) (partial : PartialFde) → all ≡ Ok (which.Fde partial) ∷ left
    → Keeping section cies all → partial.within ≡ cies
keeping-fde section cies all left partial is keeping = first_of_section section all left (Ok (which.Fde partial)) is keeping.within ∙ sym keeping.known
