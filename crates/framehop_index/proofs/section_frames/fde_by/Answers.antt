-- An index finds what its section's has, by the CIEs of that section. A section without an index has no FDE by it.
use Rattle.std.proofs.Common.{◌≡◌, ℕ, false, Option, None, refl, sym, ap, subst, ◌∙◌}
use Rattle.std.specs.Prelude.{option_map}
use Rattle.dwarf_frame_entries.specs.Entries.{Fde}
use Rattle.dwarf_frame_rows.specs.FrameSection.{FrameSection}
use Rattle.framehop_errors.specs.declared.unwinder.UnwinderError.TheVariants.{DwarfCfiIndexCouldNotFindAddress}
use Rattle.framehop_index.specs.CfiIndexCies.{IsIndexWithCies}
use Rattle.framehop_index.specs.EntryFor.{has_index, indexed_entry}
use Rattle.framehop_index.specs.FdeLookups.{fde_by, fde_found}
use Rattle.framehop_index.specs.SectionFramesViews.{AreFoundBy, entries_view}
use Rattle.framehop_index.proofs.section_frames.fde_by.Goals as goal

none-indexed : (base relative : ℕ) (section : FrameSection) → has_index section ≡ false → indexed_entry base relative section ≡ None
unfolding indexed_entry
none-indexed base relative section none = rw none refl

pub returns-in-Unindexed : goal.returns-in-Unindexed
returns-in-Unindexed g c =
    let section : FrameSection = g.Section._UnwindSectionPrivate.frame c.args.section.now c.args.bases.now in
    let base = c.args.base_svma in
    let relative = c.args.relative_address in
    let none : has_index section ≡ false = subst (λ e. AreFoundBy g.D.SectionBytes.content c.args.bases.now base section e) c.in-Unindexed.is c.requires.found in
    sym (ap (λ e. fde_by (entries_view g.D.SectionBytes.content e) c.args.bases.now section base relative) c.in-Unindexed.is
    ∙ ap (λ (o : Option Fde). fde_found section DwarfCfiIndexCouldNotFindAddress (option_map (λ (f : Fde). f.head.offset) o)) (none-indexed base relative section none))

pub fde_indexed-requires : goal.fde_indexed-requires
fde_indexed-requires g c =
    let section : FrameSection = g.Section._UnwindSectionPrivate.frame c.args.section.now c.args.bases.now in
    let both : IsIndexWithCies c.in-Index.made c.args.base_svma section
    = subst (λ e. AreFoundBy g.D.SectionBytes.content c.args.bases.now c.args.base_svma section e) c.in-Index.is c.requires.found in
    both.1

pub returns-in-Index : goal.returns-in-Index
returns-in-Index g c =
    let section : FrameSection = g.Section._UnwindSectionPrivate.frame c.args.section.now c.args.bases.now in
    let base = c.args.base_svma in
    let relative = c.args.relative_address in
    let both : IsIndexWithCies c.in-Index.made base section
    = subst (λ e. AreFoundBy g.D.SectionBytes.content c.args.bases.now base section e) c.in-Index.is c.requires.found in
    let offset = c.fde_offset_for_relative_address-offset.ensures base section both.0 in
    c.fde_indexed.ensures
    ∙ ap (fde_found section DwarfCfiIndexCouldNotFindAddress) offset
    ∙ sym (ap (λ e. fde_by (entries_view g.D.SectionBytes.content e) c.args.bases.now section base relative) c.in-Index.is)
