-- An index leaves out what the index of its section does.
use Rattle.std.proofs.Common.{◌≡◌, ℕ, Some, ap, refl, subst, sym, ◌∙◌}
use Rattle.dwarf_frame_rows.specs.FrameSection.{FrameSection}
use Rattle.framehop_index.specs.CfiIndexCies.{IsIndexWithCies}
use Rattle.framehop_index.specs.EntryFor.{left_out}
use Rattle.framehop_index.specs.FdeLookups.{placed}
use Rattle.framehop_index.specs.LeftOut.{fdes_left_out}
use Rattle.framehop_index.specs.SectionFramesViews.{AreFoundBy, entries_view}
use Rattle.framehop_index.specs.SectionTypes.{frame_section_bytes, section_of_type}
use Rattle.framehop_index.proofs.section_frames.SectionFrames.left_out.Goals as goal

pub returns-in-Index : goal.returns-in-Index
returns-in-Index g c =
    let content = g.D.SectionBytes.content in
    let inside = c.self.inside in
    let base : ℕ = inside.base_svma in
    let bytes = frame_section_bytes content inside.section in
    let section : FrameSection = section_of_type inside.bases bytes in
    let both : IsIndexWithCies c.in-Index.made base section
    = subst (λ e. AreFoundBy content inside.bases base section e) c.in-Index.is c.self.invariant in
    let here : fdes_left_out c.args.self.now ≡ Some (left_out base section)
    = ap fdes_left_out (sym c.self.view_is) ∙ ap (λ e. fdes_left_out (placed bytes (entries_view content e) inside.bases base)) c.in-Index.is ∙ rw both.0.has refl in
    ap (λ n. Some n) (c.left_out.ensures base section both.0) ∙ sym here
