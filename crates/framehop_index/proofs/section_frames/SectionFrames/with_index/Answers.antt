-- The index that is made is that of the section of either kind.
use Rattle.std.proofs.Common.{sym}
use Rattle.dwarf_frame_rows.specs.FrameSection.{FrameSection}
use Rattle.framehop_index.specs.CfiIndex.{IsMadeOf}
use Rattle.framehop_index.specs.CfiIndexCies.{IsIndexWithCies}
use Rattle.framehop_index.specs.FrameSections.{debug_frame_of, eh_frame_of}
use Rattle.framehop_index.proofs.section_frames.SectionFrames.with_index.Goals.{in-DebugFrame, in-EhFrame}
use Rattle.framehop_index.proofs.section_frames.SectionFrames.with_index.Goals as goal

pub invariant_of-result : goal.invariant_of-result
invariant_of-result g c =
    let content = g.D.SectionBytes.content in
    let bases = c.args.bases.now in
    let base = c.args.base_svma in
    elim c.match-section.branch [
      | in-EhFrame w ↦
          let section : FrameSection = eh_frame_of bases (content w.in-EhFrame.data) in
          let made : IsMadeOf c.match-section.made IsIndexWithCies base section = rw (w.made-is, sym w.bytes.ensures) w.try_new_eh_frame-made.ensures in
          rw w.in-EhFrame.is (c.in_ok-entries.ensures.indexed base section made content bases)
      | in-DebugFrame w ↦
          let section : FrameSection = debug_frame_of bases (content w.in-DebugFrame.data) in
          let made : IsMadeOf c.match-section.made IsIndexWithCies base section = rw (w.made-is, sym w.bytes-in-DebugFrame.ensures) w.try_new_debug_frame-made.ensures in
          rw w.in-DebugFrame.is (c.in_ok-entries.ensures.indexed base section made content bases)
    ]
