use Rattle.std.proofs.Common.{refl, arith}
use Rattle.dwarf_call_frames.proofs.LinkedHeaders.{header-of}
use Rattle.dwarf_call_frames.proofs.linked.LinkedHeader.of.Goals as goal

pub returns : goal.returns
returns c =
    let read = header-of c.args.bases.now.eh_frame_hdr c.in_ok-start.start c.in_ok-start.was c.args.bytes.now (omega (arith, c.if-bytes-lt12.false))
    (c.if-not-begins_linked.ensures.version refl) (c.if-not-begins_linked.ensures.pointer refl)
    (c.if-not-begins_linked.ensures.count refl) (c.if-not-begins_linked.ensures.table refl) in
    record {
      header = rw (c.pointer_in-section_start.ensures, c.number_in-count.ensures) read;
      base = c.in_ok-base.was;
      rows = record {
        some = omega (arith, c.if-count-eq0.false);
        few = omega (arith, c.number_in-count.ensures, c.number_in-count.type_inv);
        room = omega (arith, c.if-bytes-lt12.false, c.if-bytes-count.false);
      };
    }
