use Rattle.std.proofs.Common.{None, arith}
use Rattle.dwarf_frame_rows.specs.EncodedPointer.{Origins}
use Rattle.dwarf_readers.proofs.Laws.{onward}
use Rattle.dwarf_frame_entries.proofs.Onward.{addresses_on}
use Rattle.dwarf_frame_entries.proofs.fde.PartialFrameDescriptionEntry.with_cie.Goals as goal

pub read_lsda-requires : goal.read_lsda-requires
read_lsda-requires g c =
    let stretch = g.R.Reader.stretch in
    let s = stretch c.self.inside.rest in
    let origins : Origins = record {
      bases = c.self.inside.bases.now.eh_frame;
      function = None;
      section_place = (stretch c.section.result.now).offset;
      address_size = c.args.cie.address_size;
    } in
    let on = onward s (stretch c.read_addresses.new.input) _ _ (addresses_on origins c.fde_address_encoding.result s) c.in_ok-initial_address.ensures in
    let start = c.self.invariant in
    rw c.section.ensures (omega arith)
