use Rattle.std.proofs.Common.{arith}
use Rattle.dwarf_call_frames.specs.Header.{origins_of_header}
use Rattle.dwarf_readers.proofs.Laws.{byte_on, on_is}
use Rattle.dwarf_frame_rows.proofs.Laws.{encoding_on, pointer_on}
use Rattle.dwarf_call_frames.proofs.Onward.{count_on}
use Rattle.dwarf_call_frames.proofs.header.EhFrameHdr.parse.Goals as goal

pub invariant_of-result : goal.invariant_of-result
invariant_of-result g c =
    let stretch = g.R.Reader.stretch in
    let s = stretch c.self.inside.section in
    let origins = origins_of_header c.args.bases.now.eh_frame_hdr s.offset c.args.address_size in
    let version = on_is (byte_on s) c.in_ok-version.ensures.read in
    let first = on_is (encoding_on (stretch c.read_u8.new.self)) c.in_ok-pointer_enc.ensures.read in
    let second = on_is (encoding_on (stretch c.parse_pointer_encoding.new.input)) c.in_ok-count_enc.ensures.read in
    let third = on_is (encoding_on (stretch c.parse_pointer_encoding-2.new.input)) c.in_ok-table_enc.ensures.read in
    let pointer = on_is (pointer_on origins c.in_ok-pointer_enc.pointer_enc.0 (stretch c.parse_pointer_encoding-3.new.input)) c.in_ok-eh_frame_ptr.ensures.read in
    let count = on_is (count_on c.args.address_size c.in_ok-count_enc.count_enc.0 c.in_ok-table_enc.table_enc.0 (stretch c.parse_encoded_pointer.new.input)) c.in_ok-fde_count.ensures in
    omega arith
