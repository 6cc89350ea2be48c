use Rattle.std.proofs.Common.{arith}
use Rattle.dwarf_readers.proofs.Laws.{byte_on, onward, signed_on, string_on, unsigned_on}
use Rattle.dwarf_frame_entries.proofs.Onward.{register_on, sizes_on}
use Rattle.dwarf_frame_entries.proofs.parse.parse_cie.Goals as goal

pub parse_augmentation-requires : goal.parse_augmentation-requires
parse_augmentation-requires g c =
    let stretch = g.R.Reader.stretch in
    let s = stretch c.args.input in
    let a = stretch c.read_u8.new.self in
    let b = stretch c.read_null_terminated_slice.new.self in
    let d = stretch c.read_sizes.new.input in
    let e = stretch c.read_uleb128.new.self in
    let f = stretch c.read_sleb128.new.self in
    let h = stretch c.read_register.new.input in
    let version = onward s a _ _ (byte_on s) c.in_ok-version.ensures.read in
    let text = onward a b _ _ (string_on a) c.in_ok-text.ensures.read in
    let sizes = onward b d _ _ (sizes_on g.Section._UnwindSectionPrivate.kind (g.Section._UnwindSectionPrivate.size c.args.section.now) c.in_ok-version.version b) c.in_ok-address_size.ensures in
    let code = onward d e _ _ (unsigned_on d) c.in_ok-code_alignment_factor.ensures.read in
    let factor = onward e f _ _ (signed_on e) c.in_ok-data_alignment_factor.ensures.read in
    let register = onward f h _ _ (register_on c.in_ok-version.version f) c.in_ok-register.ensures in
    rw c.section.ensures (omega (arith, c.requires))
