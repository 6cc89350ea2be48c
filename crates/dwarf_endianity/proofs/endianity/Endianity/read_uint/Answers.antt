use Rattle.std.proofs.Common.{◌≡◌, ◌∙◌, ◌-◌, ℕ, List, length, replicate, true, false, sym, ap}
use Rattle.std.specs.Int.{w64, from_le_bytes, from_be_bytes}
use borrow.Rule.Slice.PartMut.{put_mid}
use Rattle.dwarf_endianity.proofs.Numbers.{filled_above, filled_below}
use Rattle.dwarf_endianity.proofs.endianity.Endianity.read_uint.Goals as goal

pub returns-then-is_big_endian : goal.returns-then-is_big_endian
returns-then-is_big_endian g c =
    let big : g.Self.Endianity.is_big c.args.self ≡ true = sym c.is_big_endian.ensures ∙ c.if-is_big_endian.true in
    let size = length c.args.buf.now in
    rw big (c.from_be_bytes.ensures
    ∙ ap (λ (bytes : List ℕ). from_be_bytes w64 (put_mid (8 - size) (8 - (8 - size)) (replicate 8 0) bytes)) c.copy_from_slice.ensures.after
    ∙ filled_below c.args.buf.now c.requires.fits)

pub returns-else-is_big_endian : goal.returns-else-is_big_endian
returns-else-is_big_endian g c =
    let little : g.Self.Endianity.is_big c.args.self ≡ false = sym c.is_big_endian.ensures ∙ c.if-is_big_endian.false in
    let size = length c.args.buf.now in
    rw little (c.from_le_bytes.ensures
    ∙ ap (λ (bytes : List ℕ). from_le_bytes w64 (put_mid 0 size (replicate 8 0) bytes)) c.copy_from_slice-else-is_big_endian.ensures.after
    ∙ filled_above c.args.buf.now c.requires.fits)
