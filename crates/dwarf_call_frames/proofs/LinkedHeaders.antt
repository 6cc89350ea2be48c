-- What a header that linkers write is, and what its pointers are.
use Rattle.std.proofs.Common.{◌≡◌, ℕ, ◌+◌, ◌≤◌, ◌%◌, ◌^◌, false, List, [], ◌∷◌, length, take, drop, Some, Ok, refl, arith}
use Rattle.std.specs.Prelude.{slice_index, nat_lt}
use Rattle.std.proofs.lemmas.Bool.Decides.{nat_tests}
use Rattle.dwarf_endianity.specs.ByteOrder.{number_of}
use Rattle.dwarf_readers.specs.Stretch.{Stretch, behind, whole}
use Rattle.dwarf_frame_rows.specs.EncodedPointer.{Origins, is_encoding, pointer_at}
use Rattle.dwarf_frame_rows.specs.declared.base_addresses.SectionBaseAddresses.{SectionBaseAddresses}
use Rattle.dwarf_frame_rows.specs.declared.pointer.Pointer.TheVariants.{Direct}
use Rattle.dwarf_call_frames.specs.Header.{header_at}
use Rattle.dwarf_call_frames.specs.Linked.{linked_pointer}

-- a pointer of a table that is relative to the header
pub pointer-read : (origins : Origins) (base : ℕ) (s : Stretch) → origins.bases.data_base ≡ Some base → origins.address_size ≡ 8 → s.big ≡ false → 4 ≤ length s.bytes
    → pointer_at origins 0x3b s ≡ Ok (Direct (linked_pointer base s.bytes), behind 4 s)
unfolding is_encoding
pointer-read origins base s data_ size little room =
    let there : nat_lt (length s.bytes) 4 ≡ false = grind (arith, nat_tests) in
    rw (data_, size, little, there) refl

module _ (bases : SectionBaseAddresses) (start : ℕ) (known : bases.section ≡ Some start) where
  -- the header by its first 12 bytes
  header-read : (p0 p1 p2 p3 c0 c1 c2 c3 : ℕ) (rest : List ℕ)
      → header_at bases 8 (whole false (1 ∷ 0x1b ∷ 3 ∷ 0x3b ∷ p0 ∷ p1 ∷ p2 ∷ p3 ∷ c0 ∷ c1 ∷ c2 ∷ c3 ∷ rest)) ≡ Ok (record {
        section_offset = 0;
        address_size = 8;
        eh_frame_ptr = Direct (linked_pointer ((start + 4) % 2 ^ 64) (p0 ∷ p1 ∷ p2 ∷ p3 ∷ c0 ∷ c1 ∷ c2 ∷ c3 ∷ rest));
        table_encoding = 0x3b;
        count = number_of false (c0 ∷ c1 ∷ c2 ∷ c3 ∷ []);
        rows = record { bytes = rest; offset = 12; big = false };
      })
  unfolding is_encoding
  header-read p0 p1 p2 p3 c0 c1 c2 c3 rest =
      let n0 : nat_lt (length (1 ∷ 0x1b ∷ 3 ∷ 0x3b ∷ p0 ∷ p1 ∷ p2 ∷ p3 ∷ c0 ∷ c1 ∷ c2 ∷ c3 ∷ rest)) 1 ≡ false = grind (arith, nat_tests) in
      let n1 : nat_lt (length (0x1b ∷ 3 ∷ 0x3b ∷ p0 ∷ p1 ∷ p2 ∷ p3 ∷ c0 ∷ c1 ∷ c2 ∷ c3 ∷ rest)) 1 ≡ false = grind (arith, nat_tests) in
      let n2 : nat_lt (length (3 ∷ 0x3b ∷ p0 ∷ p1 ∷ p2 ∷ p3 ∷ c0 ∷ c1 ∷ c2 ∷ c3 ∷ rest)) 1 ≡ false = grind (arith, nat_tests) in
      let n3 : nat_lt (length (0x3b ∷ p0 ∷ p1 ∷ p2 ∷ p3 ∷ c0 ∷ c1 ∷ c2 ∷ c3 ∷ rest)) 1 ≡ false = grind (arith, nat_tests) in
      let n4 : nat_lt (length (p0 ∷ p1 ∷ p2 ∷ p3 ∷ c0 ∷ c1 ∷ c2 ∷ c3 ∷ rest)) 4 ≡ false = grind (arith, nat_tests) in
      let n8 : nat_lt (length (c0 ∷ c1 ∷ c2 ∷ c3 ∷ rest)) 4 ≡ false = grind (arith, nat_tests) in
      rw (n0, n1, n2, n3, known, n4, n8) refl

  -- .. by their indices
  pub header-of : (bytes : List ℕ) → 12 ≤ length bytes → slice_index bytes 0 ≡ 1 → slice_index bytes 1 ≡ 0x1b → slice_index bytes 2 ≡ 3 → slice_index bytes 3 ≡ 0x3b
      → header_at bases 8 (whole false bytes) ≡ Ok (record {
        section_offset = 0;
        address_size = 8;
        eh_frame_ptr = Direct (linked_pointer ((start + 4) % 2 ^ 64) (drop 4 bytes));
        table_encoding = 0x3b;
        count = number_of false (take 4 (drop 8 bytes));
        rows = behind 12 (whole false bytes);
      })
  header-of (b0 ∷ b1 ∷ b2 ∷ b3 ∷ p0 ∷ p1 ∷ p2 ∷ p3 ∷ c0 ∷ c1 ∷ c2 ∷ c3 ∷ rest) long v p c t = rw (v, p, c, t) (header-read p0 p1 p2 p3 c0 c1 c2 c3 rest)
  header-of [] long v p c t = absurd (omega arith)
  header-of (x0 ∷ []) long v p c t = absurd (omega arith)
  header-of (x0 ∷ x1 ∷ []) long v p c t = absurd (omega arith)
  header-of (x0 ∷ x1 ∷ x2 ∷ []) long v p c t = absurd (omega arith)
  header-of (x0 ∷ x1 ∷ x2 ∷ x3 ∷ []) long v p c t = absurd (omega arith)
  header-of (x0 ∷ x1 ∷ x2 ∷ x3 ∷ x4 ∷ []) long v p c t = absurd (omega arith)
  header-of (x0 ∷ x1 ∷ x2 ∷ x3 ∷ x4 ∷ x5 ∷ []) long v p c t = absurd (omega arith)
  header-of (x0 ∷ x1 ∷ x2 ∷ x3 ∷ x4 ∷ x5 ∷ x6 ∷ []) long v p c t = absurd (omega arith)
  header-of (x0 ∷ x1 ∷ x2 ∷ x3 ∷ x4 ∷ x5 ∷ x6 ∷ x7 ∷ []) long v p c t = absurd (omega arith)
  header-of (x0 ∷ x1 ∷ x2 ∷ x3 ∷ x4 ∷ x5 ∷ x6 ∷ x7 ∷ x8 ∷ []) long v p c t = absurd (omega arith)
  header-of (x0 ∷ x1 ∷ x2 ∷ x3 ∷ x4 ∷ x5 ∷ x6 ∷ x7 ∷ x8 ∷ x9 ∷ []) long v p c t = absurd (omega arith)
  header-of (x0 ∷ x1 ∷ x2 ∷ x3 ∷ x4 ∷ x5 ∷ x6 ∷ x7 ∷ x8 ∷ x9 ∷ x10 ∷ []) long v p c t = absurd (omega arith)
