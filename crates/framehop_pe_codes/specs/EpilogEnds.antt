-- Instructions that end an epilog, by the bytes that they begin: as the original has them, or as Windows takes them in the code of a row
-- (Microsoft, "x64 exception handling", "Epilog code").
use Rattle.std.specs.Prelude.{ℕ, ◌+◌, ◌-◌, ◌/◌, ◌%◌, ◌==◌, ◌&&◌, ◌||◌, ℤ, pos, ◌+ℤ◌, ◌-ℤ◌, Bool, false, nat_lt, nat_le, int_lt, int_le, if◌then◌else◌, List, [], ◌∷◌, length, slice_index, Option, Some, None}
use Rattle.std.specs.List.{starts_with}
use Rattle.framehop_pe_codes.specs.Codes.{u32_at}
use Rattle.framehop_pe_codes.specs.declared.ends.EpilogEnds.{EpilogEnds}
use Rattle.framehop_pe_codes.specs.declared.ends.EpilogEnds.TheVariants.{Published, Known}
use Rattle.framehop_pe_codes.specs.declared.ends.RowCode.{RowCode}

-- Bytes begin with these.
unfoldable pub begins_with : List ℕ → List ℕ → Bool
begins_with spelling bytes = starts_with (λ a b. a == b) bytes spelling

-- A number below a limit, as a signed number of as many bits.
abbrev pub signed_below : ℕ → ℕ → ℤ
signed_below limit number = if nat_lt number (limit / 2) then pos number else pos number -ℤ pos limit

-- A return: c3, f3 c3.
unfoldable pub is_return : List ℕ → Bool
is_return bytes = begins_with (0xc3 ∷ []) bytes || begins_with (0xf3 ∷ 0xc3 ∷ []) bytes

-- A return or a jump: also eb, e9, ff 25, 48 ff 25, wherever they lead.
unfoldable pub is_published_end : List ℕ → Bool
is_published_end bytes =
    is_return bytes || begins_with (0xeb ∷ []) bytes || begins_with (0xe9 ∷ []) bytes
    || begins_with (0xff ∷ 0x25 ∷ []) bytes || begins_with (0x48 ∷ 0xff ∷ 0x25 ∷ []) bytes

-- A jump with a displacement: how many bytes it has, and the displacement.
abbrev pub Jump : Type 0
Jump = ℕ × ℤ

-- eb cb, e9 cd.
unfoldable pub direct_jump : List ℕ → Option Jump
direct_jump bytes =
    if begins_with (0xeb ∷ []) bytes && nat_le 2 (length bytes) then Some (2, signed_below 256 (slice_index bytes 1)) else
    if begins_with (0xe9 ∷ []) bytes && nat_le 5 (length bytes) then Some (5, signed_below 4294967296 (u32_at bytes 1)) else None

-- Where a jump leads that is at an address: the displacement counts from its end.
abbrev pub target : ℕ → Jump → ℤ
target address jump = pos (address + jump.0) +ℤ jump.1

-- An address is before a row's code, or is its begin if a function begins there.
abbrev pub is_before : RowCode → ℤ → Bool
is_before row address = if row.begins_function then int_le address (pos row.begin) else int_lt address (pos row.begin)

-- A jump leaves the function: it leads out of the row's code, or calls the function again. The bytes end with the row's code.
abbrev pub leaves : RowCode → List ℕ → Option Jump → Bool
leaves row bytes None = false
leaves row bytes (Some jump) =
    let to = target (row.end - length bytes) jump in is_before row to || int_le (pos row.end) to

-- ff /4 with REX.W: 48 to 4f, ff, and a ModR/M byte whose middle field is 4. Compilers write the prefix, which does nothing there, to say
-- that the jump leaves the function.
unfoldable pub is_wide_jump : List ℕ → Bool
is_wide_jump bytes = (slice_index bytes 0 / 8 == 9) && (slice_index bytes 1 == 0xff) && (slice_index bytes 2 / 8 % 8 == 4)

-- A return; ff 25; such a jump; or eb or e9, if they leave the function.
unfoldable pub is_known_end : RowCode → List ℕ → Bool
is_known_end row bytes =
    is_return bytes || begins_with (0xff ∷ 0x25 ∷ []) bytes || is_wide_jump bytes || leaves row bytes (direct_jump bytes)

-- An instruction that ends an epilog.
abbrev pub is_end : EpilogEnds → List ℕ → Bool
is_end Published bytes = is_published_end bytes
is_end (Known row) bytes = is_known_end row bytes
