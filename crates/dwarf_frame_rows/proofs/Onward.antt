-- What is left after an encoded pointer doesn't begin before it.
use Rattle.std.proofs.Common.{ℕ, ◌≤◌, ℤ, Err}
use Rattle.std.specs.Prelude.{◌==◌}
use Rattle.std.specs.Int.{Width, w16, w32, w64}
use Rattle.dwarf_constants.specs.Pointer.{format_of}
use Rattle.dwarf_constants.specs.declared.constants.TheConstants.{DW_EH_PE_absptr, DW_EH_PE_uleb128, DW_EH_PE_udata2, DW_EH_PE_udata4, DW_EH_PE_udata8, DW_EH_PE_sleb128, DW_EH_PE_sdata2, DW_EH_PE_sdata4, DW_EH_PE_sdata8}
use Rattle.dwarf_constants.specs.declared.error.Error.TheVariants.{UnknownPointerEncoding}
use Rattle.dwarf_readers.specs.Onward.{GoesOn, ReadsOn, rest_of_read}
use Rattle.dwarf_readers.specs.Stretch.{Stretch, ◌>>=◌, signed_number_at}
use Rattle.dwarf_frame_rows.specs.EncodedPointer.{Origins, as_unsigned, encoding_at, origin_of, plain_value_at, pointer_at, taken_encoding, value_at}
use Rattle.dwarf_readers.proofs.Laws.{address_on, byte_on, number_on, on_err, on_if, on_ok, on_then, on_value, signed_number_on, signed_on, unsigned_on}

pub encoding_on : (s : Stretch) → ReadsOn s (encoding_at s)
encoding_on s = on_then (byte_on s) (λ encoding le. on_value _ (λ _. on_ok le))

cast_on : (offset : ℕ) (read : ℤ × Stretch) → offset ≤ read.1.offset → GoesOn rest_of_read offset (as_unsigned read)
cast_on offset read le = on_ok le

signed_value_on : (w : Width) (s : Stretch) → ReadsOn s (signed_number_at w s >>= as_unsigned)
signed_value_on w s = on_then (signed_number_on w s) (λ read le. cast_on s.offset read le)

unknown_on : (offset format : ℕ) → GoesOn (rest_of_read {A = ℕ}) offset (Err (UnknownPointerEncoding (record { 0 = format })))
unknown_on offset format = on_err

pub value_on : (size format : ℕ) (s : Stretch) → ReadsOn s (value_at size format s)
value_on size format s =
    on_if (format == DW_EH_PE_absptr.0) (address_on size s)
    (on_if (format == DW_EH_PE_uleb128.0) (unsigned_on s)
    (on_if (format == DW_EH_PE_udata2.0) (number_on 2 s)
    (on_if (format == DW_EH_PE_udata4.0) (number_on 4 s)
    (on_if (format == DW_EH_PE_udata8.0) (number_on 8 s)
    (on_if (format == DW_EH_PE_sleb128.0) (on_then (signed_on s) (λ read le. cast_on s.offset read le))
    (on_if (format == DW_EH_PE_sdata2.0) (signed_value_on w16 s)
    (on_if (format == DW_EH_PE_sdata4.0) (signed_value_on w32 s)
    (on_if (format == DW_EH_PE_sdata8.0) (signed_value_on w64 s)
    (unknown_on s.offset format)))))))))

pub pointer_on : (origins : Origins) (encoding : ℕ) (s : Stretch) → ReadsOn s (pointer_at origins encoding s)
pointer_on origins encoding s = on_value (origin_of origins encoding s.offset) (λ base. on_then (value_on origins.address_size (format_of encoding) s) (λ value le. on_ok le))

pub plain_value_on : (size encoding : ℕ) (s : Stretch) → ReadsOn s (plain_value_at size encoding s)
plain_value_on size encoding s = on_value (taken_encoding encoding) (λ _. value_on size (format_of encoding) s)
