-- No read of an encoded pointer says that memory ran out.
use Rattle.std.proofs.Common.{ℕ}
use Rattle.std.specs.Prelude.{ℤ, ◌==◌}
use Rattle.std.specs.Int.{Width, w16, w32, w64}
use Rattle.dwarf_constants.specs.Pointer.{application_of, format_of}
use Rattle.dwarf_constants.specs.declared.constants.TheConstants.{DW_EH_PE_absptr, DW_EH_PE_uleb128, DW_EH_PE_udata2, DW_EH_PE_udata4, DW_EH_PE_udata8, DW_EH_PE_sleb128, DW_EH_PE_sdata2, DW_EH_PE_sdata4, DW_EH_PE_sdata8, DW_EH_PE_pcrel, DW_EH_PE_textrel, DW_EH_PE_datarel, DW_EH_PE_funcrel}
use Rattle.dwarf_readers.specs.Memory.{NeverWantsMemory}
use Rattle.dwarf_readers.specs.Stretch.{Stretch, ◌>>=◌, signed_number_at}
use Rattle.dwarf_readers.proofs.Laws.{address_memory, byte_memory, memory_err, memory_if, memory_ok, memory_test, memory_then, memory_there, number_memory, signed_memory, signed_number_memory, unsigned_memory}
use Rattle.dwarf_frame_rows.specs.EncodedPointer.{Origins, as_unsigned, base_of, direct_address, encoding_at, known_encoding, origin_of, plain_value_at, pointer_at, taken_encoding, value_at}
use Rattle.dwarf_frame_rows.specs.declared.pointer.Pointer.{Pointer}
use Rattle.dwarf_frame_rows.specs.declared.pointer.Pointer.TheVariants.{Direct, Indirect}

known_memory : (encoding : ℕ) → NeverWantsMemory (known_encoding encoding)
known_memory encoding = memory_test _ _ (λ h. cc)

pub encoding_memory : (s : Stretch) → NeverWantsMemory (encoding_at s)
encoding_memory s = memory_then (byte_memory s) (λ encoding. memory_then (known_memory encoding.0) (λ _. memory_ok))

taken_memory : (encoding : ℕ) → NeverWantsMemory (taken_encoding encoding)
taken_memory encoding = memory_then (known_memory encoding) (λ _. memory_test _ _ (λ h. cc))

cast_memory : (read : ℤ × Stretch) → NeverWantsMemory (as_unsigned read)
cast_memory read = memory_ok

signed_value_memory : (w : Width) (s : Stretch) → NeverWantsMemory (signed_number_at w s >>= as_unsigned)
signed_value_memory w s = memory_then (signed_number_memory w s) cast_memory

pub value_memory : (size format : ℕ) (s : Stretch) → NeverWantsMemory (value_at size format s)
value_memory size format s =
    memory_if (format == DW_EH_PE_absptr.0) (address_memory size s)
    (memory_if (format == DW_EH_PE_uleb128.0) (unsigned_memory s)
    (memory_if (format == DW_EH_PE_udata2.0) (number_memory 2 s)
    (memory_if (format == DW_EH_PE_udata4.0) (number_memory 4 s)
    (memory_if (format == DW_EH_PE_udata8.0) (number_memory 8 s)
    (memory_if (format == DW_EH_PE_sleb128.0) (memory_then (signed_memory s) cast_memory)
    (memory_if (format == DW_EH_PE_sdata2.0) (signed_value_memory w16 s)
    (memory_if (format == DW_EH_PE_sdata4.0) (signed_value_memory w32 s)
    (memory_if (format == DW_EH_PE_sdata8.0) (signed_value_memory w64 s)
    (memory_err (λ h. cc))))))))))

base_memory : (origins : Origins) (application place : ℕ) → NeverWantsMemory (base_of origins application place)
base_memory origins application place =
    memory_if (application == DW_EH_PE_absptr.0) memory_ok
    (memory_if (application == DW_EH_PE_pcrel.0) (memory_then (memory_there origins.bases.section _ (λ h. cc)) (λ start. memory_ok))
    (memory_if (application == DW_EH_PE_textrel.0) (memory_there origins.bases.text _ (λ h. cc))
    (memory_if (application == DW_EH_PE_datarel.0) (memory_there origins.bases.data_base _ (λ h. cc))
    (memory_if (application == DW_EH_PE_funcrel.0) (memory_there origins.function _ (λ h. cc))
    (memory_err (λ h. cc))))))

origin_memory : (origins : Origins) (encoding place : ℕ) → NeverWantsMemory (origin_of origins encoding place)
origin_memory origins encoding place =
    memory_then (taken_memory encoding) (λ _.
    memory_then (base_memory origins (application_of encoding) place) (λ base.
    memory_then (memory_test _ _ (λ h. cc)) (λ _. memory_ok)))

pub pointer_memory : (origins : Origins) (encoding : ℕ) (s : Stretch) → NeverWantsMemory (pointer_at origins encoding s)
pointer_memory origins encoding s =
    memory_then (origin_memory origins encoding s.offset) (λ base.
    memory_then (value_memory origins.address_size (format_of encoding) s) (λ value. memory_ok))

pub plain_value_memory : (size encoding : ℕ) (s : Stretch) → NeverWantsMemory (plain_value_at size encoding s)
plain_value_memory size encoding s = memory_then (taken_memory encoding) (λ _. value_memory size (format_of encoding) s)

pub direct_memory : (pointer : Pointer) → NeverWantsMemory (direct_address pointer)
direct_memory (Direct address) = memory_ok
direct_memory (Indirect address) = memory_err (λ h. cc)
