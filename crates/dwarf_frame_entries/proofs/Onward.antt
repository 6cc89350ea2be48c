-- What is left behind the fields of an entry doesn't begin before them.
use Rattle.std.proofs.Common.{ℕ, Option, Some, None, arith}
use Rattle.dwarf_constants.specs.declared.constants.DwEhPe.{DwEhPe}
use Rattle.dwarf_readers.specs.Onward.{ReadsOn}
use Rattle.dwarf_readers.specs.Stretch.{Stretch}
use Rattle.dwarf_frame_rows.specs.EncodedPointer.{Origins}
use Rattle.dwarf_frame_rows.specs.SectionKind.{FrameSectionKind}
use Rattle.dwarf_frame_entries.specs.Augmentations.{pointer_unless_omitted}
use Rattle.dwarf_frame_entries.specs.Entries.{code_range_at, return_register_at, sizes_at}
use Rattle.dwarf_readers.proofs.Laws.{address_on, address_size_on, byte_on, on_from, on_if, on_ok, on_then, on_value, unsigned_16_on}
use Rattle.dwarf_frame_rows.proofs.Laws.{plain_value_on, pointer_on}

pub omitted_on : (origins : Origins) (byte : ℕ) (s : Stretch) → ReadsOn s (pointer_unless_omitted origins byte s)
omitted_on origins byte s = on_if _ (on_ok (omega arith)) (on_then (pointer_on origins byte s) (λ pointer le. on_ok le))

pub sizes_on : (kind : FrameSectionKind) (size version : ℕ) (s : Stretch) → ReadsOn s (sizes_at kind size version s)
sizes_on kind size version s =
    on_if _ (on_then (address_size_on s) (λ size le. on_then (on_from (byte_on size.1) le) (λ segment less. on_value _ (λ _. on_ok less))))
    (on_ok (omega arith))

pub register_on : (version : ℕ) (s : Stretch) → ReadsOn s (return_register_at version s)
register_on version s = on_if _ (byte_on s) (unsigned_16_on s)

pub addresses_on : (origins : Origins) (encoding : Option DwEhPe) (s : Stretch) → ReadsOn s (code_range_at origins encoding s)
addresses_on origins None s =
    on_then (address_on origins.address_size s) (λ initial le. on_then (on_from (address_on origins.address_size initial.1) le) (λ range less. on_ok less))
addresses_on origins (Some encoding) s =
    on_then (pointer_on origins encoding.0 s) (λ initial le. on_then (on_from (plain_value_on origins.address_size encoding.0 initial.1) le) (λ range less. on_ok less))
