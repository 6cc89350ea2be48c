-- The augmentation of a CIE: a string, and the data of its letters, which follows the return address register (LSB 5.0,
-- 10.6.1.1.1).
use Rattle.std.specs.Prelude.{ℕ, ◌==◌, true, false, List, [], ◌∷◌, Option, Some, None, Result, Ok, Err, if◌then◌else◌, is_some}
use Rattle.std.specs.Option.{ok_or}
use Rattle.dwarf_constants.specs.declared.constants.DwEhPe.{DwEhPe}
use Rattle.dwarf_constants.specs.declared.constants.TheConstants.{DW_EH_PE_omit}
use Rattle.dwarf_constants.specs.declared.error.Error.{Error}
use Rattle.dwarf_constants.specs.declared.error.Error.TheVariants.{UnknownAugmentation}
use Rattle.dwarf_readers.specs.Leb128.{unsigned_at}
use Rattle.dwarf_endianity.specs.Offset.{offset_below}
use Rattle.dwarf_readers.specs.Stretch.{Stretch, ◌>>=◌, split_at}
use Rattle.dwarf_frame_rows.specs.EncodedPointer.{Origins, encoding_at, pointer_at}
use Rattle.dwarf_frame_rows.specs.declared.pointer.Pointer.{Pointer}
use Rattle.dwarf_frame_entries.specs.declared.augmentation.Augmentation.{Augmentation}

-- z: data follows, with its length
abbrev pub letter_z : ℕ
letter_z = 0x7a

-- L: the data has the encoding of the pointers to language-specific data
abbrev pub letter_L : ℕ
letter_L = 0x4c

-- P: the data has the encoding of the pointer to a personality routine, and that pointer
abbrev pub letter_P : ℕ
letter_P = 0x50

-- R: the data has the encoding of the addresses of FDEs
abbrev pub letter_R : ℕ
letter_R = 0x52

-- S: the frame is that of a signal handler
abbrev pub letter_S : ℕ
letter_S = 0x53

-- B: return addresses are signed with key B of aarch64, which changes nothing here
abbrev pub letter_B : ℕ
letter_B = 0x42

-- an unsigned LEB128 length and as many bytes of data, and what is left after them
abbrev pub data_at : ℕ → Stretch → Result (Stretch × Stretch) Error
data_at limit s = do
  length ← unsigned_at s
  count ← offset_below limit length.0
  split_at count length.1

-- an encoding; DW_EH_PE_omit is none
abbrev pub encoding_unless_omitted : ℕ → Option DwEhPe
encoding_unless_omitted byte = if byte == DW_EH_PE_omit.0 then None else Some (record { 0 = byte })

-- a pointer with its encoding; there is none at DW_EH_PE_omit
abbrev pub pointer_unless_omitted : Origins → ℕ → Stretch → Result (Option (DwEhPe × Pointer) × Stretch) Error
pointer_unless_omitted origins byte s =
    if byte == DW_EH_PE_omit.0 then Ok (None, s) else (do
      pointer ← pointer_at origins byte s
      Ok (Some (record { 0 = byte }, pointer.0), pointer.1))

-- what the letters so far say, and the data that is left for the others, if there is any
pub record Letters : Type 0 where
  pub augmentation : Augmentation
  pub left : Option Stretch

-- before any letter
abbrev pub no_letters : Option Stretch → Letters
no_letters left = record {
  augmentation = record {
    has_data = is_some left;
    lsda = None;
    personality = None;
    fde_address_encoding = None;
    is_signal_trampoline = false;
  };
  left = left;
}

-- a letter that has data, at the start of the data that is left
abbrev pub letter_with_data : Origins → ℕ → Augmentation → Stretch → Result Letters Error
letter_with_data origins letter before left =
    if letter == letter_L then (do
      encoding ← encoding_at left
      Ok (record { augmentation = record before { lsda = encoding_unless_omitted encoding.0 }; left = Some encoding.1 }))
    else if letter == letter_P then (do
      encoding ← encoding_at left
      personality ← pointer_unless_omitted origins encoding.0 encoding.1
      Ok (record { augmentation = record before { personality = personality.0 }; left = Some personality.1 }))
    else if letter == letter_R then (do
      encoding ← encoding_at left
      Ok (record {
        augmentation = record before { fde_address_encoding = Some (record { 0 = encoding.0 }) };
        left = Some encoding.1;
      }))
    else Err UnknownAugmentation

-- what one more letter says; it is unknown if it needs data and there is none
abbrev pub with_letter : Origins → ℕ → Letters → Result Letters Error
with_letter origins letter before =
    if letter == letter_S then Ok (record before { augmentation = record before.augmentation { is_signal_trampoline = true } })
    else if letter == letter_B then Ok before
    else (do
      left ← ok_or before.left UnknownAugmentation
      letter_with_data origins letter before.augmentation left)

-- what more letters say, in their order
abbrev pub with_letters : Origins → List ℕ → Letters → Result Letters Error
with_letters origins [] before = Ok before
with_letters origins (letter ∷ letters) before = do
  next ← with_letter origins letter before
  with_letters origins letters next

-- the augmentation by its letters and their data
abbrev pub augmentation_by_letters : Origins → List ℕ → Option Stretch → Result Augmentation Error
augmentation_by_letters origins letters left = do
  read ← with_letters origins letters (no_letters left)
  Ok read.augmentation

-- the augmentation by its string, and what is left after its data: an empty string is none, and only a string that begins with z
-- has data
abbrev pub augmentation_at : ℕ → Origins → List ℕ → Stretch → Result (Option Augmentation × Stretch) Error
augmentation_at limit origins [] s = Ok (None, s)
augmentation_at limit origins (letter ∷ letters) s =
    if letter == letter_z then (do
      extra ← data_at limit s
      augmentation ← augmentation_by_letters origins letters (Some extra.0)
      Ok (Some augmentation, extra.1))
    else (do
      augmentation ← augmentation_by_letters origins (letter ∷ letters) None
      Ok (Some augmentation, s))
