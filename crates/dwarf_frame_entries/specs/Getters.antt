-- Parts of a CIE that it may lack, as getters return them.
use Rattle.std.specs.Prelude.{Bool, false, Option, Some, None, option_map}
use Rattle.dwarf_constants.specs.declared.common.Encoding.{Encoding}
use Rattle.dwarf_constants.specs.declared.constants.DwEhPe.{DwEhPe}
use Rattle.dwarf_frame_rows.specs.declared.pointer.Pointer.{Pointer}
use Rattle.dwarf_frame_entries.specs.Entries.{Cie, part_of}
use Rattle.dwarf_frame_entries.specs.declared.augmentation.Augmentation.{Augmentation}

-- the encoding parameters: the size of addresses, the format and the version
abbrev pub cie_encoding : Cie → Encoding
cie_encoding cie = record { address_size = cie.address_size; format = cie.format; version = cie.version }

-- the encoding of pointers to language-specific data
abbrev pub lsda_encoding : Cie → Option DwEhPe
lsda_encoding cie = part_of (λ augmentation. augmentation.lsda) cie.augmentation

-- the personality routine, with the encoding of the pointer to it
abbrev pub personality_with_encoding : Cie → Option (DwEhPe × Pointer)
personality_with_encoding cie = part_of (λ augmentation. augmentation.personality) cie.augmentation

-- the personality routine
abbrev pub personality : Cie → Option Pointer
personality cie = option_map (λ personality. personality.1) (personality_with_encoding cie)

-- the augmentation says that the frame is that of a signal handler
abbrev pub says_signal_trampoline : Option Augmentation → Bool
says_signal_trampoline None = false
says_signal_trampoline (Some augmentation) = augmentation.is_signal_trampoline

-- the frame is that of a signal handler
abbrev pub is_signal_trampoline : Cie → Bool
is_signal_trampoline cie = says_signal_trampoline cie.augmentation
