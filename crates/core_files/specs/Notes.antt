-- The notes of a core (Linux, include/uapi/linux/elf.h): those of the kernel are named CORE, those of registers of the architecture
-- LINUX.
use Rattle.std.specs.Prelude.{ℕ, ◌+◌, ◌==◌, ◌&&◌, Bool, codes, if◌then◌else◌, List, [], ◌∷◌, Option, Some, None, Ok}
use Rattle.std.specs.Str.{bytes_eq}
use Rattle.elf_files.specs.Notes.{NoteParts}
use Rattle.elf_files.specs.declared.header.Machine.{Machine}
use Rattle.elf_files.specs.declared.header.Machine.TheVariants.{X86_64, Aarch64}
use Rattle.core_files.specs.declared.pac_mask.PointerAuthenticationMasks.{PointerAuthenticationMasks}
use Rattle.core_files.specs.declared.prstatus.Prstatus.{Prstatus}
use Rattle.core_files.specs.declared.thread.Thread.{Thread}
use Rattle.core_files.specs.MappedFiles.{FileMapping, mapped_files}
use Rattle.core_files.specs.PacMask.{pac_masks}
use Rattle.core_files.specs.Prstatus.{prstatus_x86_64, prstatus_aarch64}
use Rattle.core_files.specs.Refusals.{Read, CoreResult, result_and_then, then_more, one, by_note}

-- A note has a name and a type.
abbrev pub is_note : List ℕ → ℕ → NoteParts → Bool
is_note name kind note = bytes_eq note.name name && (note.kind == kind)

-- NT_PRSTATUS: the status and the registers of a thread.
abbrev pub is_prstatus : NoteParts → Bool
is_prstatus = is_note (codes "CORE") 1

-- NT_FILE: the mapped files.
abbrev pub is_file_table : NoteParts → Bool
is_file_table = is_note (codes "CORE") 0x46494c45

-- NT_ARM_PAC_MASK: the masks of pointer authentication.
abbrev pub is_pac_mask : NoteParts → Bool
is_pac_mask = is_note (codes "LINUX") 0x406

-- What the descriptor of an NT_PRSTATUS says on a machine.
abbrev pub prstatus_on : Machine → List ℕ → Read Prstatus
prstatus_on X86_64 descriptor = prstatus_x86_64 descriptor
prstatus_on Aarch64 descriptor = prstatus_aarch64 descriptor

-- The masks of a thread: those of the first NT_ARM_PAC_MASK before the next thread's NT_PRSTATUS. The notes are numbered from here on.
unfoldable pub masks_of : ℕ → List NoteParts → CoreResult (Option PointerAuthenticationMasks)
masks_of number [] = Ok None
masks_of number (note ∷ notes) =
    if is_prstatus note then Ok None else
    if is_pac_mask note then result_and_then (by_note number (pac_masks note.descriptor)) (λ masks. Ok (Some masks)) else
    masks_of (number + 1) notes

-- The thread of an NT_PRSTATUS, whose other notes follow it.
abbrev pub thread_of : Machine → ℕ → NoteParts → List NoteParts → CoreResult Thread
thread_of machine number note notes =
    result_and_then (by_note number (prstatus_on machine note.descriptor)) (λ status.
    result_and_then (masks_of (number + 1) notes) (λ masks.
    Ok (record { id = status.pid; signal = status.signal; registers = status.registers; pointer_authentication_masks = masks })))

-- The thread of a note, if it is an NT_PRSTATUS.
abbrev pub thread_at : Machine → ℕ → NoteParts → List NoteParts → CoreResult (List Thread)
thread_at machine number note notes = if is_prstatus note then one (thread_of machine number note notes) else Ok []

-- The threads, in the order of the notes.
unfoldable pub threads_of : Machine → ℕ → List NoteParts → CoreResult (List Thread)
threads_of machine number [] = Ok []
threads_of machine number (note ∷ notes) = then_more (thread_at machine number note notes) (threads_of machine (number + 1) notes)

-- The mapped files: those of the first NT_FILE.
unfoldable pub files_of : ℕ → List NoteParts → CoreResult (List FileMapping)
files_of number [] = Ok []
files_of number (note ∷ notes) = if is_file_table note then by_note number (mapped_files note.descriptor) else files_of (number + 1) notes

-- The descriptor of the first of the kernel's notes of a type, without which there is no byte.
unfoldable pub descriptor_of : ℕ → List NoteParts → List ℕ
descriptor_of kind [] = []
descriptor_of kind (note ∷ notes) = if is_note (codes "CORE") kind note then note.descriptor else descriptor_of kind notes

-- NT_AUXV: the auxiliary vector.
abbrev pub auxv_of : List NoteParts → List ℕ
auxv_of notes = descriptor_of 6 notes

-- NT_PRPSINFO: what the process runs.
abbrev pub prpsinfo_of : List NoteParts → List ℕ
prpsinfo_of notes = descriptor_of 3 notes

-- NT_SIGINFO: the signal that ended the process.
abbrev pub siginfo_of : List NoteParts → List ℕ
siginfo_of notes = descriptor_of 0x53494749 notes
