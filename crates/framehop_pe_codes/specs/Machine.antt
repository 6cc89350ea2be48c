-- The machine that undoes a prolog, code by code, over the registers and a map of words (Microsoft, "x64 exception handling",
-- "Unwind procedure").
--
-- Checks and reads go in the written order, and the first one that fails is the refusal.
use Rattle.std.specs.Prelude.{ℕ, ◌+◌, ◌-◌, ◌^◌, Bool, nat_lt, if◌then◌else◌, List, [], ◌∷◌, Some, None, Ok, Err}
use Rattle.framehop_registers.specs.Callback.{Words}
use Rattle.framehop_registers.specs.Registers.{sp_of, register_of, with_register}
use Rattle.framehop_registers.specs.declared.x86_64.unwindregs.Reg.{Reg}
use Rattle.framehop_registers.specs.declared.x86_64.unwindregs.Reg.TheVariants.{RSP}
use Rattle.framehop_registers.specs.declared.x86_64.unwindregs.UnwindRegsX86_64.{UnwindRegsX86_64}
use Rattle.framehop_errors.specs.declared.pe.PeUnwinderError.{PeUnwinderError}
use Rattle.framehop_errors.specs.declared.pe.PeUnwinderError.TheVariants.{MissingStackData}
use Rattle.framehop_pe_codes.specs.Refusals.{PeResult, result_and_then, or_refusal}
use Rattle.framehop_pe_codes.specs.declared.machine.FrameBase.{FrameBase}
use Rattle.framehop_pe_codes.specs.declared.operation.UnwindOperation.{UnwindOperation}
use Rattle.framehop_pe_codes.specs.declared.operation.UnwindOperation.TheVariants.{Push, Allocate, SetFrame, Save, SaveVector, MachineFrame}

-- So many bytes above an address, which has to be an address of 64 bits.
abbrev pub above : ℕ → ℕ → PeResult ℕ
above base bytes = if nat_lt (base + bytes) (2 ^ 64) then Ok (base + bytes) else Err (MissingStackData None)

-- So many bytes below it.
abbrev pub below : ℕ → ℕ → PeResult ℕ
below base bytes = if nat_lt base bytes then Err (MissingStackData None) else Ok (base - bytes)

-- The word at an address, or else this refusal.
abbrev pub word_or : PeUnwinderError → Words → ℕ → PeResult ℕ
word_or refusal words at = or_refusal refusal (words at)

-- The stack pointer that the prolog left, by the frame register. A frame that is set has one.
abbrev pub by_frame : FrameBase → UnwindRegsX86_64 → PeResult ℕ
by_frame frame registers =
    result_and_then (or_refusal (MissingStackData None) frame.register) (λ register. below (register_of registers register) frame.offset)

-- What offsets of saved registers are counted from.
abbrev pub save_base : FrameBase → UnwindRegsX86_64 → PeResult ℕ
save_base frame registers = if frame.is_set then by_frame frame registers else Ok (sp_of registers)

-- The stack pointer goes up.
abbrev pub raised : UnwindRegsX86_64 → ℕ → PeResult UnwindRegsX86_64
raised registers bytes = result_and_then (above (sp_of registers) bytes) (λ sp. Ok (with_register registers RSP sp))

-- A register takes the word at the stack pointer, which then goes up by 8: 8 above where it was, also where it is the register.
abbrev pub popped : PeUnwinderError → Reg → UnwindRegsX86_64 → Words → PeResult UnwindRegsX86_64
popped refusal register registers words =
    result_and_then (word_or refusal words (sp_of registers)) (λ value.
    result_and_then (above (sp_of registers) 8) (λ sp.
    Ok (with_register (with_register registers register value) RSP sp)))

-- The stack pointer is set back by the frame register.
abbrev pub framed : FrameBase → UnwindRegsX86_64 → PeResult UnwindRegsX86_64
framed frame registers = result_and_then (by_frame frame registers) (λ sp. Ok (with_register registers RSP sp))

-- A register takes the word where the prolog saved it.
abbrev pub restored : FrameBase → Reg → ℕ → UnwindRegsX86_64 → Words → PeResult UnwindRegsX86_64
restored frame register offset registers words =
    result_and_then (save_base frame registers) (λ base.
    result_and_then (above base offset) (λ at.
    result_and_then (word_or (MissingStackData None) words at) (λ value.
    Ok (with_register registers register value))))

-- How many bytes an error code has, if there is one.
abbrev pub error_code_size : Bool → ℕ
error_code_size has_error_code = if has_error_code then 8 else 0

-- The caller of a frame: the return address, and the registers there. The instruction pointer among them stays.
abbrev pub PeCaller : Type 0
PeCaller = ℕ × UnwindRegsX86_64

-- The code that was interrupted: after an error code, if there is one, stand its address and, 24 above that, its stack pointer.
abbrev pub interrupted : Bool → UnwindRegsX86_64 → Words → PeResult PeCaller
interrupted has_error_code registers words =
    result_and_then (above (sp_of registers) (error_code_size has_error_code)) (λ at.
    result_and_then (word_or (MissingStackData None) words at) (λ to.
    result_and_then (above at 24) (λ sp_at.
    result_and_then (word_or (MissingStackData None) words sp_at) (λ sp.
    Ok (to, with_register registers RSP sp)))))

-- One code undone: the machine goes on with these registers, or it returns to this address with these registers.
pub data Undone : Type 0 where
  GoesOn : UnwindRegsX86_64 → Undone
  Returns : ℕ → UnwindRegsX86_64 → Undone

-- A part after which it goes on.
abbrev pub goes_on : PeResult UnwindRegsX86_64 → PeResult Undone
goes_on part = result_and_then part (λ registers. Ok (GoesOn registers))

-- One code undone. Vector registers aren't kept.
abbrev pub undone : FrameBase → UnwindOperation → UnwindRegsX86_64 → Words → PeResult Undone
undone frame (Push register) registers words = goes_on (popped (MissingStackData None) register registers words)
undone frame (Allocate bytes) registers words = goes_on (raised registers bytes)
undone frame SetFrame registers words = goes_on (framed frame registers)
undone frame (Save register offset) registers words = goes_on (restored frame register offset registers words)
undone frame SaveVector registers words = Ok (GoesOn registers)
undone frame (MachineFrame has_error_code) registers words =
    result_and_then (interrupted has_error_code registers words) (λ found. Ok (Returns found.0 found.1))

-- A return. Where its word can't be read, the refusal says the address.
abbrev pub returned : UnwindRegsX86_64 → Words → PeResult PeCaller
returned registers words =
    result_and_then (word_or (MissingStackData (Some (sp_of registers))) words (sp_of registers)) (λ to.
    result_and_then (above (sp_of registers) 8) (λ sp.
    Ok (to, with_register registers RSP sp)))

-- What is done once a code is undone.
abbrev pub resumed : (UnwindRegsX86_64 → PeResult PeCaller) → Undone → PeResult PeCaller
resumed next (GoesOn registers) = next registers
resumed next (Returns to registers) = Ok (to, registers)

-- The caller by codes: they are undone one after the other, and then the function returns.
abbrev pub caller_by_codes : FrameBase → List UnwindOperation → UnwindRegsX86_64 → Words → PeResult PeCaller
caller_by_codes frame [] registers words = returned registers words
caller_by_codes frame (operation ∷ operations) registers words =
    result_and_then (undone frame operation registers words) (resumed (λ next. caller_by_codes frame operations next words))
