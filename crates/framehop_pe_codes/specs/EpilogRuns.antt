-- What is left of an epilog, run one instruction at a time.
use Rattle.std.specs.Prelude.{ℕ, ℤ, pos, negsuc, ◌+ℤ◌, ◌^◌, nat_lt, if◌then◌else◌, List, [], ◌∷◌, Option, Some, None, Ok, Err}
use Rattle.framehop_registers.specs.Callback.{Words}
use Rattle.framehop_registers.specs.Registers.{sp_of, register_of, with_register}
use Rattle.framehop_registers.specs.declared.x86_64.unwindregs.Reg.{Reg}
use Rattle.framehop_registers.specs.declared.x86_64.unwindregs.Reg.TheVariants.{RSP}
use Rattle.framehop_registers.specs.declared.x86_64.unwindregs.UnwindRegsX86_64.{UnwindRegsX86_64}
use Rattle.framehop_errors.specs.declared.pe.PeUnwinderError.TheVariants.{MissingStackData}
use Rattle.framehop_pe_codes.specs.Epilogs.{EpilogLeft}
use Rattle.framehop_pe_codes.specs.Machine.{PeCaller, raised, popped, returned}
use Rattle.framehop_pe_codes.specs.Refusals.{PeResult, result_and_then, or_refusal}
use Rattle.framehop_pe_codes.specs.declared.epilog.SpAdjustment.{SpAdjustment}
use Rattle.framehop_pe_codes.specs.declared.epilog.SpAdjustment.TheVariants.{Stays, Add, Lea}

-- The caller by pops: they are done one after the other, and then the function returns. A word that can't be read is told by its
-- address.
abbrev pub caller_by_pops : List Reg → UnwindRegsX86_64 → Words → PeResult PeCaller
caller_by_pops [] registers words = returned registers words
caller_by_pops (register ∷ more) registers words =
    result_and_then (popped (MissingStackData (Some (sp_of registers))) register registers words) (λ next. caller_by_pops more next words)

-- A sum with a signed number, which has to be an address of 64 bits.
abbrev pub moved : ℤ → PeResult ℕ
moved (pos at) = if nat_lt at (2 ^ 64) then Ok at else Err (MissingStackData None)
moved (negsuc at) = Err (MissingStackData None)

-- The registers after the stack pointer is set. A lea has a frame register.
abbrev pub adjusted : Option Reg → SpAdjustment → UnwindRegsX86_64 → PeResult UnwindRegsX86_64
adjusted frame_register Stays registers = Ok registers
adjusted frame_register (Add bytes) registers = raised registers bytes
adjusted frame_register (Lea displacement) registers =
    result_and_then (or_refusal (MissingStackData None) frame_register) (λ register.
    result_and_then (moved (pos (register_of registers register) +ℤ displacement)) (λ sp.
    Ok (with_register registers RSP sp)))

-- The caller by what is left of an epilog.
abbrev pub caller_by_epilog : Option Reg → EpilogLeft → UnwindRegsX86_64 → Words → PeResult PeCaller
caller_by_epilog frame_register epilog registers words =
    result_and_then (adjusted frame_register epilog.adjustment registers) (λ next. caller_by_pops epilog.pops next words)
