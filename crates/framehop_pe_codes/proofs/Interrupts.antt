-- The caller after a machine frame, from the reads one after the other.
use Rattle.std.proofs.Common.{◌≡◌, ℕ, Bool, refl}
use Rattle.std.specs.Prelude.{Ok, None}
use Rattle.framehop_registers.specs.Callback.{Words}
use Rattle.framehop_registers.specs.Registers.{sp_of, with_register}
use Rattle.framehop_registers.specs.declared.x86_64.unwindregs.Reg.TheVariants.{RSP}
use Rattle.framehop_registers.specs.declared.x86_64.unwindregs.UnwindRegsX86_64.{UnwindRegsX86_64}
use Rattle.framehop_errors.specs.declared.pe.PeUnwinderError.TheVariants.{MissingStackData}
use Rattle.framehop_pe_codes.specs.Machine.{above, error_code_size, interrupted, word_or}
use Rattle.framehop_pe_codes.specs.Refusals.{PeResult, result_and_then}

module _ (has_error_code : Bool) (registers : UnwindRegsX86_64) (words : Words) (at to sp_at : ℕ) (last : PeResult ℕ)
    (at_is : above (sp_of registers) (error_code_size has_error_code) ≡ Ok at) (to_is : word_or (MissingStackData None) words at ≡ Ok to)
    (sp_at_is : above at 24 ≡ Ok sp_at) (last_is : word_or (MissingStackData None) words sp_at ≡ last) where
  pub interrupted-by : result_and_then last (λ sp. Ok (to, with_register registers RSP sp)) ≡ interrupted has_error_code registers words
  interrupted-by = rw (at_is, to_is, sp_at_is, last_is) refl
