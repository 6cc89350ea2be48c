-- What contracts see of runs and steps by what was read in memory, over the words of the stack.
use Rattle.std.specs.Prelude.{ℕ, ◌≡◌, List, Option}
use Rattle.framehop_registers.specs.Callback.{Words}
use Rattle.framehop_registers.specs.declared.x86_64.unwindregs.Reg.{Reg}
use Rattle.framehop_registers.specs.declared.x86_64.unwindregs.UnwindRegsX86_64.{UnwindRegsX86_64}
use Rattle.framehop_pe_codes.specs.EpilogRuns.{caller_by_epilog, caller_by_pops}
use Rattle.framehop_pe_codes.specs.EpilogViews.{OverEpilog, OverPops}
use Rattle.framehop_pe_codes.specs.InfoViews.{OverCodes, OverOperations}
use Rattle.framehop_pe_codes.specs.Machine.{caller_by_codes}
use Rattle.framehop_pe_codes.specs.MachineViews.{IsStepTo, caller_seen}
use Rattle.framehop_pe_codes.specs.Refusals.{PeResult}
use Rattle.framehop_pe_codes.specs.declared.chain.CodesLeft.{CodesLeft}
use Rattle.framehop_pe_codes.specs.declared.epilog.Epilog.{Epilog}
use Rattle.framehop_pe_codes.specs.declared.listing.PrologCodes.{PrologCodes}
use Rattle.framehop_pe_codes.specs.declared.machine.FrameBase.{FrameBase}

-- A run of the codes that are left finds the caller by their operations.
abbrev pub RunsCodes : FrameBase → CodesLeft → PeResult ℕ → UnwindRegsX86_64 → UnwindRegsX86_64 → Words → Type 0
RunsCodes frame left result before after words =
    OverOperations left (λ operations. caller_seen result after ≡ caller_by_codes frame operations before words)

-- A step by the codes of a prolog is the step to the caller by them.
abbrev pub StepsByCodes : PrologCodes → PeResult ℕ → UnwindRegsX86_64 → UnwindRegsX86_64 → Words → Type 0
StepsByCodes codes result before after words =
    OverCodes codes (λ undo. IsStepTo result before after (caller_by_codes undo.frame undo.operations before words))

-- A run of the pops that bytes are, up to their end, finds the caller by them.
abbrev pub RunsPops : List ℕ → PeResult ℕ → UnwindRegsX86_64 → UnwindRegsX86_64 → Words → Type 0
RunsPops bytes result before after words =
    OverPops bytes (λ registers. caller_seen result after ≡ caller_by_pops registers before words)

-- A step out of an epilog is the step to the caller by what is left of it.
abbrev pub StepsByEpilog : Option Reg → Epilog → PeResult ℕ → UnwindRegsX86_64 → UnwindRegsX86_64 → Words → Type 0
StepsByEpilog frame_register epilog result before after words =
    OverEpilog epilog (λ left. IsStepTo result before after (caller_by_epilog frame_register left before words))
