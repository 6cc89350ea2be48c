-- What the code's answers and registers say of the machine.
use Rattle.std.specs.Prelude.{ℕ, ◌≡◌, Option, Some, None, Result, Ok, Err}
use Rattle.framehop_registers.specs.Callback.{Words, OverWords}
use Rattle.framehop_registers.specs.declared.x86_64.unwindregs.UnwindRegsX86_64.{UnwindRegsX86_64}
use Rattle.framehop_pe_codes.specs.Machine.{PeCaller, Undone, GoesOn, Returns}
use Rattle.framehop_pe_codes.specs.Refusals.{PeResult, result_and_then}

-- The answer and the registers of one code.
abbrev pub undone_seen : PeResult (Option ℕ) → UnwindRegsX86_64 → PeResult Undone
undone_seen (Ok None) registers = Ok (GoesOn registers)
undone_seen (Ok (Some to)) registers = Ok (Returns to registers)
undone_seen (Err refusal) registers = Err refusal

-- The registers that a part leaves which answers nothing else.
abbrev pub registers_seen : PeResult (Unit {0}) → UnwindRegsX86_64 → PeResult UnwindRegsX86_64
registers_seen (Ok done) registers = Ok registers
registers_seen (Err refusal) registers = Err refusal

-- The return address and the registers there.
abbrev pub caller_seen : PeResult ℕ → UnwindRegsX86_64 → PeResult PeCaller
caller_seen (Ok to) registers = Ok (to, registers)
caller_seen (Err refusal) registers = Err refusal

module _ {S : Type 0} (step : S → ℕ → Result ℕ (Unit {0}) → S → Type 0) (old new : S) where
  -- A code is undone as it is over the words that the callback answered by.
  abbrev pub UndoesAs : PeResult (Option ℕ) → UnwindRegsX86_64 → (Words → PeResult Undone) → Type 0
  UndoesAs result registers undone = OverWords step old new (λ words. undone_seen result registers ≡ undone words)

  -- A part that answers nothing else leaves such registers.
  abbrev pub LeavesAs : PeResult (Unit {0}) → UnwindRegsX86_64 → (Words → PeResult UnwindRegsX86_64) → Type 0
  LeavesAs result registers left = OverWords step old new (λ words. registers_seen result registers ≡ left words)

  -- A part that returns finds such a caller.
  abbrev pub ReturnsAs : PeResult ℕ → UnwindRegsX86_64 → (Words → PeResult PeCaller) → Type 0
  ReturnsAs result registers caller = OverWords step old new (λ words. caller_seen result registers ≡ caller words)

-- The return address of a caller.
abbrev pub return_address_of : PeResult PeCaller → PeResult ℕ
return_address_of caller = result_and_then caller (λ found. Ok found.0)

-- The registers after a step: the caller's, or those from before where it is refused.
abbrev pub registers_after : UnwindRegsX86_64 → PeResult PeCaller → UnwindRegsX86_64
registers_after before (Ok caller) = caller.1
registers_after before (Err refusal) = before

-- The step to a caller: its return address and its registers, or its refusal, which changes no register.
pub record IsStepTo (result : PeResult ℕ) (old new : UnwindRegsX86_64) (caller : PeResult PeCaller) : Type 0 where
  pub answer : result ≡ return_address_of caller
  pub registers : new ≡ registers_after old caller
