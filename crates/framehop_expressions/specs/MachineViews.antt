-- What functions of a machine return, as the contracts of private functions see it.
use Rattle.std.specs.Prelude.{ℕ, ◌≡◌, Result, Ok, Err}
use Rattle.framehop_registers.specs.Callback.{Words, OverWords}
use Rattle.framehop_expressions.specs.Evaluation.{Frame, Machine}
use Rattle.framehop_expressions.specs.Registers.{known}
use Rattle.framehop_expressions.specs.declared.registers.KnownRegisters.{KnownRegisters}

-- A machine became the expected one, or an operation failed with the expected error.
abbrev pub Becomes : {E : Type 0} → Result Machine E → Result (Unit {0}) E → Machine → Type 0
Becomes expected (Ok _) new = expected ≡ Ok new
Becomes expected (Err e) new = expected ≡ Err e

-- registers and memory of a frame
abbrev pub frame_of : KnownRegisters → Words → Frame
frame_of registers words = record { registers = known registers; words = words }

-- A call took the callback from `old` to `new`. Over all words that the callback answered by, the statement holds of the frame with
-- these registers and words.
abbrev pub OverFrames : {S : Type 0} → (S → ℕ → Result ℕ (Unit {0}) → S → Type 0) → (old new : S) → KnownRegisters → (Frame → Type 0)
    → Type 0
OverFrames step old new registers Statement = OverWords step old new (λ words. Statement (frame_of registers words))
