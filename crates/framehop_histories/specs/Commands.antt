-- Commands to unwinders that share caches: what each asks, the state that it is answered from, and its reply. Each step is the judge's
-- from the modules that are loaded then, and each move of a walk is the judge's.
use Rattle.std.specs.Prelude.{ℕ, ◌-◌, ◌^◌, List, map, nat_lt, Option, Some, None, option_map, Result, if◌then◌else◌}
use Rattle.std.specs.List.{slice_get}
use Rattle.framehop_registers.specs.Callback.{Words}
use Rattle.framehop_registers.specs.declared.error.Error.{Error}
use Rattle.framehop_rules.specs.Outcome.{Outcome, Caller, answer_of_outcome, registers_after}
use Rattle.framehop_unwinder.specs.Attempt.{Meanings}
use Rattle.framehop_unwinder.specs.ByNumber.{held, is_held}
use Rattle.framehop_unwinder.specs.Frames.{Frame}
use Rattle.framehop_unwinder.specs.Judge.{judge}
use Rattle.framehop_unwinder.specs.Modules.{Loaded, is_loaded_at}
use Rattle.framehop_unwinder.specs.Progress.{SessionModel}
use Rattle.framehop_unwinder.specs.Walk.{Walk, Move, move}

-- What a command asks. Unwinders, caches and walks go by their numbers, in the order in which they were made, which are not
-- given again if one is let go; a step and a move have the words of the stack in place of a callback.
pub data Act (Data Registers : Type 0) : Type 0 where
  NewUnwinder : Act Data Registers
  NewCache : (slots : ℕ) → Act Data Registers
  Load : (unwinder : ℕ) → Loaded Data → Act Data Registers
  Unload : (unwinder start : ℕ) → Act Data Registers
  Clone : (unwinder : ℕ) → Act Data Registers
  RemoveUnwinder : (unwinder : ℕ) → Act Data Registers
  RemoveCache : (cache : ℕ) → Act Data Registers
  Step : (unwinder cache : ℕ) → Frame → Registers → Words → Act Data Registers
  NewWalk : (pc : ℕ) → Registers → Act Data Registers
  NextFrame : (unwinder cache walk : ℕ) → Words → Act Data Registers

-- What commands are answered from: how far the session has come, which is the modules and generations of its unwinders, the counter's
-- next number and the histories of its caches; and each walk.
pub record CommandState (Data Registers : Type 0) : Type 0 where
  pub model : SessionModel Data
  pub walks : List (Walk Registers)

-- What a command is answered: that something was added, or taken away; that what it names isn't there; that no more lists of modules
-- can be told apart; or the answer of a step or of a move of a walk, with the registers then.
pub data Reply (Registers : Type 0) : Type 0 where
  Added : Reply Registers
  Removed : Reply Registers
  Unknown : Reply Registers
  Exhausted : Reply Registers
  Stepped : Result (Option ℕ) Error → Registers → Reply Registers
  Moved : Result (Option Frame) Error → Registers → Reply Registers

-- the modules of an unwinder, if the unwinder is there
abbrev pub modules_of : {Data Registers : Type 0} → CommandState Data Registers → ℕ → Option (List (Loaded Data))
modules_of state unwinder = held (map (option_map (λ loads. loads.modules)) state.model.unwinders) unwinder

-- the modules of an unwinder, if the unwinder and the cache are there
abbrev pub modules_with_cache : {Data Registers : Type 0} → CommandState Data Registers → ℕ → ℕ → Option (List (Loaded Data))
modules_with_cache state unwinder cache =
    if is_held state.model.histories cache then modules_of state unwinder else None

-- the reply about what is named, if it is there
abbrev pub if_known : {X Registers : Type 0} → Option X → (X → Reply Registers) → Reply Registers
if_known None reply = Unknown
if_known (Some known) reply = reply known

-- a reply to what takes the counter's next number: numbers below 2^64 - 1 can be taken
abbrev pub if_left : {Data Registers : Type 0} → CommandState Data Registers → Reply Registers → Reply Registers
if_left state reply = if nat_lt state.model.next (2 ^ 64 - 1) then reply else Exhausted

-- a judged step: its answer, and the registers that it leaves
abbrev pub stepped : {Registers : Type 0} → Registers → Outcome (Caller Registers) → Reply Registers
stepped registers judged = Stepped (answer_of_outcome judged) (registers_after registers judged)

-- a walk that has made a move
abbrev pub moved : {Registers : Type 0} → Move Registers → Reply Registers
moved made = Moved made.answer made.walk.registers

-- The reply to a command. A new unwinder, a load, and an unload of a module that is there make a list of modules that a number tells
-- apart; a clone shares the list of its unwinder. What is let go isn't there any more. A step and a move are the judge's from the
-- modules of the unwinder, through any cache that is there.
abbrev pub reply_to : {Data Rule Registers : Type 0} → Meanings Data Rule Registers → Act Data Registers → CommandState Data Registers
    → Reply Registers
reply_to m NewUnwinder state = if_left state Added
reply_to m (NewCache slots) state = Added
reply_to m (Load unwinder module_) state = if_known (modules_of state unwinder) (λ modules. if_left state Added)
reply_to m (Unload unwinder start) state = if_known (modules_of state unwinder) (λ modules.
    if is_loaded_at start modules then if_left state Removed else Removed)
reply_to m (Clone unwinder) state = if_known (modules_of state unwinder) (λ modules. Added)
reply_to m (RemoveUnwinder unwinder) state = if_known (modules_of state unwinder) (λ modules. Removed)
reply_to m (RemoveCache cache) state = if is_held state.model.histories cache then Removed else Unknown
reply_to m (Step unwinder cache frame registers words) state = if_known (modules_with_cache state unwinder cache) (λ modules.
    stepped registers (judge m modules frame registers words))
reply_to m (NewWalk pc registers) state = Added
reply_to m (NextFrame unwinder cache walk words) state = if_known (modules_with_cache state unwinder cache) (λ modules.
    if_known (slice_get state.walks walk) (λ there. moved (move (judge m modules) words there)))
