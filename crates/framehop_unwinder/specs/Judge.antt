-- One step of a stack walk on any architecture, from the modules, the frame, its registers and the words of the stack. There is
-- no cache and no generation in it.
use Rattle.std.specs.Prelude.{ℕ, List, Bool, Option, Some, None}
use Rattle.framehop_registers.specs.Callback.{Words}
use Rattle.framehop_rules.specs.Outcome.{Outcome, Answers, Caller}
use Rattle.framehop_unwinder.specs.Attempt.{Attempt, Says, Evaluates, SaysNothing, Meanings, attempt_at}
use Rattle.framehop_unwinder.specs.Frames.{Frame, lookup_address}
use Rattle.framehop_unwinder.specs.Modules.{Loaded, Loads}

-- the caller of this frame, or what is done if there is none
abbrev pub or_else : {Registers : Type 0} → Option (Caller Registers) → Outcome (Caller Registers) → Outcome (Caller Registers)
or_else (Some caller) otherwise = Answers caller
or_else None otherwise = otherwise

-- the outcome of an attempt: a rule is executed, the frame's caller is the answer, and without either the fallback is executed
abbrev pub by_attempt : {Data Rule Registers : Type 0} → Meanings Data Rule Registers → Bool → Registers → Words
    → Attempt Rule Registers → Outcome (Caller Registers)
by_attempt m first registers words (Says rule) = m.meaning rule first registers words
by_attempt m first registers words (Evaluates caller) =
    or_else (caller registers words) (m.meaning m.fallback first registers words)
by_attempt m first registers words SaysNothing = m.meaning m.fallback first registers words

-- the judgment of a step by the address that the frame is looked up by
abbrev pub judge_at : {Data Rule Registers : Type 0} → Meanings Data Rule Registers → List (Loaded Data) → Bool → ℕ
    → Registers → Words → Outcome (Caller Registers)
judge_at m modules first address registers words = by_attempt m first registers words (attempt_at m modules first address)

-- the same by what an unwinder has
abbrev pub judged_at : {Data Rule Registers : Type 0} → Meanings Data Rule Registers → Loads (Loaded Data) → Bool → ℕ
    → Registers → Words → Outcome (Caller Registers)
judged_at m loads first address registers words = judge_at m loads.modules first address registers words

-- the judgment of a step
abbrev pub judge : {Data Rule Registers : Type 0} → Meanings Data Rule Registers → List (Loaded Data) → Frame
    → Registers → Words → Outcome (Caller Registers)
judge m modules frame registers words = judge_at m modules frame.is_first (lookup_address frame) registers words
