-- What is read of the stack where a cache has the rule of a step: the words of that rule, each once and in order, and nothing else.
use Rattle.std.specs.Prelude.{ℕ, List, [], Bool, Option, Some, None, Result}
use Rattle.framehop_registers.specs.Callback.{OverWords, Words, ReadsOverWords}
use Rattle.framehop_rules.specs.Slots.{Kept, Finding, Hits, EmptySlot, OtherModules, OtherAddress, found_by}
use Rattle.framehop_unwinder.specs.Frames.{Frame}
use Rattle.framehop_unwinder.specs.IdViews.{cache_number, unwinder_number}
use Rattle.framehop_unwinder.specs.RulesKept.{key_for}
use Rattle.framehop_unwinder.specs.State.{SessionState, cache_at, unwinder_at}
use Rattle.framehop_unwinder.specs.Walk.{WalkPosition, Starts, At, Over}
use Rattle.framehop_unwinder.specs.WalkViews.{walk_of}
use Rattle.framehop_unwinder.specs.declared.ids.CacheId.{CacheId}
use Rattle.framehop_unwinder.specs.declared.ids.UnwinderId.{UnwinderId}
use Rattle.framehop_unwinder.specs.declared.iterator.StackWalk.{StackWalk}

-- the words that rules read, by their addresses in order, from a first or a later frame with these registers
abbrev pub RuleReads : Type 0 → Type 0 → Type 0
RuleReads Rule Registers = Rule → Bool → Registers → Words → List ℕ

-- what a rule that was found reads; None if none was found
abbrev pub reads_of_finding : {Rule Registers : Type 0} → RuleReads Rule Registers → Bool → Registers → Finding Rule → Option (Words → List ℕ)
reads_of_finding reads is_first registers (Hits rule) = Some (reads rule is_first registers)
reads_of_finding reads is_first registers EmptySlot = None
reads_of_finding reads is_first registers OtherModules = None
reads_of_finding reads is_first registers OtherAddress = None

-- what a step reads from a frame with these registers, if a cache has its rule in this generation
abbrev pub reads_on_hit : {Rule Registers : Type 0} → RuleReads Rule Registers → ℕ → Kept Rule → Frame → Registers → Option (Words → List ℕ)
reads_on_hit reads generation cache frame registers =
    reads_of_finding reads frame.is_first registers (found_by cache (key_for frame generation))

-- the same of an unwinder and a cache of a session
abbrev pub reads_by : {Data Rule Registers : Type 0} → RuleReads Rule Registers → SessionState Data Rule → UnwinderId → CacheId → Frame → Registers
    → Option (Words → List ℕ)
reads_by reads session unwinder cache frame registers =
    reads_on_hit reads (unwinder_at session.unwinders (unwinder_number unwinder)).generation (cache_at session.caches (cache_number cache))
    frame registers

-- what a move of a walk reads: from a frame what a step does, and else nothing
abbrev pub reads_from : {Registers : Type 0} → (Frame → Registers → Option (Words → List ℕ)) → WalkPosition → Registers → Option (Words → List ℕ)
reads_from step_reads (Starts pc) registers = Some (λ words. [])
reads_from step_reads (At frame) registers = step_reads frame registers
reads_from step_reads Over registers = Some (λ words. [])

-- a call that took the callback from `old` to `new` read exactly these words, if they are known
abbrev pub ReadsIfKnown : {Stack : Type 0} → (Stack → ℕ → Result ℕ (Unit {0}) → Stack → Type 0) → Stack → Stack → Option (Words → List ℕ) → Type 0
ReadsIfKnown step old new None = Unit {0}
ReadsIfKnown step old new (Some reads) = ReadsOverWords step old new reads

-- the next move of a walk read exactly these words, if they are known
abbrev pub MoveReads : {Stack Registers : Type 0} → (Stack → ℕ → Result ℕ (Unit {0}) → Stack → Type 0) → Stack → Stack
    → (Frame → Registers → Option (Words → List ℕ)) → StackWalk Registers → Type 0
MoveReads step old new step_reads walk = ReadsIfKnown step old new (reads_from step_reads (walk_of walk).position (walk_of walk).registers)

-- What a call comes to over the words of the stack, and what it reads, if that is known.
pub record StepsReading {Stack : Type 0} (step : Stack → ℕ → Result ℕ (Unit {0}) → Stack → Type 0) (old new : Stack) (Statement : Words → Type 0)
    (known : Option (Words → List ℕ)) : Type 0 where
  pub over : OverWords step old new Statement
  pub order : ReadsIfKnown step old new known
