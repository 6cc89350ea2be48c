-- Steps over a sample.
use Rattle.std.specs.Prelude.{ℕ, ◌≡◌, ◌≢◌, List, Bool, false, Option, Some, None, Result, Err, IfSome, OnErr}
use Rattle.std.specs.List.{AllPass}
use Rattle.framehop_registers.specs.Callback.{Words}
use Rattle.framehop_registers.specs.declared.code_address.FrameAddress.{FrameAddress}
use Rattle.framehop_registers.specs.declared.error.Error.{Error}
use Rattle.framehop_registers.specs.declared.error.Error.TheVariants.{OutOfMemory}
use Rattle.framehop_rules.specs.Outcome.{Outcome, Caller}
use Rattle.framehop_unwinder.specs.Attempt.{Meanings}
use Rattle.framehop_unwinder.specs.ByNumber.{marks}
use Rattle.framehop_unwinder.specs.Frames.{Frame, frame_of}
use Rattle.framehop_unwinder.specs.HitReads.{RuleReads, reads_by}
use Rattle.framehop_unwinder.specs.IdViews.{FindsHeld, cache_number, modules_by, unwinder_number}
use Rattle.framehop_unwinder.specs.Judge.{judge}
use Rattle.framehop_unwinder.specs.State.{SessionState, StepsThrough}
use Rattle.framehop_unwinder.specs.Trials.{StaysUnlessStepped, StepsAs, wants_memory}
use Rattle.framehop_unwinder.specs.declared.ids.CacheId.{CacheId}
use Rattle.framehop_unwinder.specs.declared.ids.UnwinderId.{UnwinderId}
use Rattle.framehop_calls.specs.Samples.{is_known, words_of}
use Rattle.framehop_calls.specs.declared.sample.AskedSample.{AskedSample}
use Rattle.framehop_calls.specs.declared.sample.Sample.{Sample}
use Rattle.framehop_calls.specs.declared.sample_steps.SampleStep.{SampleStep}
use Rattle.framehop_calls.specs.declared.sample_steps.SampleStep.TheVariants.{Answered, NeedsWord}

-- the outcome of a step of an unwinder from a frame with these registers, over a sample
abbrev pub outcome_in : {Data Rule Registers : Type 0} → Meanings Data Rule Registers → SessionState Data Rule → UnwinderId → FrameAddress
    → Registers → Sample → Outcome (Caller Registers)
outcome_in m session unwinder address registers sample = judge m (modules_by session unwinder) (frame_of address) registers (words_of sample)

-- An answered step is the one of an outcome, unless it is out of memory, and without a caller the registers stay.
pub record IsAnswered {Registers : Type 0} (answer : Result (Option ℕ) Error) (old new : Registers) (outcome : Outcome (Caller Registers)) : Type 0 where
  pub step : StepsAs answer old new outcome
  pub stays : StaysUnlessStepped answer old new

-- an answered step is the one of an unwinder from a frame with these registers, over a sample
abbrev pub AnswersIn : {Data Rule Registers : Type 0} → Meanings Data Rule Registers → SessionState Data Rule → UnwinderId → FrameAddress
    → Sample → Result (Option ℕ) Error → Registers → Registers → Type 0
AnswersIn m session unwinder address sample answer old new = IsAnswered answer old new (outcome_in m session unwinder address old sample)

-- A step fails if and only if what it names was let go, or was never made; and changes nothing then.
pub record FindsBoth {X Registers A E : Type 0} (is_held : Bool) (result : Result A E) (old_session new_session : X) (old new : Registers) : Type 0 where
  pub session : FindsHeld is_held result old_session new_session
  pub registers : OnErr result (new ≡ old)

-- a step is the one of an outcome, or needs a word and leaves the registers
abbrev pub SampleSteps : {Registers : Type 0} → SampleStep → Registers → Registers → Outcome (Caller Registers) → Type 0
SampleSteps (Answered answer) old new outcome = IsAnswered answer old new outcome
SampleSteps (NeedsWord address) old new outcome = new ≡ old

-- a step is the one of an unwinder from a frame with these registers, over a sample
abbrev pub StepsIn : {Data Rule Registers : Type 0} → Meanings Data Rule Registers → SessionState Data Rule → UnwinderId → FrameAddress
    → Sample → SampleStep → Registers → Registers → Type 0
StepsIn m session unwinder address sample made old new = SampleSteps made old new (outcome_in m session unwinder address old sample)

-- A word is asked for only if the sample says so and nothing is known of it.
pub record IsAskedFor (sample : Sample) (address : ℕ) : Type 0 where
  pub asks : sample.asks ≢ 0
  pub unknown : is_known sample address ≡ false

-- only words are asked for of which nothing is known
abbrev pub AsksAsSaid : SampleStep → Sample → Type 0
AsksAsSaid (Answered answer) sample = Unit {0}
AsksAsSaid (NeedsWord address) sample = IsAskedFor sample address

-- where a sample asks, something was known of each word that was read, as far as it is known what was
abbrev pub Knew : Sample → Option (Words → List ℕ) → Type 0
Knew sample None = Unit {0}
Knew sample (Some reads) = sample.asks ≢ 0 → AllPass (is_known sample) (reads (words_of sample))

-- what the rule of a step from a frame with these registers reads, if the cache has it
abbrev pub reads_at : {Data Rule Registers : Type 0} → RuleReads Rule Registers → SessionState Data Rule → UnwinderId → CacheId → FrameAddress
    → Registers → Option (Words → List ℕ)
reads_at reads session unwinder cache address registers = reads_by reads session unwinder cache (frame_of address) registers

-- an answered step knew what it read
abbrev pub KnewRead : SampleStep → Sample → Option (Words → List ℕ) → Type 0
KnewRead (Answered answer) sample known = Knew sample known
KnewRead (NeedsWord address) sample known = Unit {0}

-- Only words are asked for of which nothing is known, and all such words are.
pub record Asks (sample : Sample) (known : Option (Words → List ℕ)) (made : SampleStep) : Type 0 where
  pub unknown : AsksAsSaid made sample
  pub knew : KnewRead made sample known

-- the first address of which nothing is known, of those that were read from none on; if it is known which were
abbrev pub NotesUnknown : Sample → (wanted : Option ℕ) → Option (Words → List ℕ) → Type 0
NotesUnknown sample wanted None = Unit {0}
NotesUnknown sample wanted (Some reads) =
    (wanted ≡ None → AllPass (is_known sample) (reads (words_of sample))) × IfSome wanted (λ address. is_known sample address ≡ false)

-- a step that began with nothing noted notes the first word that it reads and of which nothing is known
abbrev pub NotesRead : AskedSample → AskedSample → Option (Words → List ℕ) → Type 0
NotesRead old new known = old.wanted ≡ None → NotesUnknown old.sample.now new.wanted known

-- a session has the same modules in the same unwinders, and the same caches
pub record KeepsModules {Data Rule : Type 0} (old new : SessionState Data Rule) : Type 0 where
  pub unwinders : new.unwinders ≡ old.unwinders
  pub next : new.next ≡ old.next
  pub held : marks new.caches ≡ marks old.caches

-- a step leaves in the caches what a step of the unwinder through the cache does, each by its number; so does one that needs a word
abbrev pub CountsAsStep : {Data Rule Registers : Type 0} → Meanings Data Rule Registers → SampleStep → Frame → (unwinder cache : ℕ)
    → SessionState Data Rule → SessionState Data Rule → Type 0
CountsAsStep m (Answered answer) frame unwinder cache old new = StepsThrough m (wants_memory answer) frame unwinder cache old new
CountsAsStep m (NeedsWord address) frame unwinder cache old new = (wanted : Bool) × StepsThrough m wanted frame unwinder cache old new

-- the same by an address, and by the ids of an unwinder and a cache
abbrev pub CountsBy : {Data Rule Registers : Type 0} → Meanings Data Rule Registers → SampleStep → FrameAddress → UnwinderId → CacheId
    → SessionState Data Rule → SessionState Data Rule → Type 0
CountsBy m made address unwinder cache old new =
    CountsAsStep m made (frame_of address) (unwinder_number unwinder) (cache_number cache) old new

-- the step isn't out of memory
abbrev pub TakesNoMemory : SampleStep → Type 0
TakesNoMemory step = step ≢ Answered (Err OutOfMemory)
