-- Steps and walks by numbers, over samples.
use Rattle.std.specs.Prelude.{ℕ, ◌≡◌, ◌≢◌, List, take, Option, Some, None, Ok, Err, if◌then◌else◌}
use Rattle.framehop_registers.specs.Callback.{Words}
use Rattle.framehop_registers.specs.declared.error.Error.{Error}
use Rattle.framehop_registers.specs.declared.error.Error.TheVariants.{CouldNotReadStack, FramepointerUnwindingMovedBackwards, DidNotAdvance, IntegerOverflow, ReturnAddressIsNull, OutOfMemory}
use Rattle.framehop_unwinder.specs.Attempt.{Meanings}
use Rattle.framehop_unwinder.specs.ByNumber.{is_held}
use Rattle.framehop_unwinder.specs.Frames.{Frame}
use Rattle.framehop_unwinder.specs.HitReads.{RuleReads, reads_on_hit}
use Rattle.framehop_unwinder.specs.Judge.{judge}
use Rattle.framehop_unwinder.specs.State.{SessionState, cache_at, modules_at, unwinder_at}
use Rattle.framehop_unwinder.specs.Walk.{Walk}
use Rattle.framehop_calls.specs.Samples.{words_of}
use Rattle.framehop_calls.specs.SampleSteps.{AsksAsSaid, CountsAsStep, KeepsModules, Knew, SampleSteps}
use Rattle.framehop_calls.specs.SampleWalks.{NeedsUnknown, Through, WalkIn, WalksOver, WritesFrames}
use Rattle.framehop_calls.specs.declared.sample.Sample.{Sample}
use Rattle.framehop_calls.specs.declared.sample_steps.SampleStep.{SampleStep}
use Rattle.framehop_calls.specs.declared.sample_steps.SampleStep.TheVariants.{Answered, NeedsWord}
use Rattle.framehop_calls.specs.declared.sample_walks.WalkEnd.{WalkEnd}
use Rattle.framehop_calls.specs.declared.sample_walks.WalkEnd.TheVariants as ending
use Rattle.framehop_calls.specs.declared.sample_walks.Walked.{Walked}
use Rattle.framehop_calls.specs.Statuses.{ok, end_of_stack, need_word, full, error_status, no_unwinder, no_cache}

-- the status of a call that names an unwinder and a cache
abbrev pub status_of_numbers : {Data Rule : Type 0} → SessionState Data Rule → ℕ → ℕ → ℕ
status_of_numbers session unwinder cache =
    if is_held session.unwinders unwinder then (if is_held session.caches cache then ok else no_cache) else no_unwinder

-- the status of a step
abbrev pub step_status : SampleStep → ℕ
step_status (Answered (Ok (Some return_address))) = ok
step_status (Answered (Ok None)) = end_of_stack
step_status (Answered (Err error)) = error_status error
step_status (NeedsWord address) = need_word

-- the return address that a step finds, else this one
abbrev pub return_address_by : SampleStep → ℕ → ℕ
return_address_by (Answered (Ok (Some return_address))) old = return_address
return_address_by (Answered (Ok None)) old = old
return_address_by (Answered (Err error)) old = old
return_address_by (NeedsWord address) old = old

-- the address of the word that an error is about, else this one
abbrev pub word_of_error : Error → ℕ → ℕ
word_of_error (CouldNotReadStack address) old = address
word_of_error FramepointerUnwindingMovedBackwards old = old
word_of_error DidNotAdvance old = old
word_of_error IntegerOverflow old = old
word_of_error ReturnAddressIsNull old = old
word_of_error OutOfMemory old = old

-- the address of the word that a step is about, else this one
abbrev pub word_by : SampleStep → ℕ → ℕ
word_by (Answered (Ok answer)) old = old
word_by (Answered (Err error)) old = word_of_error error old
word_by (NeedsWord address) old = address

-- A call for a step: the unwinder and the cache by their numbers, the frame and its registers, and where what the step gives is written.
pub record StepCall (Registers : Type 0) : Type 0 where
  pub unwinder : ℕ
  pub cache : ℕ
  pub frame : Frame
  pub registers : Registers
  pub return_address : ℕ
  pub word_address : ℕ

-- the call after a step, with the registers that it leaves
abbrev pub after_step : {Registers : Type 0} → SampleStep → Registers → StepCall Registers → StepCall Registers
after_step made registers call = record call {
  registers = registers;
  return_address = return_address_by made call.return_address;
  word_address = word_by made call.word_address;
}

-- A step over a sample is made: it is the judge's, what it gives is written and told, and it is counted in the cache that is named.
pub record MakesStep {Data Rule Registers : Type 0} (m : Meanings Data Rule Registers) (status : ℕ) (sample : Sample)
    (old_call new_call : StepCall Registers) (old new : SessionState Data Rule) : Type 0 where
  pub made : SampleStep
  pub told : status ≡ step_status made
  pub written : new_call ≡ after_step made new_call.registers old_call
  pub step : SampleSteps made old_call.registers new_call.registers
      (judge m (modules_at old old_call.unwinder) old_call.frame old_call.registers (words_of sample))
  pub asks : AsksAsSaid made sample
  pub session : KeepsModules old new
  pub caches : CountsAsStep m made old_call.frame old_call.unwinder old_call.cache old new

-- A step over a sample, if there are such an unwinder and such a cache; else nothing is changed, and it is told.
pub record StepsByNumber {Data Rule Registers : Type 0} (m : Meanings Data Rule Registers) (status : ℕ) (sample : Sample)
    (old_call new_call : StepCall Registers) (old new : SessionState Data Rule) : Type 0 where
  pub made : status_of_numbers old old_call.unwinder old_call.cache ≡ ok → MakesStep m status sample old_call new_call old new
  pub told : status_of_numbers old old_call.unwinder old_call.cache ≢ ok → status ≡ status_of_numbers old old_call.unwinder old_call.cache
  pub session : status_of_numbers old old_call.unwinder old_call.cache ≢ ok → new ≡ old
  pub call : status_of_numbers old old_call.unwinder old_call.cache ≢ ok → new_call ≡ old_call

-- what the rule of a step reads, if the cache that is named has it
abbrev pub reads_by_call : {Data Rule Registers : Type 0} → RuleReads Rule Registers → StepCall Registers → SessionState Data Rule
    → Option (Words → List ℕ)
reads_by_call reads call session =
    reads_on_hit reads (unwinder_at session.unwinders call.unwinder).generation (cache_at session.caches call.cache) call.frame call.registers

-- a step that needs no word knew what it read, if the cache has its rule
abbrev pub KnewByNumber : {Data Rule Registers : Type 0} → RuleReads Rule Registers → (status : ℕ) → Sample → StepCall Registers
    → SessionState Data Rule → Type 0
KnewByNumber reads status sample call session =
    status_of_numbers session call.unwinder call.cache ≡ ok → status ≢ need_word → Knew sample (reads_by_call reads call session)

-- the status of a walk
abbrev pub walk_status : WalkEnd → ℕ
walk_status ending.Full = full
walk_status ending.EndOfStack = end_of_stack
walk_status (ending.NeedsWord address) = need_word
walk_status (ending.Failed error) = error_status error

-- the address of the word that a walk stops at, else this one
abbrev pub word_at_end : WalkEnd → ℕ → ℕ
word_at_end ending.Full old = old
word_at_end ending.EndOfStack old = old
word_at_end (ending.NeedsWord address) old = address
word_at_end (ending.Failed error) old = word_of_error error old

-- A call for a walk: the unwinder and the cache by their numbers, where the walk is, and where what it gives is written.
pub record WalkCall (Registers : Type 0) : Type 0 where
  pub unwinder : ℕ
  pub cache : ℕ
  pub walk : Walk Registers
  pub count : ℕ
  pub word_address : ℕ

-- the call after a walk, which is here then
abbrev pub after_walk : {Registers : Type 0} → Walked → Walk Registers → WalkCall Registers → WalkCall Registers
after_walk made walk call = record call { walk = walk; count = made.count; word_address = word_at_end made.end call.word_address }

-- what a walk by a call goes through
abbrev pub through_call : {Data Rule Registers : Type 0} → Meanings Data Rule Registers → Sample → WalkCall Registers → Through Data Rule Registers
through_call m sample call = record { meanings = m; words = words_of sample; unwinder = call.unwinder; cache = call.cache }

-- where the walk of a call is, in a session
abbrev pub call_in : {Data Rule Registers : Type 0} → WalkCall Registers → SessionState Data Rule → WalkIn Data Rule Registers
call_in call session = record { walk = call.walk; session = session }

-- A walk over a sample goes on: its frames are the judge's, one after the other, each a move through the cache that is named, and they are
-- written within the room.
pub record MakesWalk {Data Rule Registers : Type 0} (m : Meanings Data Rule Registers) (status : ℕ) (sample : Sample)
    (before after : WalkCall Registers × List ℕ) (old new : SessionState Data Rule) : Type 0 where
  pub made : Walked
  pub told : status ≡ walk_status made.end
  pub written : after.0 ≡ after_walk made after.0.walk before.0
  pub walk : WalksOver (through_call m sample before.0) (call_in before.0 old) (take made.count after.1) made.end (call_in after.0 new)
  pub frames : WritesFrames made before.1 after.1
  pub needs : NeedsUnknown made.end sample
  pub session : KeepsModules old new

-- A walk over a sample, if there are such an unwinder and such a cache; else nothing is changed, and it is told.
pub record WalksByNumber {Data Rule Registers : Type 0} (m : Meanings Data Rule Registers) (status : ℕ) (sample : Sample)
    (before after : WalkCall Registers × List ℕ) (old new : SessionState Data Rule) : Type 0 where
  pub made : status_of_numbers old before.0.unwinder before.0.cache ≡ ok → MakesWalk m status sample before after old new
  pub told : status_of_numbers old before.0.unwinder before.0.cache ≢ ok → status ≡ status_of_numbers old before.0.unwinder before.0.cache
  pub session : status_of_numbers old before.0.unwinder before.0.cache ≢ ok → new ≡ old
  pub call : status_of_numbers old before.0.unwinder before.0.cache ≢ ok → after ≡ before
