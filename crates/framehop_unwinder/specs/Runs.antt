-- Runs of steps: from a frame, one step after the other, up to where they stop.
use Rattle.std.specs.Prelude.{ℕ, ◌≡◌, ◌≢◌, ◌≤◌, List, [], ◌∷◌, length, take, drop, Bool, false, Option, Some, None, Result, Ok, Err}
use Rattle.framehop_registers.specs.Callback.{OverWords}
use Rattle.framehop_registers.specs.FrameAddress.{address_of}
use Rattle.framehop_registers.specs.declared.code_address.FrameAddress.{FrameAddress}
use Rattle.framehop_registers.specs.declared.error.Error.{Error}
use Rattle.framehop_registers.specs.declared.error.Error.TheVariants.{CouldNotReadStack, FramepointerUnwindingMovedBackwards, DidNotAdvance, IntegerOverflow, ReturnAddressIsNull, OutOfMemory}
use Rattle.framehop_rules.specs.Slots.{Kept}
use Rattle.framehop_unwinder.specs.Attempt.{Meanings}
use Rattle.framehop_unwinder.specs.Frames.{Frame, frame_of, later_frame}
use Rattle.framehop_unwinder.specs.HitReads.{ReadsIfKnown, RuleReads, reads_by, reads_on_hit}
use Rattle.framehop_unwinder.specs.IdViews.{StepsBy, modules_by}
use Rattle.framehop_unwinder.specs.Judge.{judge}
use Rattle.framehop_unwinder.specs.Memory.{WantsFrom}
use Rattle.framehop_unwinder.specs.Modules.{Loaded, Loads}
use Rattle.framehop_unwinder.specs.RulesKept.{FitsLoads, StepsCache, key_for, rule_kept}
use Rattle.framehop_unwinder.specs.State.{SessionState}
use Rattle.framehop_unwinder.specs.Trials.{StaysUnlessStepped, StepsAs, wants_memory}
use Rattle.framehop_unwinder.specs.declared.ids.CacheId.{CacheId}
use Rattle.framehop_unwinder.specs.declared.ids.UnwinderId.{UnwinderId}
use Rattle.framehop_unwinder.specs.declared.runs.Run.{Run}
use Rattle.framehop_unwinder.specs.declared.runs.RunEnd.{RunEnd}
use Rattle.framehop_unwinder.specs.declared.runs.RunEnd.TheVariants.{Full, EndOfStack, Failed}

-- Where a run is: at a frame with these registers, with a callback and a session, or a cache, that are in these states.
pub record RunPoint (Registers Stack Held : Type 0) : Type 0 where
  pub frame : Frame
  pub registers : Registers
  pub stack : Stack
  pub held : Held

-- a run at an address
abbrev pub point : {Registers Stack Held : Type 0} → FrameAddress → Registers → Stack → Held → RunPoint Registers Stack Held
point address registers stack held = record { frame = frame_of address; registers = registers; stack = stack; held = held }

-- A run goes to the caller's frame by a step that gives its return address, which isn't 0.
pub record GoesTo {Registers Stack Held : Type 0} (Step : Result (Option ℕ) Error → RunPoint Registers Stack Held → RunPoint Registers Stack Held → Type 0)
    (address : ℕ) (old new : RunPoint Registers Stack Held) : Type 0 where
  pub step : Step (Ok (Some address)) old new
  pub frame : new.frame ≡ later_frame address
  pub some : address ≢ 0

-- a run passes frames at these return addresses, one after the other
abbrev pub PassesFrames : {Registers Stack Held : Type 0} → (Result (Option ℕ) Error → RunPoint Registers Stack Held → RunPoint Registers Stack Held → Type 0)
    → RunPoint Registers Stack Held → List ℕ → RunPoint Registers Stack Held → Type 0
PassesFrames Step old [] new = new ≡ old
PassesFrames {Registers} {Stack} {Held} Step old (address ∷ addresses) new =
    (mid : RunPoint Registers Stack Held) × GoesTo Step address old mid × PassesFrames Step mid addresses new

-- the answer of the step after which a run stops; none is made without room for a frame
abbrev pub last_answer : RunEnd → Option (Result (Option ℕ) Error)
last_answer Full = None
last_answer EndOfStack = Some (Ok None)
last_answer (Failed (CouldNotReadStack address)) = Some (Err (CouldNotReadStack address))
last_answer (Failed FramepointerUnwindingMovedBackwards) = Some (Err FramepointerUnwindingMovedBackwards)
last_answer (Failed DidNotAdvance) = Some (Err DidNotAdvance)
last_answer (Failed IntegerOverflow) = Some (Err IntegerOverflow)
last_answer (Failed ReturnAddressIsNull) = Some (Ok (Some 0))
last_answer (Failed OutOfMemory) = Some (Err OutOfMemory)

-- A run stops at its frame after a step.
pub record StopsAfter {Registers Stack Held : Type 0} (Step : Result (Option ℕ) Error → RunPoint Registers Stack Held → RunPoint Registers Stack Held → Type 0)
    (answer : Result (Option ℕ) Error) (old new : RunPoint Registers Stack Held) : Type 0 where
  pub step : Step answer old new
  pub frame : new.frame ≡ old.frame

-- a run stops, after a step or without one
abbrev pub Stops : {Registers Stack Held : Type 0} → (Result (Option ℕ) Error → RunPoint Registers Stack Held → RunPoint Registers Stack Held → Type 0)
    → Option (Result (Option ℕ) Error) → RunPoint Registers Stack Held → RunPoint Registers Stack Held → Type 0
Stops Step None old new = new ≡ old
Stops Step (Some answer) old new = StopsAfter Step answer old new

-- a run passes frames, and stops after them
abbrev pub RunsOver : {Registers Stack Held : Type 0} → (Result (Option ℕ) Error → RunPoint Registers Stack Held → RunPoint Registers Stack Held → Type 0)
    → RunPoint Registers Stack Held → List ℕ → RunEnd → RunPoint Registers Stack Held → Type 0
RunsOver {Registers} {Stack} {Held} Step old addresses end new =
    (last : RunPoint Registers Stack Held) × PassesFrames Step old addresses last × Stops Step (last_answer end) last new

-- a run passes the frames that it wrote, so many of these, and stops after them
abbrev pub Runs : {Registers Stack Held : Type 0} → (Result (Option ℕ) Error → RunPoint Registers Stack Held → RunPoint Registers Stack Held → Type 0)
    → RunPoint Registers Stack Held → Run → (frames : List ℕ) → RunPoint Registers Stack Held → Type 0
Runs Step old run frames new = RunsOver Step old (take run.count frames) run.end new

-- A run writes within the room, and nothing behind its frames. It is full only if all the room is taken.
pub record WritesRun (run : Run) (old new : List ℕ) : Type 0 where
  pub room : run.count ≤ length old
  pub kept : drop run.count new ≡ drop run.count old
  pub full : run.end ≡ Full → run.count ≡ length old

-- a run is made, or the unwinder or the cache isn't there, and all is as it was
abbrev pub RunsIfHeld : {Registers Stack Held E : Type 0} → (Result (Option ℕ) Error → RunPoint Registers Stack Held → RunPoint Registers Stack Held → Type 0)
    → RunPoint Registers Stack Held → Result Run E → (frames : List ℕ) → RunPoint Registers Stack Held → Type 0
RunsIfHeld Step old (Ok run) frames new = Runs Step old run frames new
RunsIfHeld Step old (Err error) frames new = new ≡ old

-- a run writes within the room, and nothing behind its frames; if none is made, nothing is written
abbrev pub WritesIfHeld : {E : Type 0} → Result Run E → (old new : List ℕ) → Type 0
WritesIfHeld (Ok run) old new = WritesRun run old new
WritesIfHeld (Err error) old new = new ≡ old

-- the step after which a run stops is out of memory
abbrev pub wants_at_end : Option (Result (Option ℕ) Error) → Bool
wants_at_end None = false
wants_at_end (Some answer) = wants_memory answer

-- a run is out of memory
abbrev pub run_wants : Run → Bool
run_wants run = wants_at_end (last_answer run.end)

-- a run is out of memory only if the module that is found for its last frame may allocate
abbrev pub RunWants : {Data : Type 0} → Bool → (Data → ℕ → Bool → Type 0) → List (Loaded Data) → FrameAddress → Run → Type 0
RunWants takes_memory asks modules at run = WantsFrom takes_memory asks modules (frame_of at) (run_wants run)

-- A step of an unwinder with a cache.
pub record StepsWith {Data Rule Registers Stack : Type 0} (step : Stack → ℕ → Result ℕ (Unit {0}) → Stack → Type 0) (reads : RuleReads Rule Registers)
    (m : Meanings Data Rule Registers) (loads : Loads (Loaded Data)) (answer : Result (Option ℕ) Error) (old new : RunPoint Registers Stack (Kept Rule)) : Type 0 where
  pub over : OverWords step old.stack new.stack
      (λ words. FitsLoads m loads old.held → StepsAs answer old.registers new.registers (judge m loads.modules old.frame old.registers words))
  pub order : ReadsIfKnown step old.stack new.stack (reads_on_hit reads loads.generation old.held old.frame old.registers)
  pub cache : StepsCache (rule_kept m loads.modules) (key_for old.frame loads.generation) (wants_memory answer) old.held new.held
  pub stays : StaysUnlessStepped answer old.registers new.registers

-- A step of an unwinder of a session, through a cache: that of the judge by its modules, over the words of the stack.
pub record StepsIn {Data Rule Registers Stack : Type 0} (step : Stack → ℕ → Result ℕ (Unit {0}) → Stack → Type 0) (reads : RuleReads Rule Registers)
    (m : Meanings Data Rule Registers) (unwinder : UnwinderId) (cache : CacheId) (answer : Result (Option ℕ) Error)
    (old new : RunPoint Registers Stack (SessionState Data Rule)) : Type 0 where
  pub over : OverWords step old.stack new.stack
      (λ words. StepsAs answer old.registers new.registers (judge m (modules_by old.held unwinder) old.frame old.registers words))
  pub order : ReadsIfKnown step old.stack new.stack (reads_by reads old.held unwinder cache old.frame old.registers)
  pub caches : StepsBy m answer old.frame unwinder cache old.held new.held
  pub stays : StaysUnlessStepped answer old.registers new.registers

-- A step gives the caller of a frame, at this address.
pub record GivesCaller (answer : Result (Option ℕ) Error) (caller : FrameAddress) : Type 0 where
  pub gives : answer ≡ Ok (Some (address_of caller))
  pub frame : frame_of caller ≡ later_frame (address_of caller)
  pub some : address_of caller ≢ 0
