-- What a move of a walk does whatever the callback answers: where the walk is then, what is in the cache, and from where it may
-- run out of memory.
use Rattle.std.specs.Prelude.{ℕ, ◌≡◌, List, Bool, true, Option, Some, None, Result, Ok, OnErr, IfOk, IfErr}
use Rattle.framehop_registers.specs.declared.code_address.FrameAddress.{FrameAddress}
use Rattle.framehop_registers.specs.declared.error.Error.{Error}
use Rattle.framehop_unwinder.specs.Frames.{Frame, first_frame, frame_of}
use Rattle.framehop_unwinder.specs.Memory.{AsksMemory, WantsFrom, WantsMemoryOnlyIf}
use Rattle.framehop_unwinder.specs.Modules.{Loaded}
use Rattle.framehop_unwinder.specs.Trials.{IsOfStep, wants_memory}
use Rattle.framehop_unwinder.specs.Walk.{WalkPosition, Starts, At, Over, Walk}
use Rattle.framehop_unwinder.specs.WalkViews.{frame_answer, walk_of}
use Rattle.framehop_unwinder.specs.declared.iterator.StackWalk.{StackWalk}

-- the walk is at a frame: only from there a step is made
abbrev pub IsAtFrame : WalkPosition → Type 0
IsAtFrame (Starts pc) = ⊥
IsAtFrame (At frame) = Unit {0}
IsAtFrame Over = ⊥

-- from a frame, a move leaves in the cache what a step from there does, else what was in it
abbrev pub CachesFrom : {Cache : Type 0} → (Frame → Cache → Cache → Type 0) → WalkPosition → Cache → Cache → Type 0
CachesFrom steps (Starts pc) old new = new ≡ old
CachesFrom steps (At frame) old new = steps frame old new
CachesFrom steps Over old new = new ≡ old

-- the same of a walk
abbrev pub MoveDoes : {Cache Registers : Type 0} → (Frame → Cache → Cache → Type 0) → StackWalk Registers → Cache → Cache → Type 0
MoveDoes steps walk old new = CachesFrom steps (walk_of walk).position old new

-- from a frame, a move may allocate if a step from there may, else it doesn't
abbrev pub MoveAsks : (Frame → Type 0) → WalkPosition → Type 0
MoveAsks asks (Starts pc) = ⊥
MoveAsks asks (At frame) = asks frame
MoveAsks asks Over = ⊥

-- a move from a position runs out of memory only if a step from there may allocate
abbrev pub MoveWants : {Data : Type 0} → Bool → (Data → ℕ → Bool → Type 0) → List (Loaded Data) → WalkPosition → (wanted : Bool) → Type 0
MoveWants takes_memory asks modules position wanted =
    WantsMemoryOnlyIf takes_memory wanted (MoveAsks (AsksMemory asks modules) position)

-- a step from a frame runs out of memory only if the module that is found for it may allocate
abbrev pub StepWants : {A Data : Type 0} → Bool → (Data → ℕ → Bool → Type 0) → List (Loaded Data) → FrameAddress → Result A Error → Type 0
StepWants takes_memory asks modules address answer = WantsFrom takes_memory asks modules (frame_of address) (wants_memory answer)

-- where a walk is that returned this: at the frame, or over
abbrev pub position_after : Option FrameAddress → WalkPosition
position_after (Some address) = At (frame_of address)
position_after None = Over

-- A move, for every callback. A walk that starts goes to the frame of its instruction pointer. Only a walk at a frame fails: it stays
-- there, with the registers that it had unless the return address is 0, and as it was if it is out of memory. The walk goes to the
-- frame that is returned, and is over after None; it stays over.
pub record MovesOn {Registers : Type 0} (old : Walk Registers) (result : Result (Option FrameAddress) Error) (new : Walk Registers) : Type 0 where
  pub begins : (pc : ℕ) → old.position ≡ Starts pc → (frame_answer result ≡ Ok (Some (first_frame pc))) × (new.registers ≡ old.registers)
  pub refusals : OnErr result (IsAtFrame old.position)
  pub error_stays : OnErr result (new.position ≡ old.position)
  pub error_keeps : IfErr result (λ error. IsOfStep error → new.registers ≡ old.registers)
  pub wanting : wants_memory result ≡ true → new ≡ old
  pub goes : IfOk result (λ answer. new.position ≡ position_after answer)
  pub end_stays : old.position ≡ Over → (result ≡ Ok None) × (new ≡ old)
