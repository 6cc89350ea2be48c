-- Walks over a sample: moves of a walk, one after the other, up to where it stops.
use Rattle.std.specs.Prelude.{ℕ, ◌≡◌, ◌≢◌, ◌≤◌, List, [], ◌∷◌, length, take, drop, Bool, false, Option, Some, None, Result, Ok, Err}
use Rattle.framehop_registers.specs.Callback.{Words}
use Rattle.framehop_registers.specs.declared.code_address.FrameAddress.{FrameAddress}
use Rattle.framehop_registers.specs.declared.error.Error.{Error}
use Rattle.framehop_registers.specs.declared.error.Error.TheVariants.{CouldNotReadStack, FramepointerUnwindingMovedBackwards, DidNotAdvance, IntegerOverflow, ReturnAddressIsNull, OutOfMemory}
use Rattle.framehop_unwinder.specs.Attempt.{Meanings}
use Rattle.framehop_unwinder.specs.Frames.{Frame, frame_of, later_frame}
use Rattle.framehop_unwinder.specs.IdViews.{cache_number, unwinder_number}
use Rattle.framehop_unwinder.specs.Judge.{judge}
use Rattle.framehop_unwinder.specs.State.{SessionState, MovesThrough, modules_at}
use Rattle.framehop_unwinder.specs.Trials.{wants_memory}
use Rattle.framehop_unwinder.specs.Walk.{WalkPosition, Starts, At, Over, Walk, Move, move}
use Rattle.framehop_unwinder.specs.declared.ids.CacheId.{CacheId}
use Rattle.framehop_unwinder.specs.declared.ids.UnwinderId.{UnwinderId}
use Rattle.framehop_unwinder.specs.declared.runs.RunEnd.{RunEnd}
use Rattle.framehop_unwinder.specs.declared.runs.RunEnd.TheVariants as run
use Rattle.framehop_calls.specs.Samples.{words_of}
use Rattle.framehop_calls.specs.SampleSteps.{IsAskedFor}
use Rattle.framehop_calls.specs.declared.sample.Sample.{Sample}
use Rattle.framehop_calls.specs.declared.sample_walks.SampleMove.{SampleMove}
use Rattle.framehop_calls.specs.declared.sample_walks.SampleMove.TheVariants as moved
use Rattle.framehop_calls.specs.declared.sample_walks.SampleWalk.{SampleWalk}
use Rattle.framehop_calls.specs.declared.sample_walks.WalkEnd.{WalkEnd}
use Rattle.framehop_calls.specs.declared.sample_walks.WalkEnd.TheVariants as ending
use Rattle.framehop_calls.specs.declared.sample_walks.WalkPlace.{WalkPlace}
use Rattle.framehop_calls.specs.declared.sample_walks.WalkPlace.TheVariants as place
use Rattle.framehop_calls.specs.declared.sample_walks.Walked.{Walked}

-- the position of a walk
abbrev pub position_of : WalkPlace → WalkPosition
position_of (place.Starts pc) = Starts pc
position_of (place.At address) = At (frame_of address)
position_of place.Over = Over

-- a walk over a sample as a walk
abbrev pub walk_of : {Registers : Type 0} → SampleWalk Registers → Walk Registers
walk_of walk = record { position = position_of walk.place; registers = walk.regs }

-- A move gives a frame at an address, and leaves the walk there.
abbrev pub Gives : {Registers : Type 0} → ℕ → Move Registers → Walk Registers → Type 0
Gives address made new = (frame : Frame) × (frame.address ≡ address) × (made ≡ record { answer = Ok (Some frame); walk = new })

-- where a walk is after an error: where the move left it, but after a return address of 0 it is over
abbrev after_error : {Registers : Type 0} → Error → Walk Registers → Walk Registers
after_error (CouldNotReadStack address) walk = walk
after_error FramepointerUnwindingMovedBackwards walk = walk
after_error DidNotAdvance walk = walk
after_error IntegerOverflow walk = walk
after_error ReturnAddressIsNull walk = record walk { position = Over }
after_error OutOfMemory walk = walk

-- A move gives an error, and leaves a walk that is here then.
abbrev pub FailsBy : {Registers : Type 0} → Error → Move Registers → Walk Registers → Type 0
FailsBy {Registers} error made new = (left : Walk Registers) × (made ≡ record { answer = Err error; walk = left }) × (new ≡ after_error error left)

-- Why a walk stops, by the move that is next, and where it is then. It stays where no move is made: without room, where a word or memory
-- is needed.
abbrev pub StopsBy : {Registers : Type 0} → WalkEnd → Walk Registers → Move Registers → Walk Registers → Type 0
StopsBy ending.Full old made new = new ≡ old
StopsBy ending.EndOfStack old made new = made ≡ record { answer = Ok None; walk = new }
StopsBy (ending.NeedsWord address) old made new = new ≡ old
StopsBy (ending.Failed (CouldNotReadStack address)) old made new = FailsBy (CouldNotReadStack address) made new
StopsBy (ending.Failed FramepointerUnwindingMovedBackwards) old made new = FailsBy FramepointerUnwindingMovedBackwards made new
StopsBy (ending.Failed DidNotAdvance) old made new = FailsBy DidNotAdvance made new
StopsBy (ending.Failed IntegerOverflow) old made new = FailsBy IntegerOverflow made new
StopsBy (ending.Failed ReturnAddressIsNull) old made new = FailsBy ReturnAddressIsNull made new
StopsBy (ending.Failed OutOfMemory) old made new = new ≡ old

-- what one move gives
abbrev pub MovesBy : {Registers : Type 0} → SampleMove → Walk Registers → Move Registers → Walk Registers → Type 0
MovesBy (moved.Frame address) old made new = Gives address made new
MovesBy (moved.Stops end) old made new = StopsBy end old made new

-- What a walk goes through: the meanings of its steps, the words of the stack, and an unwinder and a cache by their numbers.
pub record Through (Data Rule Registers : Type 0) : Type 0 where
  pub meanings : Meanings Data Rule Registers
  pub words : Words
  pub unwinder : ℕ
  pub cache : ℕ

-- A walk, and the session that it is in.
pub record WalkIn (Data Rule Registers : Type 0) : Type 0 where
  pub walk : Walk Registers
  pub session : SessionState Data Rule

-- the move that is next, by the judge
abbrev pub next_move : {Data Rule Registers : Type 0} → Through Data Rule Registers → WalkIn Data Rule Registers → Move Registers
next_move t old = move (judge t.meanings (modules_at old.session t.unwinder)) t.words old.walk

-- the caches become what a move of the unwinder through the cache makes of them, if it is out of memory or not
abbrev pub MovesCaches : {Data Rule Registers : Type 0} → Through Data Rule Registers → (wanted : Bool)
    → WalkIn Data Rule Registers → WalkIn Data Rule Registers → Type 0
MovesCaches t wanted old new = MovesThrough t.meanings wanted old.walk.position t.unwinder t.cache old.session new.session

-- the caches become what a move makes of them; without room for a frame none is made
abbrev pub CountsAsMove : {Data Rule Registers : Type 0} → Through Data Rule Registers → SampleMove
    → WalkIn Data Rule Registers → WalkIn Data Rule Registers → Type 0
CountsAsMove t (moved.Frame address) old new = MovesCaches t false old new
CountsAsMove t (moved.Stops ending.Full) old new = new.session ≡ old.session
CountsAsMove t (moved.Stops ending.EndOfStack) old new = MovesCaches t false old new
CountsAsMove t (moved.Stops (ending.NeedsWord address)) old new = (wanted : Bool) × MovesCaches t wanted old new
CountsAsMove t (moved.Stops (ending.Failed error)) old new = MovesCaches t (wants_memory {A = Option ℕ} (Err error)) old new

-- A move gives what the judge's gives, and leaves in the caches what a move does.
abbrev pub MovesIn : {Data Rule Registers : Type 0} → Through Data Rule Registers → SampleMove
    → WalkIn Data Rule Registers → WalkIn Data Rule Registers → Type 0
MovesIn t made old new = MovesBy made old.walk (next_move t old) new.walk × CountsAsMove t made old new

-- Moves give frames at these addresses, one after the other.
abbrev pub Passes : {Data Rule Registers : Type 0} → Through Data Rule Registers → WalkIn Data Rule Registers → List ℕ
    → WalkIn Data Rule Registers → Type 0
Passes t old [] new = new ≡ old
Passes {Data} {Rule} {Registers} t old (address ∷ addresses) new =
    (mid : WalkIn Data Rule Registers) × MovesIn t (moved.Frame address) old mid × Passes t mid addresses new

-- A walk passes frames at these addresses, and stops after them.
abbrev pub WalksOver : {Data Rule Registers : Type 0} → Through Data Rule Registers → WalkIn Data Rule Registers → List ℕ → WalkEnd
    → WalkIn Data Rule Registers → Type 0
WalksOver {Data} {Rule} {Registers} t old addresses end new =
    (last : WalkIn Data Rule Registers) × Passes t old addresses last × MovesIn t (moved.Stops end) last new

-- a walk over the frames of an unwinder, through a cache, over a sample
abbrev pub through : {Data Rule Registers : Type 0} → Meanings Data Rule Registers → UnwinderId → CacheId → Sample → Through Data Rule Registers
through m unwinder cache sample = record {
  meanings = m;
  words = words_of sample;
  unwinder = unwinder_number unwinder;
  cache = cache_number cache;
}

-- a walk over a sample that is at a frame
abbrev pub walk_at : {Registers : Type 0} → FrameAddress → Registers → SampleWalk Registers
walk_at address registers = record { place = place.At address; regs = registers }

-- why a walk stops whose steps stop so
abbrev pub walk_end : RunEnd → WalkEnd
walk_end run.Full = ending.Full
walk_end run.EndOfStack = ending.EndOfStack
walk_end (run.Failed error) = ending.Failed error

-- where a walk is whose steps stop so at a frame: over at the end of the stack and after a return address of 0
abbrev pub place_after : RunEnd → FrameAddress → WalkPlace
place_after run.Full address = place.At address
place_after run.EndOfStack address = place.Over
place_after (run.Failed (CouldNotReadStack at)) address = place.At address
place_after (run.Failed FramepointerUnwindingMovedBackwards) address = place.At address
place_after (run.Failed DidNotAdvance) address = place.At address
place_after (run.Failed IntegerOverflow) address = place.At address
place_after (run.Failed ReturnAddressIsNull) address = place.Over
place_after (run.Failed OutOfMemory) address = place.At address

-- a walk over a sample, and the session that it is in
abbrev pub walk_in : {Data Rule Registers : Type 0} → SampleWalk Registers → SessionState Data Rule → WalkIn Data Rule Registers
walk_in walk session = record { walk = walk_of walk; session = session }

-- From a frame a walk goes to its caller at a return address, with the registers that it has; if that is 0, it fails and is over.
pub record GoesOn {Registers : Type 0} (return_address : ℕ) (made : SampleMove) (old new : Walk Registers) : Type 0 where
  pub registers : new.registers ≡ old.registers
  pub null : return_address ≡ 0 → (made ≡ moved.Stops (ending.Failed ReturnAddressIsNull)) × (new.position ≡ Over)
  pub later : return_address ≢ 0 → (made ≡ moved.Frame return_address) × (new.position ≡ At (later_frame return_address))

-- From a frame a walk goes where a step led, with the registers that it has.
abbrev pub GoesBy : {Registers : Type 0} → Result (Option ℕ) Error → SampleMove → Walk Registers → Walk Registers → Type 0
GoesBy (Ok (Some return_address)) made old new = GoesOn return_address made old new
GoesBy (Ok None) made old new = (made ≡ moved.Stops ending.EndOfStack) × (new ≡ record old { position = Over })
GoesBy (Err error) made old new = (made ≡ moved.Stops (ending.Failed error)) × (new ≡ old)

-- a walk needs only words of which nothing is known
abbrev pub NeedsUnknown : WalkEnd → Sample → Type 0
NeedsUnknown ending.Full sample = Unit {0}
NeedsUnknown ending.EndOfStack sample = Unit {0}
NeedsUnknown (ending.NeedsWord address) sample = IsAskedFor sample address
NeedsUnknown (ending.Failed error) sample = Unit {0}

-- a move isn't full, and needs only words of which nothing is known
abbrev pub MoveNeeds : SampleMove → Sample → Type 0
MoveNeeds (moved.Frame address) sample = Unit {0}
MoveNeeds (moved.Stops end) sample = (end ≢ ending.Full) × NeedsUnknown end sample

-- a walk isn't out of memory
abbrev pub WithoutMemory : WalkEnd → Type 0
WithoutMemory end = end ≢ ending.Failed OutOfMemory

-- a move isn't out of memory
abbrev pub MovesWithoutMemory : SampleMove → Type 0
MovesWithoutMemory made = made ≢ moved.Stops (ending.Failed OutOfMemory)

-- what one move of a walk over a sample gives
abbrev pub MovesInSample : {Data Rule Registers : Type 0} → Through Data Rule Registers → SampleMove
    → SampleWalk Registers → SessionState Data Rule → SampleWalk Registers → SessionState Data Rule → Type 0
MovesInSample t made old session new new_session = MovesIn t made (walk_in old session) (walk_in new new_session)

-- a walk over a sample passes the frames that it wrote, so many of these, and stops after them
abbrev pub WalksAs : {Data Rule Registers : Type 0} → Through Data Rule Registers → SampleWalk Registers → SessionState Data Rule
    → Walked → (frames : List ℕ) → SampleWalk Registers → SessionState Data Rule → Type 0
WalksAs t old session walked frames new new_session =
    WalksOver t (walk_in old session) (take walked.count frames) walked.end (walk_in new new_session)

-- the same of a walk that is at a frame with these registers
abbrev pub WalksFrom : {Data Rule Registers : Type 0} → Through Data Rule Registers → FrameAddress → SampleWalk Registers → SessionState Data Rule
    → Walked → (frames : List ℕ) → SampleWalk Registers → SessionState Data Rule → Type 0
WalksFrom t at old session walked frames new new_session = WalksAs t (walk_at at old.regs) session walked frames new new_session

-- A walk writes within the room, and nothing behind its frames. It is full only if all the room is taken.
pub record WritesFrames (walked : Walked) (old new : List ℕ) : Type 0 where
  pub room : walked.count ≤ length old
  pub kept : drop walked.count new ≡ drop walked.count old
  pub full : walked.end ≡ ending.Full → walked.count ≡ length old
