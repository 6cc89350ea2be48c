-- Walks through a session that end at a return address of 0.
use Rattle.std.specs.Prelude.{ℕ, ◌≡◌, false, Bool, Option, Result, Ok, Err}
use Rattle.framehop_registers.specs.Callback.{Words}
use Rattle.framehop_registers.specs.declared.code_address.FrameAddress.{FrameAddress}
use Rattle.framehop_registers.specs.declared.error.Error.{Error}
use Rattle.framehop_registers.specs.declared.error.Error.TheVariants.{CouldNotReadStack, FramepointerUnwindingMovedBackwards, DidNotAdvance, IntegerOverflow, ReturnAddressIsNull, OutOfMemory}
use Rattle.framehop_unwinder.specs.Attempt.{Meanings}
use Rattle.framehop_unwinder.specs.HitReads.{RuleReads, StepsReading, reads_by, reads_from}
use Rattle.framehop_unwinder.specs.IdViews.{MovesBy, modules_by}
use Rattle.framehop_unwinder.specs.Judge.{judge}
use Rattle.framehop_unwinder.specs.Moves.{MoveWants, MovesOn}
use Rattle.framehop_unwinder.specs.State.{SessionState}
use Rattle.framehop_unwinder.specs.Trials.{wants_memory}
use Rattle.framehop_unwinder.specs.Walk.{Judgment, Move, Over, Walk, move}
use Rattle.framehop_unwinder.specs.WalkViews.{frame_answer, walk_of}
use Rattle.framehop_unwinder.specs.declared.session_iterator.SessionWalk.{SessionWalk}

-- where a walk is that a move left here and that returned this: over, if the return address was 0
abbrev pub ended : {A Registers : Type 0} → Result A Error → Walk Registers → Walk Registers
ended (Ok answer) walk = walk
ended (Err (CouldNotReadStack address)) walk = walk
ended (Err FramepointerUnwindingMovedBackwards) walk = walk
ended (Err DidNotAdvance) walk = walk
ended (Err IntegerOverflow) walk = walk
ended (Err ReturnAddressIsNull) walk = record walk { position = Over }
ended (Err OutOfMemory) walk = walk

-- a move that ends its walk if the return address is 0
abbrev pub ending : {Registers : Type 0} → Move Registers → Move Registers
ending made = record made { walk = ended made.answer made.walk }

-- unless it is out of memory, a move from one walk to another is the one that these judgments give, and ends its walk at 0
abbrev pub EndsAs : {Registers : Type 0} → Judgment Registers → Words → Walk Registers → Result (Option FrameAddress) Error → Walk Registers → Type 0
EndsAs judgment words old result new =
    wants_memory result ≡ false → record { answer = frame_answer result; walk = new } ≡ ending (move judgment words old)

-- a call that took the callback from one state to another moves a walk by the judge of the session's modules, and ends it at 0; and reads
-- the words of the rule alone that the cache has for its frame, if it has one
abbrev pub EndsOver : {Stack Data Rule Registers : Type 0} → (Stack → ℕ → Result ℕ (Unit {0}) → Stack → Type 0) → Stack → Stack
    → RuleReads Rule Registers → Meanings Data Rule Registers → SessionState Data Rule → SessionWalk Registers → Result (Option FrameAddress) Error
    → SessionWalk Registers → Type 0
EndsOver step first last reads m session old result new =
    StepsReading step first last (λ words. EndsAs (judge m (modules_by session old.unwinder)) words (walk_of old.walk) result (walk_of new.walk))
    (reads_from (reads_by reads session old.unwinder old.cache) (walk_of old.walk).position (walk_of old.walk).registers)

-- A move, for every callback, of a walk that ends at 0: it moves on, with its unwinder and cache, and is over then if the return
-- address was 0.
pub record EndsOn {Registers : Type 0} (old : SessionWalk Registers) (result : Result (Option FrameAddress) Error) (new : SessionWalk Registers) : Type 0 where
  pub unwinder : new.unwinder ≡ old.unwinder
  pub cache : new.cache ≡ old.cache
  pub moved : Walk Registers
  pub moves : MovesOn (walk_of old.walk) result moved
  pub ends : walk_of new.walk ≡ ended result moved

-- What a move does to the session, and from where it may be out of memory.
pub record MovesSession {Data Rule Registers : Type 0} (m : Meanings Data Rule Registers) (takes_memory : Bool) (asks : Data → ℕ → Bool → Type 0)
    (old : SessionState Data Rule) (on : SessionWalk Registers) (result : Result (Option FrameAddress) Error) (new : SessionState Data Rule) : Type 0 where
  pub caches : MovesBy m result (walk_of on.walk).position on.unwinder on.cache old new
  pub memory : MoveWants takes_memory asks (modules_by old on.unwinder) (walk_of on.walk).position (wants_memory result)
