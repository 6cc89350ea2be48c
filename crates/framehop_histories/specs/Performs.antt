-- What commands do to a session.
use Rattle.std.specs.Prelude.{ℕ, ◌≡◌, List, [], map, slice_set, Bool, Option, Result, Err}
use Rattle.std.specs.List.{All, slice_index_or}
use Rattle.framehop_registers.specs.Callback.{Words, AnswersBy}
use Rattle.framehop_registers.specs.declared.code_address.FrameAddress.{FrameAddress}
use Rattle.framehop_registers.specs.declared.error.Error.{Error}
use Rattle.framehop_registers.specs.declared.error.Error.TheVariants as error
use Rattle.framehop_unwinder.specs.Attempt.{Meanings}
use Rattle.framehop_unwinder.specs.ByNumber.{marks}
use Rattle.framehop_unwinder.specs.History.{HaveHistories}
use Rattle.framehop_unwinder.specs.Moves.{MovesOn}
use Rattle.framehop_unwinder.specs.State.{SessionState}
use Rattle.framehop_unwinder.specs.Trials.{StaysUnlessStepped}
use Rattle.framehop_unwinder.specs.Walk.{Walk}
use Rattle.framehop_unwinder.specs.WalkViews.{walk_of}
use Rattle.framehop_unwinder.specs.declared.iterator.StackWalk.{StackWalk}
use Rattle.framehop_histories.specs.Commands.{Act, CommandState, Reply}
use Rattle.framehop_histories.specs.StateAfter.{state_after}
use Rattle.framehop_histories.specs.Replies.{IsReply, AreReplies, state_after_all}
use Rattle.framehop_histories.specs.CommandViews.{OfCallback, act_of, reply_of, walks_of}
use Rattle.framehop_histories.specs.declared.commands.Answer.{Answer}
use Rattle.framehop_histories.specs.declared.commands.Answer.TheVariants.{Added, Removed, Unknown, GenerationsExhausted, OutOfMemory, Stepped, Moved}
use Rattle.framehop_histories.specs.declared.commands.Command.{Command}

-- A session and walks in this state, whatever its caches keep: its unwinders, its counter, and a cache for each history.
pub record IsIn {Data Rule Registers : Type 0} (state : CommandState Data Registers) (session : SessionState Data Rule)
    (all_walks : List (Walk Registers)) : Type 0 where
  pub unwinders : session.unwinders ≡ state.model.unwinders
  pub next : session.next ≡ state.model.next
  pub caches : marks session.caches ≡ marks state.model.histories
  pub walks : all_walks ≡ state.walks

-- A command that was answered so, from a state that the session was in: its reply, and the session in the state after it. If the
-- histories of the state have made the caches, so have those of the state after it.
pub record IsObeyed {Data Rule Registers : Type 0} (takes_memory : Bool) (asks : Data → ℕ → Bool → Type 0) (m : Meanings Data Rule Registers)
    (act : Act Data Registers) (before : CommandState Data Registers) (old : SessionState Data Rule) (answer : Option (Reply Registers))
    (new : SessionState Data Rule) (walks : List (Walk Registers)) : Type 0 where
  pub reply : IsReply takes_memory asks m act before answer
  pub state : IsIn (state_after m act before answer) new walks
  pub histories : HaveHistories before.model.histories old.caches → HaveHistories (state_after m act before answer).model.histories new.caches

-- a command that was answered so, from every state that the session and the walks were in
abbrev pub Obeys : {Data Rule Registers : Type 0} → Bool → (Data → ℕ → Bool → Type 0) → Meanings Data Rule Registers → Act Data Registers
    → SessionState Data Rule → List (StackWalk Registers) → Answer Registers → SessionState Data Rule → List (StackWalk Registers) → Type 0
Obeys {Data} {Rule} {Registers} takes_memory asks m act old walks answer new walks_after =
    (state : CommandState Data Registers) → IsIn state old (walks_of walks)
    → IsObeyed takes_memory asks m act state old (reply_of answer) new (walks_of walks_after)

-- a command that leaves all walks as they are
abbrev pub ObeysInSession : {Data Rule Registers : Type 0} → Bool → (Data → ℕ → Bool → Type 0) → Meanings Data Rule Registers → Act Data Registers
    → SessionState Data Rule → Answer Registers → SessionState Data Rule → Type 0
ObeysInSession {Data} {Rule} {Registers} takes_memory asks m act old answer new =
    (walks : List (StackWalk Registers)) → Obeys takes_memory asks m act old walks answer new walks

-- what is as it was if a command is out of memory, names what isn't there or finds no number left
abbrev pub StaysUnlessDone : {X Registers : Type 0} → Answer Registers → X → X → Type 0
StaysUnlessDone Added old new = Unit {0}
StaysUnlessDone Removed old new = Unit {0}
StaysUnlessDone Unknown old new = new ≡ old
StaysUnlessDone GenerationsExhausted old new = new ≡ old
StaysUnlessDone OutOfMemory old new = new ≡ old
StaysUnlessDone (Stepped answer regs) old new = Unit {0}
StaysUnlessDone (Moved answer regs) old new = Unit {0}

-- The unwinders and the counter stay, and the caches are there still.
pub record LoadsStay {Data Rule : Type 0} (old new : SessionState Data Rule) : Type 0 where
  pub unwinders : new.unwinders ≡ old.unwinders
  pub next : new.next ≡ old.next
  pub caches : marks new.caches ≡ marks old.caches

-- A step from a frame with these registers was answered so, for every callback: if there is no caller, they are left as they were.
abbrev pub StepsOn : {Registers : Type 0} → Registers → Answer Registers → Type 0
StepsOn old Added = ⊥
StepsOn old Removed = ⊥
StepsOn old Unknown = Unit {0}
StepsOn old GenerationsExhausted = ⊥
StepsOn old OutOfMemory = Unit {0}
StepsOn old (Stepped answer regs) = StaysUnlessStepped answer old regs
StepsOn old (Moved answer regs) = ⊥

-- One of some walks has moved on with this answer, and no other has changed.
pub record OneMovesOn {Registers : Type 0} (number : ℕ) (old : List (StackWalk Registers)) (answer : Result (Option FrameAddress) Error)
    (moved : StackWalk Registers) (new : List (StackWalk Registers)) : Type 0 where
  pub moves : (d : StackWalk Registers) → MovesOn (walk_of (slice_index_or old number d)) answer (walk_of moved)
  pub others : new ≡ slice_set old number moved

-- A move of one of some walks was answered so, for every callback; nothing has changed if there is no such walk, unwinder or cache.
abbrev pub WalksMoveOn : {Registers : Type 0} → ℕ → List (StackWalk Registers) → Answer Registers → List (StackWalk Registers) → Type 0
WalksMoveOn number old Added new = ⊥
WalksMoveOn number old Removed new = ⊥
WalksMoveOn number old Unknown new = new ≡ old
WalksMoveOn number old GenerationsExhausted new = ⊥
WalksMoveOn {Registers} number old OutOfMemory new = (moved : StackWalk Registers) × OneMovesOn number old (Err error.OutOfMemory) moved new
WalksMoveOn number old (Stepped answer regs) new = ⊥
WalksMoveOn {Registers} number old (Moved answer regs) new =
    (moved : StackWalk Registers) × ((walk_of moved).registers ≡ regs) × OneMovesOn number old answer moved new

-- the callback of a command, if it has one, answers by these words
abbrev pub IsAnsweredBy : {Data Context Registers Callback : Type 0} → (Callback → ℕ → Result ℕ (Unit {0}) → Callback → Type 0) → (Callback → Words)
    → Command Data Context Registers Callback → Type 0
IsAnsweredBy step words command = OfCallback (λ callback. AnswersBy step callback (words callback)) command

-- a command that was answered so, by whatever words its callback answers
abbrev pub ObeysByWords : {Data Rule Context Registers Callback : Type 0} → (Callback → ℕ → Result ℕ (Unit {0}) → Callback → Type 0) → Bool
    → (Data → ℕ → Bool → Type 0) → Meanings Data Rule Registers → Command Data Context Registers Callback → SessionState Data Rule
    → List (StackWalk Registers) → Answer Registers → SessionState Data Rule → List (StackWalk Registers) → Type 0
ObeysByWords {Callback} step takes_memory asks m command old walks answer new walks_after =
    (words : Callback → Words) → IsAnsweredBy step words command
    → Obeys takes_memory asks m (act_of words command) old walks answer new walks_after

-- Commands that take a session from an old state to a new one, from a state of theirs that it was in: each answer is the reply, and
-- where the commands lead there is the session, with the generations of its unwinders and the histories of its caches.
pub record PerformsFrom {Data Rule Registers : Type 0} (takes_memory : Bool) (asks : Data → ℕ → Bool → Type 0) (m : Meanings Data Rule Registers)
    (first : CommandState Data Registers) (old : SessionState Data Rule) (acts : List (Act Data Registers)) (new : SessionState Data Rule)
    (answers : List (Option (Reply Registers))) : Type 0 where
  pub replies : AreReplies takes_memory asks m first acts answers
  pub state : let last = state_after_all m first acts answers in IsIn last new last.walks
  pub histories : HaveHistories first.model.histories old.caches → HaveHistories (state_after_all m first acts answers).model.histories new.caches

-- the same from every state without walks that the session was in, by whatever words the callbacks of the commands answer
abbrev pub Performs : {Data Rule Context Registers Callback : Type 0} → (Callback → ℕ → Result ℕ (Unit {0}) → Callback → Type 0) → Bool
    → (Data → ℕ → Bool → Type 0) → Meanings Data Rule Registers → SessionState Data Rule → List (Command Data Context Registers Callback)
    → SessionState Data Rule → List (Answer Registers) → Type 0
Performs {Data} {Registers} {Callback} step takes_memory asks m old commands new answers =
    (words : Callback → Words) → All (IsAnsweredBy step words) commands
    → (state : CommandState Data Registers) → IsIn state old []
    → PerformsFrom takes_memory asks m state old (map (act_of words) commands) new (map reply_of answers)
