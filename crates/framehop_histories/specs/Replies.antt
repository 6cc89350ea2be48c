-- Lists of commands: their replies, one after the other, and the state after all.
use Rattle.std.specs.Prelude.{ℕ, ◌≡◌, List, [], ◌∷◌, Bool, true, false, Option, Some, None}
use Rattle.framehop_unwinder.specs.Attempt.{Meanings}
use Rattle.framehop_unwinder.specs.Memory.{AsksMemory}
use Rattle.framehop_unwinder.specs.Moves.{MoveAsks}
use Rattle.framehop_unwinder.specs.Progress.{modules_in}
use Rattle.framehop_histories.specs.Commands.{Act, NewUnwinder, NewCache, Load, Unload, Clone, RemoveUnwinder, RemoveCache, Step, NewWalk, NextFrame, CommandState, Reply, Added, Removed, Unknown, Exhausted, Stepped, Moved, reply_to}
use Rattle.framehop_histories.specs.StateAfter.{state_after, walk_place}

-- A command may ask for memory if it adds something; a step, or a move of a walk from a frame, only if modules may take memory and the
-- one that is found for the frame asks for it.
abbrev pub MayAsk : {Data Registers : Type 0} → Bool → (Data → ℕ → Bool → Type 0) → Act Data Registers → CommandState Data Registers → Type 0
MayAsk takes_memory asks NewUnwinder state = Unit {0}
MayAsk takes_memory asks (NewCache slots) state = Unit {0}
MayAsk takes_memory asks (Load unwinder module_) state = Unit {0}
MayAsk takes_memory asks (Unload unwinder start) state = ⊥
MayAsk takes_memory asks (Clone unwinder) state = Unit {0}
MayAsk takes_memory asks (RemoveUnwinder unwinder) state = ⊥
MayAsk takes_memory asks (RemoveCache cache) state = ⊥
MayAsk takes_memory asks (Step unwinder cache frame registers words) state =
    (takes_memory ≡ true) × AsksMemory asks (modules_in unwinder state.model) frame
MayAsk takes_memory asks (NewWalk pc registers) state = Unit {0}
MayAsk takes_memory asks (NextFrame unwinder cache walk words) state =
    (takes_memory ≡ true) × MoveAsks (AsksMemory asks (modules_in unwinder state.model)) (walk_place state.walks walk)

-- a command with this reply is carried out
abbrev pub is_done : {Registers : Type 0} → Reply Registers → Bool
is_done Added = true
is_done Removed = true
is_done Unknown = false
is_done Exhausted = false
is_done (Stepped answer registers) = true
is_done (Moved answer registers) = true

-- a command is answered by its reply; or that it is out of memory, if it is carried out with memory and may ask for it
abbrev pub IsReply : {Data Rule Registers : Type 0} → Bool → (Data → ℕ → Bool → Type 0) → Meanings Data Rule Registers → Act Data Registers
    → CommandState Data Registers → Option (Reply Registers) → Type 0
IsReply takes_memory asks m act state None = (is_done (reply_to m act state) ≡ true) × MayAsk takes_memory asks act state
IsReply takes_memory asks m act state (Some reply) = reply ≡ reply_to m act state

-- The replies to commands, in their order. None is that a command was out of memory.
abbrev pub AreReplies : {Data Rule Registers : Type 0} → Bool → (Data → ℕ → Bool → Type 0) → Meanings Data Rule Registers
    → CommandState Data Registers → List (Act Data Registers) → List (Option (Reply Registers)) → Type 0
AreReplies takes_memory asks m state [] [] = Unit {0}
AreReplies takes_memory asks m state [] (reply ∷ replies) = ⊥
AreReplies takes_memory asks m state (act ∷ acts) [] = ⊥
AreReplies takes_memory asks m state (act ∷ acts) (reply ∷ replies) =
    IsReply takes_memory asks m act state reply × AreReplies takes_memory asks m (state_after m act state reply) acts replies

-- the state after commands with these replies
abbrev pub state_after_all : {Data Rule Registers : Type 0} → Meanings Data Rule Registers → CommandState Data Registers
    → List (Act Data Registers) → List (Option (Reply Registers)) → CommandState Data Registers
state_after_all m state [] replies = state
state_after_all m state (act ∷ acts) [] = state
state_after_all m state (act ∷ acts) (reply ∷ replies) = state_after_all m (state_after m act state reply) acts replies
