-- What each command of a document writes, and the model of the session after it: the text for its reply, and the state after it. A
-- model has no slot and no rule of a cache, only the keys that were kept in it, which decide what is counted.
use Rattle.std.specs.Prelude.{◌≡◌, ℕ, zero, suc, List, [], ◌++◌, Bool, true, false, if◌then◌else◌, codes, Option, Some, None, Result, Ok, Err, IfOk, string_bytes}
use Rattle.json_program.specs.Lines.{line}
use Rattle.framehop_registers.specs.Callback.{Words}
use Rattle.framehop_registers.specs.declared.error.Error.{Error}
use Rattle.framehop_unwinder.specs.Attempt.{Meanings}
use Rattle.framehop_unwinder.specs.ByNumber.{held}
use Rattle.framehop_unwinder.specs.Frames.{Frame}
use Rattle.framehop_unwinder.specs.History.{KeyHistory, occupancy_after}
use Rattle.framehop_unwinder.specs.Progress.{IsAt, SessionModel}
use Rattle.framehop_unwinder.specs.State.{SessionState}
use Rattle.framehop_histories.specs.Commands.{Act, NewWalk, NextFrame, CommandState, Reply, Added, Removed, Unknown, Exhausted, Stepped, Moved, reply_to}
use Rattle.framehop_histories.specs.StateAfter.{state_after}
use Rattle.unwind_run_program.specs.declared.commands.Written.{Written}
use Rattle.unwind_run_program.specs.Replies.{counts_text, error_name, frame_text, occupancy_text}

-- the model of a new session, whose counter gives this number first
abbrev pub beginning : {Data : Type 0} → ℕ → SessionModel Data
beginning generation = record { unwinders = []; next = generation; histories = [] }

-- the state of commands without a walk
abbrev pub without_walks : {Data Registers : Type 0} → SessionModel Data → CommandState Data Registers
without_walks model = record { model = model; walks = [] }

-- The output of a command: its text, whether the command is refused, which ends the run, and the model of the session after it.
pub record CommandOutput (Data : Type 0) : Type 0 where
  pub text : List ℕ
  pub is_refused : Bool
  pub model : SessionModel Data

-- the output of a command that is carried out
abbrev pub writes : {Data : Type 0} → List ℕ → SessionModel Data → CommandOutput Data
writes text model = record { text = text; is_refused = false; model = model }

-- the line of a command that names what was let go
abbrev pub unknown_line : List ℕ
unknown_line = line (codes "unknown")

-- the line of a move: its frame, the end of the stack, or why it stops
abbrev pub move_line : Result (Option Frame) Error → List ℕ
move_line (Ok (Some frame)) = line (frame_text frame)
move_line (Ok None) = line (codes "end")
move_line (Err error) = line (codes "stop " ++ error_name error)

-- the text for a reply, where a step has this line
abbrev pub text_for : {Registers : Type 0} → (Result (Option ℕ) Error → Registers → List ℕ) → Reply Registers → List ℕ
text_for step_line Added = []
text_for step_line Removed = []
text_for step_line Unknown = unknown_line
text_for step_line Exhausted = line (codes "refused GenerationsExhausted")
text_for step_line (Stepped answer registers) = step_line answer registers
text_for step_line (Moved answer registers) = move_line answer

-- a command is refused if it needs a generation when none is left
abbrev pub is_refusal : {Registers : Type 0} → Reply Registers → Bool
is_refusal Added = false
is_refusal Removed = false
is_refusal Unknown = false
is_refusal Exhausted = true
is_refusal (Stepped answer registers) = false
is_refusal (Moved answer registers) = false

-- the state after a command, with memory
abbrev pub next_state : {Data Rule Registers : Type 0} → Meanings Data Rule Registers → Act Data Registers → CommandState Data Registers
    → CommandState Data Registers
next_state m act state = state_after m act state (Some (reply_to m act state))

-- the output of a command that does this alone
abbrev pub output_of_act : {Data Rule Registers : Type 0} → Meanings Data Rule Registers → (Result (Option ℕ) Error → Registers → List ℕ)
    → Act Data Registers → SessionModel Data → CommandOutput Data
output_of_act m step_line act model = record {
  text = text_for step_line (reply_to m act (without_walks model));
  is_refused = is_refusal (reply_to m act (without_walks model));
  model = (next_state m act (without_walks model)).model;
}

-- a line about a cache, by its history, or that it was let go
abbrev pub cache_line : (KeyHistory → List ℕ) → Option KeyHistory → List ℕ
cache_line text None = unknown_line
cache_line text (Some history) = line (text history)

-- a line about a cache
abbrev pub output_about : {Data : Type 0} → (KeyHistory → List ℕ) → ℕ → SessionModel Data → CommandOutput Data
output_about text cache model = writes (cache_line text (held model.histories cache)) model

-- the counts of a cache
abbrev pub output_of_stats : {Data : Type 0} → ℕ → SessionModel Data → CommandOutput Data
output_of_stats cache model = output_about (λ history. counts_text history.counts) cache model

-- how many slots a cache has, and how many rules it keeps
abbrev pub output_of_occupancy : {Data : Type 0} → ℕ → SessionModel Data → CommandOutput Data
output_of_occupancy cache model = output_about (λ history. occupancy_text (occupancy_after history)) cache model

-- whether a reply is a frame of a walk
abbrev pub gives_frame : {Registers : Type 0} → Reply Registers → Bool
gives_frame Added = false
gives_frame Removed = false
gives_frame Unknown = false
gives_frame Exhausted = false
gives_frame (Stepped answer registers) = false
gives_frame (Moved (Ok (Some frame)) registers) = true
gives_frame (Moved (Ok None) registers) = false
gives_frame (Moved (Err error) registers) = false

-- the line for a move of a walk, or that what it names was let go
abbrev pub line_for : {Registers : Type 0} → Reply Registers → List ℕ
line_for Added = []
line_for Removed = []
line_for Unknown = unknown_line
line_for Exhausted = []
line_for (Stepped answer registers) = []
line_for (Moved answer registers) = move_line answer

-- the lines of moves of a walk, up to a limit, one after the other while they give frames
abbrev pub move_lines : {Data Rule Registers : Type 0} → Meanings Data Rule Registers → Act Data Registers → ℕ → CommandState Data Registers → List ℕ
move_lines m act zero state = line (codes "limit")
move_lines m act (suc left) state =
    line_for (reply_to m act state)
    ++ (if gives_frame (reply_to m act state) then move_lines m act left (next_state m act state) else [])

-- the state after these moves
abbrev pub moves_after : {Data Rule Registers : Type 0} → Meanings Data Rule Registers → Act Data Registers → ℕ → CommandState Data Registers
    → CommandState Data Registers
moves_after m act zero state = state
moves_after m act (suc left) state =
    if gives_frame (reply_to m act state) then moves_after m act left (next_state m act state) else next_state m act state

-- the output of a walk over the frames of an unwinder through a cache, from an instruction pointer with registers: a new walk, and up
-- to so many of its moves
abbrev pub output_of_walk : {Data Rule Registers : Type 0} → Meanings Data Rule Registers → Words → ℕ → ℕ → ℕ → ℕ → Registers
    → SessionModel Data → CommandOutput Data
output_of_walk m words limit unwinder cache pc registers model =
    let begun = next_state m (NewWalk pc registers) (without_walks model) in
    writes (move_lines m (NextFrame unwinder cache 0 words) limit begun)
    (moves_after m (NextFrame unwinder cache 0 words) limit begun).model

-- A command wrote the text of this output, was refused if the output is, and left the session at its model.
pub record IsOutput {Data Rule : Type 0} (output : CommandOutput Data) (written : List ℕ) (refused : Bool) (state : SessionState Data Rule)
    : Type 0 where
  pub text : written ≡ output.text
  pub is_refused : refused ≡ output.is_refused
  pub model : IsAt output.model state

-- For every model that the session was at, a call that carries out a command gives the output for that model, unless it fails.
abbrev pub Outputs : {Data Rule E : Type 0} → (SessionModel Data → CommandOutput Data) → SessionState Data Rule → SessionState Data Rule
    → Result Written E → Type 0
Outputs {Data} output before after result =
    (model : SessionModel Data) → IsAt model before
    → IfOk result (λ written. IsOutput (output model) (string_bytes written.text) written.is_refused after)

-- a call that does this alone, whatever the line of a step is
abbrev pub OutputsAct : {Data Rule Registers E : Type 0} → Meanings Data Rule Registers → Act Data Registers → SessionState Data Rule
    → SessionState Data Rule → Result Written E → Type 0
OutputsAct {Registers} m act before after result =
    (step_line : Result (Option ℕ) Error → Registers → List ℕ) → Outputs (output_of_act m step_line act) before after result

-- the text for a reply to a command that is no step and no move of a walk, and whether it is refused
abbrev pub IsWrittenFor : {Registers : Type 0} → Option (Reply Registers) → List ℕ → Bool → Type 0
IsWrittenFor None text refused = ⊥
IsWrittenFor (Some Added) text refused = (text ≡ []) × (refused ≡ false)
IsWrittenFor (Some Removed) text refused = (text ≡ []) × (refused ≡ false)
IsWrittenFor (Some Unknown) text refused = (text ≡ unknown_line) × (refused ≡ false)
IsWrittenFor (Some Exhausted) text refused = (text ≡ line (codes "refused GenerationsExhausted")) × (refused ≡ true)
IsWrittenFor (Some (Stepped answer registers)) text refused = Unit {0}
IsWrittenFor (Some (Moved answer registers)) text refused = Unit {0}

-- a reply after which nothing was done
abbrev pub IsUndone : {Registers : Type 0} → Option (Reply Registers) → Type 0
IsUndone None = Unit {0}
IsUndone (Some Added) = ⊥
IsUndone (Some Removed) = ⊥
IsUndone (Some Unknown) = Unit {0}
IsUndone (Some Exhausted) = Unit {0}
IsUndone (Some (Stepped answer registers)) = ⊥
IsUndone (Some (Moved answer registers)) = ⊥

-- the line for a move is appended, and whether it gives a frame is returned; there is none for a move that is out of memory
abbrev pub IsAppendedFor : {Registers : Type 0} → Option (Reply Registers) → Bool → List ℕ → List ℕ → Type 0
IsAppendedFor None given old new = ⊥
IsAppendedFor (Some reply) given old new = (given ≡ gives_frame reply) × (new ≡ old ++ line_for reply)
