-- How far a run has come, and what is left to write.
use Rattle.std.proofs.Common.{◌≡◌, ℕ, List, [], ◌∷◌, ◌++◌, reverse, Bool, true, false, cond, Result, Ok, Err, Option, Some, None, refl, sym, ◌∙◌, ap, subst}
use Rattle.std.specs.Prelude.{IfOk, option_map, string_bytes}
use Rattle.std.specs.Io.KnownBytes.{Appends}
use Rattle.std.proofs.lemmas.List.{reverse-append}
use Rattle.json_program.proofs.Laws.{begun_line, written_more, written_all}
use Rattle.json_program.specs.Stream.{AppendsPrefix, IsWritten}
use Rattle.unwind_run_program.specs.Registers.{RegisterForms}
use Rattle.framehop_rules.specs.Slots.{Kept}
use Rattle.framehop_unwinder.specs.Attempt.{Meanings}
use Rattle.framehop_unwinder.specs.ByNumber.{mark, marks}
use Rattle.framehop_unwinder.specs.History.{KeyHistory, HasHistoryIfHeld, HaveHistories}
use Rattle.framehop_unwinder.specs.State.{SessionState}
use Rattle.framehop_unwinder.specs.Progress.{SessionModel, IsAt}
use Rattle.framehop_histories.specs.Commands.{Act, CommandState, Reply, Unknown}
use Rattle.framehop_histories.specs.Performs.{IsIn, IsObeyed}
use Rattle.framehop_histories.specs.StateAfter.{state_after}
use Rattle.unwind_run_program.specs.Outputs.{CommandOutput, IsOutput, is_refusal, output_of_act, text_for, unknown_line, without_walks}
use Rattle.unwind_run_program.specs.declared.commands.Written.{Written}
use Rattle.framehop_registers.specs.declared.error.Error.{Error}
use Rattle.unwind_run_document.specs.declared.command.Command.{Command}
use Rattle.unwind_run_document.specs.Tasks.{Task}
use Rattle.unwind_run_document.specs.CommandViews.{tasks_of, task_of}
use Rattle.unwind_run_program.specs.Sections.{DataForms}
use Rattle.unwind_run_program.specs.Text.{output_of, lines_of}

-- the last of the commands that are kept in reverse is the next
pub next_task : (all kept : List Command) (command : Command) → all ≡ kept ++ command ∷ [] → tasks_of (reverse all) ≡ task_of command ∷ tasks_of (reverse kept)
next_task all kept command h = ap (λ (cs : List Command). tasks_of (reverse cs)) h ∙ ap tasks_of (reverse-append kept (command ∷ []))

-- a history is there as its cache is
mark_of : {Rule : Type 0} (history : Option KeyHistory) (cache : Option (Kept Rule)) → HasHistoryIfHeld history cache → option_map mark cache ≡ option_map mark history
mark_of None None h = refl
mark_of None (Some cache) h = absurd h
mark_of (Some history) None h = absurd h
mark_of (Some history) (Some cache) h = refl

histories_marks : {Rule : Type 0} (histories : List (Option KeyHistory)) (caches : List (Option (Kept Rule))) → HaveHistories histories caches → marks caches ≡ marks histories
histories_marks [] [] h = refl
histories_marks [] (cache ∷ caches) h = absurd h
histories_marks (history ∷ histories) [] h = absurd h
histories_marks {Rule} (history ∷ histories) (cache ∷ caches) h =
    ap (λ (m : Option (Unit {0})). m ∷ marks caches) (mark_of history cache h.0)
    ∙ ap (λ (ms : List (Option (Unit {0}))). option_map mark history ∷ ms) (histories_marks histories caches h.1)

-- a session at a model is in its state
pub is_in : {Data Rule Registers : Type 0} (p : SessionModel Data) (state : SessionState Data Rule) → IsAt p state → IsIn {Registers = Registers} (without_walks p) state []
is_in p state at = record { unwinders = at.unwinders; next = at.next; caches = histories_marks p.histories state.caches at.histories; walks = refl }

-- a command that was answered by a reply, and whose text was written
pub act_output : {Data Rule Registers : Type 0} (takes : Bool) (asks : Data → ℕ → Bool → Type 0) (m : Meanings Data Rule Registers) (act meant : Act Data Registers) (step_line : Result (Option ℕ) Error → Registers → List ℕ) (p : SessionModel Data) (old new : SessionState Data Rule) (reply : Reply Registers) (text : List ℕ) (refused : Bool)
    → act ≡ meant → IsAt p old → ((state : CommandState Data Registers) → IsIn state old [] → IsObeyed takes asks m act state old (Some reply) new [])
    → text ≡ text_for step_line reply → refused ≡ is_refusal reply → IsOutput (output_of_act m step_line meant p) text refused new
act_output {Data} {Rule} {Registers} takes asks m act meant step_line p old new reply text refused same at obeys written is_refused =
    let o = obeys (without_walks p) (is_in p old at) in
    subst (λ (a : Act Data Registers). IsOutput (output_of_act m step_line a p) text refused new) same (record {
      text = written ∙ ap (text_for step_line) o.reply;
      is_refused = is_refused ∙ ap is_refusal o.reply;
      model = subst (λ (r : Reply Registers). IsAt (state_after m act (without_walks p) (Some r)).model new) o.reply
          (record { unwinders = o.state.unwinders; next = o.state.next; histories = o.histories at.histories });
    })

-- a command that names what was let go, and the line that says so
pub unknown_output : {Data Rule Registers E : Type 0} (takes : Bool) (asks : Data → ℕ → Bool → Type 0) (m : Meanings Data Rule Registers) (act meant : Act Data Registers) (step_line : Result (Option ℕ) Error → Registers → List ℕ) (p : SessionModel Data) (old new : SessionState Data Rule) (result : Result Written E)
    → act ≡ meant → IsAt p old → ((state : CommandState Data Registers) → IsIn state old [] → IsObeyed takes asks m act state old (Some Unknown) new [])
    → IfOk result (λ written. string_bytes written.text ≡ unknown_line) → IfOk result (λ written. written.is_refused ≡ false)
    → IfOk result (λ written. IsOutput (output_of_act m step_line meant p) (string_bytes written.text) written.is_refused new)
unknown_output takes asks m act meant step_line p old new (Ok written) same at obeys text refused =
    act_output takes asks m act meant step_line p old new Unknown (string_bytes written.text) written.is_refused same at obeys text refused
unknown_output takes asks m act meant step_line p old new (Err error) same at obeys text refused = tt

-- what is left to write once a command has written
abbrev pub rest_of : {Data Rule Registers : Type 0} → Meanings Data Rule Registers → RegisterForms Registers → DataForms Data → CommandOutput Data → List Task → List ℕ
rest_of m forms data_of t tasks = cond t.is_refused [] (lines_of m forms data_of t.model tasks)

-- a command has written its text
written_text : {Data Rule Registers : Type 0} (m : Meanings Data Rule Registers) (forms : RegisterForms Registers) (data_of : DataForms Data) (t : CommandOutput Data) (tasks : List Task) (old mid new : Option (List ℕ)) (text all : List ℕ)
    → text ≡ t.text → IsWritten old mid (t.text ++ rest_of m forms data_of t tasks) all → Appends mid new text → IsWritten old new (rest_of m forms data_of t tasks) all
written_text m forms data_of t tasks old mid new text all says written added =
    written_more old mid new text (rest_of m forms data_of t tasks) all (subst (λ (xs : List ℕ). IsWritten old mid (xs ++ rest_of m forms data_of t tasks) all) (sym says) written) added

-- a command that isn't refused has written, and the lines that are left are those of the commands after it
pub written_next : {Data Rule Registers : Type 0} (m : Meanings Data Rule Registers) (forms : RegisterForms Registers) (data_of : DataForms Data) (p : SessionModel Data) (task : Task) (tasks : List Task) (state : SessionState Data Rule) (old mid new : Option (List ℕ)) (text all : List ℕ) (refused : Bool)
    → IsOutput (output_of m forms data_of p task) text refused state → refused ≡ false → IsWritten old mid (lines_of m forms data_of p (task ∷ tasks)) all → Appends mid new text
    → IsWritten old new (lines_of m forms data_of (output_of m forms data_of p task).model tasks) all
written_next m forms data_of p task tasks state old mid new text all refused comes carried written added =
    let t = output_of m forms data_of p task in
    subst (λ (b : Bool). IsWritten old new (cond b [] (lines_of m forms data_of t.model tasks)) all) (sym comes.is_refused ∙ carried)
    (written_text m forms data_of t tasks old mid new text all comes.text written added)

-- a command that is refused has written, and all is written
pub written_last : {Data Rule Registers : Type 0} (m : Meanings Data Rule Registers) (forms : RegisterForms Registers) (data_of : DataForms Data) (p : SessionModel Data) (task : Task) (tasks : List Task) (state : SessionState Data Rule) (old mid new : Option (List ℕ)) (text all : List ℕ) (refused : Bool)
    → IsOutput (output_of m forms data_of p task) text refused state → refused ≡ true → IsWritten old mid (lines_of m forms data_of p (task ∷ tasks)) all → Appends mid new text
    → Appends old new all
written_last m forms data_of p task tasks state old mid new text all refused comes carried written added =
    let t = output_of m forms data_of p task in
    written_all old new all
    (subst (λ (b : Bool). IsWritten old new (cond b [] (lines_of m forms data_of t.model tasks)) all) (sym comes.is_refused ∙ carried)
    (written_text m forms data_of t tasks old mid new text all comes.text written added))

-- a prefix of what a command writes is written
pub begun_next : {Data Rule Registers : Type 0} (m : Meanings Data Rule Registers) (forms : RegisterForms Registers) (data_of : DataForms Data) (p : SessionModel Data) (task : Task) (tasks : List Task) (state : SessionState Data Rule) (old mid new : Option (List ℕ)) (text all : List ℕ) (refused : Bool)
    → IsOutput (output_of m forms data_of p task) text refused state → IsWritten old mid (lines_of m forms data_of p (task ∷ tasks)) all → AppendsPrefix mid new text
    → AppendsPrefix old new all
begun_next m forms data_of p task tasks state old mid new text all refused comes written added =
    let t = output_of m forms data_of p task in
    begun_line old mid new text (rest_of m forms data_of t tasks) all (subst (λ (xs : List ℕ). IsWritten old mid (xs ++ rest_of m forms data_of t tasks) all) (sym comes.text) written) added
