-- What is written for the answers to commands, and where the session is then.
use Rattle.std.proofs.Common.{◌≡◌, ℕ, zero, suc, Bool, true, false, cond, List, [], ◌∷◌, Option, Some, None, Result, Ok, Err, IfOk, OnErr, refl, sym, ap, subst, ◌∙◌}
use Rattle.std.specs.Prelude.{string_bytes, is_some, nat_lt, if◌then◌else◌, ◌^◌, ◌-◌, option_map, unwrap_or, IsErr}
use Rattle.json_program.specs.Lines.{line}
use Rattle.framehop_registers.specs.declared.error.Error.{Error}
use Rattle.framehop_rules.specs.Slots.{Kept}
use Rattle.framehop_unwinder.specs.Attempt.{Meanings}
use Rattle.framehop_unwinder.specs.ByNumber.{held, is_held, mark, marks}
use Rattle.framehop_unwinder.specs.History.{KeyHistory, HasHistoryIfHeld, HaveHistories, history_at, no_history}
use Rattle.framehop_unwinder.specs.IdViews.{FindsHeld}
use Rattle.framehop_unwinder.specs.Modules.{Loaded, is_loaded_at}
use Rattle.framehop_unwinder.specs.Progress.{SessionModel, IsAt}
use Rattle.framehop_unwinder.specs.State.{SessionState}
use Rattle.framehop_histories.specs.Commands.{Act, NewUnwinder, Load, Unload, Clone, RemoveCache, RemoveUnwinder, CommandState, Reply, Added, Removed, Unknown, Exhausted, Stepped, Moved, if_known, if_left, modules_of, reply_to}
use Rattle.framehop_histories.specs.CommandViews.{reply_of}
use Rattle.framehop_histories.specs.Performs.{IsIn, IsObeyed, StaysUnlessDone}
use Rattle.framehop_histories.specs.StateAfter.{state_after}
use Rattle.framehop_histories.specs.declared.commands.Answer.{Answer}
use Rattle.framehop_histories.specs.declared.commands.Answer.TheVariants as answers
use Rattle.unwind_run_program.specs.Outputs.{CommandOutput, IsOutput, cache_line, unknown_line, IsUndone, IsWrittenFor, OutputsAct, is_refusal, next_state, text_for, without_walks}
use Rattle.unwind_run_program.specs.declared.commands.Written.{Written}

-- a history is there as its cache is
mark-of : {Rule : Type 0} (history : Option KeyHistory) (cache : Option (Kept Rule)) → HasHistoryIfHeld history cache → option_map mark cache ≡ option_map mark history
mark-of None None h = refl
mark-of None (Some cache) h = absurd h
mark-of (Some history) None h = absurd h
mark-of (Some history) (Some cache) h = refl

pub histories_marks : {Rule : Type 0} (histories : List (Option KeyHistory)) (caches : List (Option (Kept Rule))) → HaveHistories histories caches → marks caches ≡ marks histories
histories_marks [] [] h = refl
histories_marks [] (cache ∷ caches) h = absurd h
histories_marks (history ∷ histories) [] h = absurd h
histories_marks {Rule} (history ∷ histories) (cache ∷ caches) h =
    ap (λ (m : Option (Unit {0})). m ∷ marks caches) (mark-of history cache h.0)
    ∙ ap (λ (ms : List (Option (Unit {0}))). option_map mark history ∷ ms) (histories_marks histories caches h.1)

-- a line about a cache that is there, and about one that isn't
line-of : {Rule : Type 0} (text : KeyHistory → List ℕ) (history : Option KeyHistory) (cache : Option (Kept Rule)) → HasHistoryIfHeld history cache → is_some cache ≡ true → cache_line text history ≡ line (text (unwrap_or history (no_history 509)))
line-of text history None h there = absurd (let no : false ≡ true = there in cc)
line-of text None (Some cache) h there = absurd h
line-of text (Some history) (Some cache) h there = refl

pub line-there : {Rule : Type 0} (text : KeyHistory → List ℕ) (histories : List (Option KeyHistory)) (caches : List (Option (Kept Rule))) (i : ℕ) → HaveHistories histories caches → is_held caches i ≡ true
    → cache_line text (held histories i) ≡ line (text (history_at histories i))
line-there text histories [] i h there = absurd (let no : false ≡ true = there in cc)
line-there text [] (cache ∷ caches) i h there = absurd h
line-there text (history ∷ histories) (cache ∷ caches) zero h there = line-of text history cache h.0 there
line-there text (history ∷ histories) (cache ∷ caches) (suc i) h there = line-there text histories caches i h.1 there

no-line-of : {Rule : Type 0} (text : KeyHistory → List ℕ) (history : Option KeyHistory) (cache : Option (Kept Rule)) → HasHistoryIfHeld history cache → is_some cache ≡ false → cache_line text history ≡ unknown_line
no-line-of text None cache h gone = refl
no-line-of text (Some history) None h gone = absurd h
no-line-of text (Some history) (Some cache) h gone = absurd (let no : true ≡ false = gone in cc)

pub line-gone : {Rule : Type 0} (text : KeyHistory → List ℕ) (histories : List (Option KeyHistory)) (caches : List (Option (Kept Rule))) (i : ℕ) → HaveHistories histories caches → is_held caches i ≡ false → cache_line text (held histories i) ≡ unknown_line
line-gone text [] caches i h gone = refl
line-gone text (history ∷ histories) [] i h gone = absurd h
line-gone text (history ∷ histories) (cache ∷ caches) zero h gone = no-line-of text history cache h.0 gone
line-gone text (history ∷ histories) (cache ∷ caches) (suc i) h gone = line-gone text histories caches i h.1 gone

-- the line of a command that names what was let go is written, and nothing is changed
pub unknown-output : {D R E : Type 0} (result : Result Written E) (output : CommandOutput D) (session : SessionState D R)
    → IfOk result (λ written. string_bytes written.text ≡ unknown_line) → IfOk result (λ written. written.is_refused ≡ false)
    → output.text ≡ unknown_line → output.is_refused ≡ false → IsAt output.model session
    → IfOk result (λ written. IsOutput output (string_bytes written.text) written.is_refused session)
unknown-output (Ok written) output session text refused is-text is-refused at =
    record { text = text ∙ sym is-text; is_refused = refused ∙ sym is-refused; model = at }
unknown-output (Err error) output session text refused is-text is-refused at = tt

-- a call that found what it names
pub was-found : {X A E : Type 0} (there : Bool) (result : Result A E) (old new : X) (answer : A) → FindsHeld there result old new → result ≡ Ok answer → there ≡ true
was-found true result old new answer found is = refl
was-found {A} {E} false result old new answer found is = absurd (let none : false ≡ true = subst (λ (r : Result A E). IsErr r) is (found.stale refl) in cc)

-- a session at a model is in its state
pub is-in : {D R Regs : Type 0} (model : SessionModel D) (session : SessionState D R) → IsAt model session → IsIn {Registers = Regs} (without_walks model) session []
is-in model session at = record {
  unwinders = at.unwinders;
  next = at.next;
  caches = histories_marks model.histories session.caches at.histories;
  walks = refl;
}

-- replies that have no line of a step or a move
abbrev pub is_plain : {Regs : Type 0} → Reply Regs → Bool
is_plain Added = true
is_plain Removed = true
is_plain Unknown = true
is_plain Exhausted = true
is_plain (Stepped answer registers) = false
is_plain (Moved answer registers) = false

left-plain : {Regs : Type 0} (test : Bool) (reply : Reply Regs) → is_plain reply ≡ true → is_plain (cond test reply Exhausted) ≡ true
left-plain true reply is = is
left-plain false reply is = refl

known-plain : {X Regs : Type 0} (found : Option X) (reply : X → Reply Regs) → ((x : X) → is_plain (reply x) ≡ true) → is_plain (if_known found reply) ≡ true
known-plain None reply is = refl
known-plain (Some x) reply is = is x

unloaded-plain : {Regs : Type 0} (has : Bool) (reply : Reply Regs) → is_plain reply ≡ true → is_plain (cond has reply Removed) ≡ true
unloaded-plain true reply is = is
unloaded-plain false reply is = refl

removed-plain : (Regs : Type 0) (there : Bool) → is_plain {Regs = Regs} (cond there Removed Unknown) ≡ true
removed-plain Regs true = refl
removed-plain Regs false = refl

module _ {D R Regs : Type 0} (m : Meanings D R Regs) where
  pub unwinder-plain : (state : CommandState D Regs) → is_plain (reply_to m NewUnwinder state) ≡ true
  unwinder-plain state = left-plain (nat_lt state.model.next (2 ^ 64 - 1)) Added refl

  pub load-plain : (i : ℕ) (module_ : Loaded D) (state : CommandState D Regs) → is_plain (reply_to m (Load i module_) state) ≡ true
  load-plain i module_ state = known-plain (modules_of state i) (λ modules. if_left state Added) (λ modules. left-plain (nat_lt state.model.next (2 ^ 64 - 1)) Added refl)

  pub unload-plain : (i start : ℕ) (state : CommandState D Regs) → is_plain (reply_to m (Unload i start) state) ≡ true
  unload-plain i start state =
      known-plain (modules_of state i) (λ modules. if is_loaded_at start modules then if_left state Removed else Removed)
      (λ modules. unloaded-plain (is_loaded_at start modules) (if_left state Removed) (left-plain (nat_lt state.model.next (2 ^ 64 - 1)) Removed refl))

  pub clone-plain : (i : ℕ) (state : CommandState D Regs) → is_plain (reply_to m (Clone i) state) ≡ true
  clone-plain i state = known-plain (modules_of state i) (λ modules. Added) (λ modules. refl)

  pub remove_unwinder-plain : (i : ℕ) (state : CommandState D Regs) → is_plain (reply_to m (RemoveUnwinder i) state) ≡ true
  remove_unwinder-plain i state = known-plain (modules_of state i) (λ modules. Removed) (λ modules. refl)

  pub remove_cache-plain : (i : ℕ) (state : CommandState D Regs) → is_plain (reply_to m (RemoveCache i) state) ≡ true
  remove_cache-plain i state = removed-plain Regs (is_held state.model.histories i)

-- a plain reply has this text
written-for : {Regs : Type 0} (step_line : Result (Option ℕ) Error → Regs → List ℕ) (reply : Reply Regs) (text : List ℕ) (refused : Bool) → is_plain reply ≡ true → IsWrittenFor (Some reply) text refused
    → (text ≡ text_for step_line reply) × (refused ≡ is_refusal reply)
written-for step_line Added text refused plain written = written
written-for step_line Removed text refused plain written = written
written-for step_line Unknown text refused plain written = written
written-for step_line Exhausted text refused plain written = written
written-for step_line (Stepped answer registers) text refused plain written = absurd (let e : false ≡ true = plain in cc)
written-for step_line (Moved answer registers) text refused plain written = absurd (let e : false ≡ true = plain in cc)

module _ {D R Regs : Type 0} (takes : Bool) (asks : D → ℕ → Bool → Type 0) (m : Meanings D R Regs) (act : Act D Regs) (before after : SessionState D R) where
  at-next : (model : SessionModel D) (reply : Reply Regs) → IsObeyed takes asks m act (without_walks model) before (Some reply) after [] → HaveHistories model.histories before.caches
      → IsAt (next_state m act (without_walks model)).model after
  at-next model reply obeyed have =
      subst (λ (r : Reply Regs). IsAt (state_after m act (without_walks model) (Some r)).model after) obeyed.reply
      (record { unwinders = obeyed.state.unwinders; next = obeyed.state.next; histories = obeyed.histories have })

  -- a command that is no step and no move, from what was written for its answer
  pub by-reply : {E : Type 0} (reply : Option (Reply Regs)) (result : Result Written E) → ((model : SessionModel D) → is_plain (reply_to m act (without_walks model)) ≡ true)
      → ((model : SessionModel D) → IsAt model before → IsObeyed takes asks m act (without_walks model) before reply after [])
      → IfOk result (λ written. IsWrittenFor reply (string_bytes written.text) written.is_refused)
      → OutputsAct m act before after result
  by-reply reply (Err error) plain obeyed written = λ step_line model at. tt
  by-reply None (Ok written) plain obeyed said = absurd said
  by-reply (Some reply) (Ok written) plain obeyed said = λ step_line model at.
      let o = obeyed model at in
      let replied : reply ≡ reply_to m act (without_walks model) = o.reply in
      let w = written-for step_line reply (string_bytes written.text) written.is_refused (ap is_plain replied ∙ plain model) said in
      record {
        text = w.0 ∙ ap (text_for step_line) replied;
        is_refused = w.1 ∙ ap is_refusal replied;
        model = at-next model reply o at.histories;
      }

-- a call that fails after an answer with which nothing was done leaves what it was given
undone-stays : {X Regs : Type 0} (answer : Answer Regs) (old new : X) → IsUndone (reply_of answer) → StaysUnlessDone answer old new → new ≡ old
undone-stays answers.Added old new undone same = absurd undone
undone-stays answers.Removed old new undone same = absurd undone
undone-stays answers.Unknown old new undone same = same
undone-stays answers.GenerationsExhausted old new undone same = same
undone-stays answers.OutOfMemory old new undone same = same
undone-stays (answers.Stepped answer regs) old new undone same = absurd undone
undone-stays (answers.Moved answer regs) old new undone same = absurd undone

pub stays-if-failed : {X Y E Regs : Type 0} (answer : Answer Regs) (old new : X) (result : Result Y E) → OnErr result (IsUndone (reply_of answer)) → StaysUnlessDone answer old new → OnErr result (new ≡ old)
stays-if-failed answer old new (Ok value) undone same = tt
stays-if-failed answer old new (Err error) undone same = undone-stays answer old new undone same
