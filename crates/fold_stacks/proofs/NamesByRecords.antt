-- The names of threads by the records alone are those that their numbers have.
use Rattle.std.proofs.Common.{◌≡◌, ◌∙◌, ℕ, Bool, true, false, cond, List, refl, sym, ap, subst, Option, Some, None, Ok, Err}
use Rattle.std.proofs.Math.Path.{fun_ext}
use Rattle.std.specs.Prelude.{◌==◌, slice_get, option_map, IfSome, IfOk}
use Rattle.std.specs.Option.{option_or}
use Rattle.std.specs.Result.{result_unwrap_or}
use Rattle.folded_stacks.specs.FrameNames.{name_at}
use Rattle.list_laws.proofs.Laws.{by_case}
use Rattle.perf_files.specs.FieldResults.{FieldResult}
use Rattle.perf_files.specs.Mappings.{mapping_of}
use Rattle.perf_files.specs.Records.{RecordParts}
use Rattle.perf_files.specs.Tasks.{CommandParts, command_of, task_of}
use Rattle.perf_files.specs.declared.attributes.Attributes.{Attributes}
use Rattle.perf_files.specs.declared.command.Task.{Task}
use Rattle.perf_files.specs.declared.error.FieldError.{FieldError}
use Rattle.perf_files.specs.declared.fields.ThreadId.{ThreadId}
use Rattle.perf_files.specs.declared.record.RecordKind.{RecordKind}
use Rattle.perf_files.specs.declared.record.RecordKind.TheVariants.{Mapping, Mapping2, Command, Fork, Exit}
use Rattle.perf_processes.specs.declared.change.Change.{Change}
use Rattle.perf_processes.specs.declared.change.Change.TheVariants.{Mapped, Named, Executed, Started, Ended}
use Rattle.perf_processes.specs.Processes.{ProcessState, after_change, name_of, parent_thread, started_name, task_thread, with_name}
use Rattle.fold_stacks.specs.Comms.{KeepsEnded, ended_with, is_thread}
use Rattle.fold_stacks.specs.FoldingStates.{FoldingState, called_in, nothing_folded}
use Rattle.fold_stacks.specs.Foldings.{IsChange, KeepsEndedIf, after_if}
use Rattle.fold_stacks.specs.FrameTexts.{comm_text}
use Rattle.fold_stacks.specs.Kept.{KeepsNumbers}
use Rattle.fold_stacks.specs.KeptNumbers.{name_number}
use Rattle.fold_stacks.specs.RecordChanges.{command_change, mapping_change, mapped_file, number_in, thread_name}
use Rattle.fold_stacks.specs.ThreadNames.{ThreadNames, called_by, command_names, exit_names, fork_names, names_by, no_thread_names}
use Rattle.fold_stacks.proofs.NamedThreads.{name-left, name-put, name-started}

-- ---- names by their numbers

-- A number is that of a name, and there is none without one.
abbrev IsText : List (List ℕ) → Option ℕ → Option (List ℕ) → Type 0
IsText names number text = option_map (slice_get names) number ≡ option_map (λ (name : List ℕ). Some name) text

text-known : (names : List (List ℕ)) (number : Option ℕ) (text : Option (List ℕ)) → IsText names number text → option_map (name_at names) number ≡ text
text-known names None None is = refl
text-known names None (Some name) is = cc
text-known names (Some number) None is = cc
text-known names (Some number) (Some name) is = let known : slice_get names number ≡ Some name = cc in rw known refl

text-or : (names : List (List ℕ)) (a b : Option ℕ) (x y : Option (List ℕ)) → IsText names a x → IsText names b y → IsText names (option_or a b) (option_or x y)
text-or names None b None y first second = second
text-or names None b (Some x) y first second = cc
text-or names (Some a) b None y first second = cc
text-or names (Some a) b (Some x) y first second = first

text-kept : (old new : List (List ℕ)) → KeepsNumbers old new → (number : Option ℕ) (text : Option (List ℕ)) → IsText old number text → IsText new number text
text-kept old new kept None None is = refl
text-kept old new kept None (Some name) is = cc
text-kept old new kept (Some number) None is = cc
text-kept old new kept (Some number) (Some name) is =
    let known : slice_get old number ≡ Some name = cc in ap (λ (found : Option (List ℕ)). Some found) (kept number name known)

text-if : (names : List (List ℕ)) (b : Bool) (a c : Option ℕ) (x y : Option (List ℕ)) → IsText names a x → IsText names c y → IsText names (cond b a c) (cond b x y)
text-if names true a c x y first second = first
text-if names false a c x y first second = second

text-ended : (names : List (List ℕ)) (thread other : ThreadId) (number : Option ℕ) (text : Option (List ℕ)) (numbers : ThreadId → Option ℕ) (texts : ThreadId → Option (List ℕ))
    → IsText names number text → IsText names (numbers other) (texts other) → IsText names (ended_with thread number numbers other) (ended_with thread text texts other)
text-ended names thread other None None numbers texts is rest = rest
text-ended names thread other None (Some text) numbers texts is rest = cc
text-ended names thread other (Some number) None numbers texts is rest = cc
text-ended names thread other (Some number) (Some text) numbers texts is rest =
    text-if names (is_thread thread other) (Some number) (numbers other) (Some text) (texts other) is rest

-- ---- states

-- Threads are called so by their numbers.
pub record AreNames (state : FoldingState) (names : ThreadNames) : Type 0 where
  pub alive : (thread : ThreadId) → IsText state.comms.names (name_of thread state.processes.threads) (names.alive thread)
  pub ended : (thread : ThreadId) → IsText state.comms.names (name_of thread state.comms.ended) (names.ended thread)

pub no-names : AreNames nothing_folded no_thread_names
no-names = record { alive = λ thread. refl; ended = λ thread. refl }

pub called-alike : (state : FoldingState) (names : ThreadNames) → AreNames state names → called_in state ≡ called_by names
called-alike state names are = fun_ext (λ thread.
    ap (λ (known : Option (List ℕ)). comm_text known thread.pid)
    (text-known state.comms.names (option_or (name_of thread state.processes.threads) (name_of thread state.comms.ended)) (option_or (names.alive thread) (names.ended thread))
    (text-or state.comms.names (name_of thread state.processes.threads) (name_of thread state.comms.ended) (names.alive thread) (names.ended thread) (are.alive thread) (are.ended thread))))

-- ---- changes

-- A number in a change is that of the name in its record.
abbrev IsName : List (List ℕ) → Attributes → RecordParts → Option Change → Type 0
IsName names attributes found change =
    IfSome (name_number change) (λ number. IfOk (command_of attributes found) (λ command. slice_get names number ≡ Some command.name))

module _ (old new : FoldingState) (names : ThreadNames) (kept : KeepsNumbers old.comms.names new.comms.names) (were : AreNames old names) where
  alive-kept : (thread : ThreadId) → IsText new.comms.names (name_of thread old.processes.threads) (names.alive thread)
  alive-kept thread = text-kept old.comms.names new.comms.names kept (name_of thread old.processes.threads) (names.alive thread) (were.alive thread)

  ended-kept : (thread : ThreadId) → IsText new.comms.names (name_of thread old.comms.ended) (names.ended thread)
  ended-kept thread = text-kept old.comms.names new.comms.names kept (name_of thread old.comms.ended) (names.ended thread) (were.ended thread)

  same-names : new.processes.threads ≡ old.processes.threads → new.comms.ended ≡ old.comms.ended → AreNames new names
  same-names threads ended = record { alive = λ thread. rw threads (alive-kept thread); ended = λ thread. rw ended (ended-kept thread) }

  after-command : (command : CommandParts) (number : ℕ) → new.processes.threads ≡ with_name (thread_name command number) old.processes.threads
      → new.comms.ended ≡ old.comms.ended → slice_get new.comms.names number ≡ Some command.name → AreNames new (command_names command names)
  after-command command number threads ended known = record {
    alive = λ thread. rw (threads, name-put old.processes.threads thread (thread_name command number))
        (text-if new.comms.names (is_thread command.thread thread) (Some number) (name_of thread old.processes.threads) (Some command.name) (names.alive thread)
        (ap (λ (found : Option (List ℕ)). Some found) known) (alive-kept thread));
    ended = λ thread. rw ended (ended-kept thread);
  }

  after-start : (task : Task) → (task.pid == task.parent_pid) ≡ true → new.processes.threads ≡ with_name (started_name task old.processes.threads) old.processes.threads
      → new.comms.ended ≡ old.comms.ended → AreNames new (fork_names task names)
  after-start task same threads ended = record {
    alive = λ thread. rw (threads, name-put old.processes.threads thread (started_name task old.processes.threads), same)
        (text-if new.comms.names (is_thread (task_thread task) thread) (name_of (parent_thread task) old.processes.threads) (name_of thread old.processes.threads)
        (names.alive (parent_thread task)) (names.alive thread) (alive-kept (parent_thread task)) (alive-kept thread));
    ended = λ thread. rw ended (ended-kept thread);
  }

  after-end : (task : Task) → new.processes ≡ after_change (Ended task) old.processes
      → KeepsEnded (Ended task) old.processes old.comms.ended new.comms.ended → AreNames new (exit_names task names)
  unfolding after_change
  after-end task processes ended = record {
    alive = λ thread. rw (processes, name-left old.processes.threads thread (task_thread task))
        (text-if new.comms.names (is_thread (task_thread task) thread) None (name_of thread old.processes.threads) None (names.alive thread) refl (alive-kept thread));
    ended = λ thread. rw (ended thread) (text-ended new.comms.names (task_thread task) thread (name_of (task_thread task) old.processes.threads) (names.alive (task_thread task))
        (λ other. name_of other old.comms.ended) names.ended (alive-kept (task_thread task)) (ended-kept thread));
  }

  after-fork : (task : Task) → new.processes ≡ after_change (Started task) old.processes → new.comms.ended ≡ old.comms.ended → AreNames new (fork_names task names)
  unfolding after_change
  after-fork task processes ended =
      by_case (task.pid == task.parent_pid)
      (λ same. after-start task same (rw (processes, same) refl) ended)
      (λ differ. record {
        alive = λ thread. rw (processes, differ, name-started old.processes.threads thread (started_name task old.processes.threads))
            (text-if new.comms.names (is_thread (task_thread task) thread) (name_of (parent_thread task) old.processes.threads)
            (cond (thread.pid == task.pid) None (name_of thread old.processes.threads))
            (names.alive (parent_thread task)) (cond (thread.pid == task.pid) None (names.alive thread)) (alive-kept (parent_thread task))
            (text-if new.comms.names (thread.pid == task.pid) None (name_of thread old.processes.threads) None (names.alive thread) refl (alive-kept thread)));
        ended = λ thread. rw ended (ended-kept thread);
      })

  -- ---- records

  -- what is made of a record that was read
  by-read : {A : Type 0} {P : Type 0} (read : FieldResult A) → ((value : A) → read ≡ Ok value → P) → ((error : FieldError) → read ≡ Err error → P) → P
  by-read (Ok value) ok err = ok value refl
  by-read (Err error) ok err = err error refl

  after-mapping : (attributes : Attributes) (found : RecordParts) (change : Option Change) → IsChange Mapping attributes found change
      → new.processes ≡ after_if change old.processes → KeepsEndedIf change old new → AreNames new names
  unfolding after_change
  after-mapping attributes found change says processes ended =
      by-read (mapping_of attributes found)
      (λ mapping is. let change_is : mapping_change (number_in change) mapping ≡ change = let h = rw is at says in cc in
      by_case mapping.executable
      (λ executable. let mapped : Some (Mapped (mapped_file mapping (number_in change))) ≡ change = rw executable at change_is in
      same-names (ap (λ (state : ProcessState). state.threads) processes ∙ ap (λ (c : Option Change). (after_if c old.processes).threads) (sym mapped))
      (subst (λ (c : Option Change). KeepsEndedIf c old new) (sym mapped) ended))
      (λ not. let none : None ≡ change = rw not at change_is in
      same-names (ap (λ (state : ProcessState). state.threads) processes ∙ ap (λ (c : Option Change). (after_if c old.processes).threads) (sym none))
      (subst (λ (c : Option Change). KeepsEndedIf c old new) (sym none) ended)))
      (λ error is. absurd (let h = rw is at says in cc))

  after-none : (change : Option Change) → None ≡ change → new.processes ≡ after_if change old.processes → KeepsEndedIf change old new → AreNames new names
  after-none change none processes ended =
      same-names (ap (λ (state : ProcessState). state.threads) processes ∙ ap (λ (c : Option Change). (after_if c old.processes).threads) (sym none))
      (subst (λ (c : Option Change). KeepsEndedIf c old new) (sym none) ended)

  after-named : (attributes : Attributes) (found : RecordParts) (change : Option Change) → IsChange Command attributes found change
      → new.processes ≡ after_if change old.processes → KeepsEndedIf change old new → IsName new.comms.names attributes found change
      → AreNames new (result_unwrap_or (names_by Command attributes found names) names)
  unfolding after_change
  after-named attributes found change says processes ended has =
      by-read (command_of attributes found)
      (λ command is. let change_is : Some (command_change (number_in change) command) ≡ change = let h = rw is at says in cc in
      by_case command.exec
      (λ exec. let named : Some (Executed (thread_name command (number_in change))) ≡ change = rw exec at change_is in
      rw is (after-command command (number_in change)
      (ap (λ (state : ProcessState). state.threads) processes ∙ ap (λ (c : Option Change). (after_if c old.processes).threads) (sym named))
      (subst (λ (c : Option Change). KeepsEndedIf c old new) (sym named) ended)
      (rw is at (subst (λ (c : Option Change). IsName new.comms.names attributes found c) (sym named) has))))
      (λ not. let named : Some (Named (thread_name command (number_in change))) ≡ change = rw not at change_is in
      rw is (after-command command (number_in change)
      (ap (λ (state : ProcessState). state.threads) processes ∙ ap (λ (c : Option Change). (after_if c old.processes).threads) (sym named))
      (subst (λ (c : Option Change). KeepsEndedIf c old new) (sym named) ended)
      (rw is at (subst (λ (c : Option Change). IsName new.comms.names attributes found c) (sym named) has)))))
      (λ error is. absurd (let h = rw is at says in cc))

  after-started : (attributes : Attributes) (found : RecordParts) (change : Option Change) → IsChange Fork attributes found change
      → new.processes ≡ after_if change old.processes → KeepsEndedIf change old new
      → AreNames new (result_unwrap_or (names_by Fork attributes found names) names)
  after-started attributes found change says processes ended =
      by-read (task_of attributes found)
      (λ task is. let started : Some (Started task) ≡ change = let h = rw is at says in cc in
      rw is (after-fork task (processes ∙ ap (λ (c : Option Change). after_if c old.processes) (sym started)) (subst (λ (c : Option Change). KeepsEndedIf c old new) (sym started) ended)))
      (λ error is. absurd (let h = rw is at says in cc))

  after-ended : (attributes : Attributes) (found : RecordParts) (change : Option Change) → IsChange Exit attributes found change
      → new.processes ≡ after_if change old.processes → KeepsEndedIf change old new
      → AreNames new (result_unwrap_or (names_by Exit attributes found names) names)
  after-ended attributes found change says processes ended =
      by-read (task_of attributes found)
      (λ task is. let over : Some (Ended task) ≡ change = let h = rw is at says in cc in
      rw is (after-end task (processes ∙ ap (λ (c : Option Change). after_if c old.processes) (sym over)) (subst (λ (c : Option Change). KeepsEndedIf c old new) (sym over) ended)))
      (λ error is. absurd (let h = rw is at says in cc))

  none-is : (change : Option Change) → ◌≡◌ {A = FieldResult (Option Change)} (Ok None) (Ok change) → None ≡ change
  none-is change says = cc

  pub after-record : (kind : RecordKind) (attributes : Attributes) (found : RecordParts) (change : Option Change) → IsChange kind attributes found change
      → new.processes ≡ after_if change old.processes → KeepsEndedIf change old new → IsName new.comms.names attributes found change
      → AreNames new (result_unwrap_or (names_by kind attributes found names) names)
  after-record Mapping attributes found change says processes ended has = after-mapping attributes found change says processes ended
  after-record Mapping2 attributes found change says processes ended has = after-mapping attributes found change says processes ended
  after-record Command attributes found change says processes ended has = after-named attributes found change says processes ended has
  after-record Fork attributes found change says processes ended has = after-started attributes found change says processes ended
  after-record Exit attributes found change says processes ended has = after-ended attributes found change says processes ended
  after-record _ attributes found change says processes ended has = after-none change (none-is change says) processes ended
