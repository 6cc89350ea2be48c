-- The text of threads, one after the other.
use Rattle.std.proofs.Common.{◌≡◌, ℕ, ◌+◌, ◌<◌, Bool, true, false, ◌||◌, List, length, get_or, drop, Result, ◌++◌, map, append_assoc, Option, Some, None, refl, sym, ap, ◌∙◌}
use Rattle.std.proofs.lemmas.List.{append-nil}
use Rattle.std.specs.Prelude.{IsErr, is_some}
use Rattle.std.specs.List.{cons_option}
use Rattle.std.specs.Option.{option_to_list}
use Rattle.std.specs.Io.KnownBytes.{Appends}
use Rattle.backtrace_headings.specs.Headings.{label_of}
use Rattle.backtrace_json.specs.Forms.{end_part, frames_part, stack_part, stacks_part, thread_part}
use Rattle.backtrace_json.specs.declared.forms.TextForm.{TextForm}
use Rattle.backtrace_text.specs.Threads.{Backtrace}
use Rattle.json_program.specs.Stream.{AppendsPrefix, IsWritten, WritesText}
use Rattle.core_files.specs.declared.thread.Thread.{Thread}
use Rattle.backtrace_walks.specs.Backtraces.{Process, backtrace_of, backtraces_of, shown_frame, walk_of_thread}
use Rattle.backtrace_walks.specs.StackMeanings.{StackMeanings}
use Rattle.backtrace_walks.specs.StackTexts.{is_later, text_at, text_for, threads_text, walk_text}
use Rattle.backtrace_walks.specs.declared.backtraces.BacktraceOptions.{BacktraceOptions}
use Rattle.backtrace_walks.specs.declared.registers.ThreadStart.{ThreadStart}
use Rattle.backtrace_walks.proofs.Lists.{element}
use Rattle.backtrace_walks.proofs.Writes.{fails_in, writes_more}

or_nothing : (later : Bool) → later ≡ (later || false)
or_nothing true = refl
or_nothing false = refl

or_something : (later : Bool) → true ≡ (later || true)
or_something true = refl
or_something false = refl

joined : (form : TextForm) (later : Bool) (found : Option Backtrace) (others : List Backtrace)
    → stacks_part form later (cons_option found others) ≡ stacks_part form later (option_to_list found) ++ stacks_part form (later || is_some found) others
joined form later None others = ap (λ (b : Bool). stacks_part form b others) (or_nothing later)
joined form later (Some backtrace) others =
    ap (λ (b : Bool). stack_part form later backtrace ++ stacks_part form b others) (or_something later)
    ∙ ap (λ (t : List ℕ). t ++ stacks_part form (later || true) others) (sym (append-nil (stack_part form later backtrace)))

module _ {Rule R : Type 0} (stacks : StackMeanings Rule R) (process : Process) (options : BacktraceOptions) where
  -- the text of the threads from this one on
  abbrev pub text_left : Bool → ℕ → List Thread → List ℕ
  text_left later i threads = stacks_part options.form later (backtraces_of stacks process options (drop i threads))

  -- a thread, and those after it
  one_more : (later : Bool) (i : ℕ) (threads : List Thread) (d : Thread) → i < length threads
      → text_left later i threads
      ≡ text_for stacks process options later (get_or threads i d) ++ text_left (is_later stacks process options later (get_or threads i d)) (i + 1) threads
  one_more later i threads d within =
      ap (λ (ts : List Thread). stacks_part options.form later (backtraces_of stacks process options ts)) (element threads i d within)
      ∙ joined options.form later (backtrace_of stacks process options (get_or threads i d)) _

  -- a call fails in the text of a thread, after those before it
  pub fails_at : {T E : Type 0} (result : Result T E) (old mid new : Option (List ℕ)) (later : Bool) (threads : List Thread) (i : ℕ) (d : Thread) → IsErr result
      → i < length threads → IsWritten old mid (text_left later i threads) (threads_text stacks process options threads)
      → AppendsPrefix mid new (text_for stacks process options later (get_or threads i d))
      → WritesText result old new (threads_text stacks process options threads)
  fails_at result old mid new later threads i d failed within written begun =
      fails_in result old mid new (text_left later i threads) (text_for stacks process options later (get_or threads i d))
      (text_left (is_later stacks process options later (get_or threads i d)) (i + 1) threads) (threads_text stacks process options threads) failed written
      (one_more later i threads d within) begun

  -- the text of a thread is written, after those before it
  pub goes_on_at : (old mid new : Option (List ℕ)) (later next : Bool) (threads : List Thread) (i : ℕ) (d : Thread) → i < length threads
      → next ≡ is_later stacks process options later (get_or threads i d)
      → IsWritten old mid (text_left later i threads) (threads_text stacks process options threads)
      → Appends mid new (text_for stacks process options later (get_or threads i d))
      → IsWritten old new (text_left next (i + 1) threads) (threads_text stacks process options threads)
  goes_on_at old mid new later next threads i d within is written appended =
      writes_more old mid new (text_left later i threads) (text_for stacks process options later (get_or threads i d))
      (text_left next (i + 1) threads) (threads_text stacks process options threads) written
      (one_more later i threads d within ∙ ap (λ (b : Bool). text_for stacks process options later (get_or threads i d) ++ text_left b (i + 1) threads) (sym is))
      appended

  -- what stands before the frames of a thread, and the text of its walk
  pub begins_with : (later : Bool) (id : ℕ) (start : ThreadStart R)
      → text_at stacks process options later id start ≡ thread_part options.form later (label_of process.heading id) ++ walk_text stacks process options start
  begins_with later id start =
      let stack = walk_of_thread stacks process options.limit start in
      append_assoc (thread_part options.form later (label_of process.heading id))
      (frames_part options.form 0 (map (shown_frame stacks process options.frames) stack.frames)) (end_part options.form stack.end)
