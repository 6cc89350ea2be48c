-- What a thread is called after a change of the list of threads.
use Rattle.std.proofs.Common.{◌≡◌, ℕ, Bool, true, false, cond, List, [], ◌∷◌, ◌++◌, refl, ap, Option, Some, None, arith}
use Rattle.std.specs.Prelude.{◌==◌}
use Rattle.std.specs.List.{filter, find}
use Rattle.std.specs.Option.{option_or}
use Rattle.std.proofs.lemmas.Bool.Decides.{nat_tests}
use Rattle.std.proofs.lemmas.List.Folds.{find-append}
use Rattle.list_laws.proofs.Laws.{by_case}
use Rattle.perf_files.specs.declared.fields.ThreadId.{ThreadId}
use Rattle.perf_processes.specs.declared.change.ThreadName.{ThreadName}
use Rattle.perf_processes.specs.Changes.{is_of_thread}
use Rattle.perf_processes.specs.Processes.{is_not_of, is_not_of_thread, name_of, named_as, with_name}
use Rattle.fold_stacks.specs.Comms.{is_thread}

-- ---- the first that passes, behind a filter

module _ {A : Type 0} (p keep : A → Bool) where
  find-kept : ((x : A) → p x ≡ true → keep x ≡ true) → (xs : List A) → find p (filter keep xs) ≡ find p xs
  find-kept all [] = refl
  find-kept all (x ∷ xs) =
      by_case (p x)
      (λ is. rw (all x is, is) refl)
      (λ is. by_case (keep x) (λ kept. rw (kept, is) (find-kept all xs)) (λ dropped. rw (dropped, is) (find-kept all xs)))

  find-dropped : ((x : A) → p x ≡ true → keep x ≡ false) → (xs : List A) → find p (filter keep xs) ≡ None
  find-dropped none [] = refl
  find-dropped none (x ∷ xs) =
      by_case (p x)
      (λ is. rw (none x is) (find-dropped none xs))
      (λ is. by_case (keep x) (λ kept. rw (kept, is) (find-dropped none xs)) (λ dropped. rw dropped (find-dropped none xs)))

or-none : {A : Type 0} (o : Option A) → option_or o None ≡ o
or-none None = refl
or-none (Some x) = refl

-- ---- tests of one name

gone : (thread other : ThreadId) (x : ThreadName) → is_thread thread other ≡ true → is_of_thread other x ≡ true → is_not_of_thread thread x ≡ false
gone thread other x same is = grind (arith, nat_tests)

stays : (thread other : ThreadId) (x : ThreadName) → is_thread thread other ≡ false → is_of_thread other x ≡ true → is_not_of_thread thread x ≡ true
stays thread other x differ is = grind (arith, nat_tests)

process-gone : (pid : ℕ) (other : ThreadId) (x : ThreadName) → (other.pid == pid) ≡ true → is_of_thread other x ≡ true → is_not_of pid x ≡ false
process-gone pid other x same is = grind (arith, nat_tests)

process-stays : (pid : ℕ) (other : ThreadId) (x : ThreadName) → (other.pid == pid) ≡ false → is_of_thread other x ≡ true → is_not_of pid x ≡ true
process-stays pid other x differ is = grind (arith, nat_tests)

-- ---- names

module _ (threads : List ThreadName) (other : ThreadId) where
  -- without a thread
  pub name-left : (thread : ThreadId) → name_of other (filter (is_not_of_thread thread) threads) ≡ cond (is_thread thread other) None (name_of other threads)
  name-left thread =
      by_case (is_thread thread other)
      (λ same. let none = find-dropped (is_of_thread other) (is_not_of_thread thread) (λ x is. gone thread other x same is) threads in rw (none, same) refl)
      (λ differ. let kept = find-kept (is_of_thread other) (is_not_of_thread thread) (λ x is. stays thread other x differ is) threads in rw (kept, differ) refl)

  -- with a name
  pub name-put : (named : ThreadName) → name_of other (with_name named threads) ≡ cond (is_thread named.thread other) named.name (name_of other threads)
  name-put named =
      by_case (is_thread named.thread other)
      (λ same. let no = find-dropped (is_of_thread other) (is_not_of_thread named.thread) (λ x is. gone named.thread other x same is) threads in
      rw (find-append (is_of_thread other) (filter (is_not_of_thread named.thread) threads) (named ∷ []), no, same) refl)
      (λ differ. let kept = find-kept (is_of_thread other) (is_not_of_thread named.thread) (λ x is. stays named.thread other x differ is) threads in
      rw (find-append (is_of_thread other) (filter (is_not_of_thread named.thread) threads) (named ∷ []), kept, differ) (ap named_as (or-none (find (is_of_thread other) threads))))

  -- with the first thread of a process, in place of those of an earlier one
  pub name-started : (named : ThreadName) → name_of other (filter (is_not_of named.thread.pid) threads ++ named ∷ [])
      ≡ cond (is_thread named.thread other) named.name (cond (other.pid == named.thread.pid) None (name_of other threads))
  name-started named =
      by_case (other.pid == named.thread.pid)
      (λ same. let no = find-dropped (is_of_thread other) (is_not_of named.thread.pid) (λ x is. process-gone named.thread.pid other x same is) threads in
      rw (find-append (is_of_thread other) (filter (is_not_of named.thread.pid) threads) (named ∷ []), no, same)
      (by_case (is_thread named.thread other) (λ is. rw is refl) (λ is. rw is refl)))
      (λ differ. let kept = find-kept (is_of_thread other) (is_not_of named.thread.pid) (λ x is. process-stays named.thread.pid other x differ is) threads in
      let another : is_thread named.thread other ≡ false = grind (arith, nat_tests) in
      rw (find-append (is_of_thread other) (filter (is_not_of named.thread.pid) threads) (named ∷ []), kept, differ, another)
      (ap named_as (or-none (find (is_of_thread other) threads))))
