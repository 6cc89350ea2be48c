-- What is mapped at an address after a change.
use Rattle.std.proofs.Common.{◌≡◌, ℕ, true, false, List, [], ◌∷◌, ◌++◌, map, refl, ap, ◌∙◌, Some, None, arith}
use Rattle.std.specs.Prelude.{◌==◌, ◌&&◌}
use Rattle.std.specs.List.{filter}
use Rattle.std.specs.Option.{option_map}
use Rattle.std.proofs.lemmas.Bool.Decides.{nat_tests}
use Rattle.std.proofs.lemmas.List.{append-nil}
use Rattle.std.proofs.lemmas.List.Elements.{filter-append}
use Rattle.list_laws.specs.Last.{last_of}
use Rattle.list_laws.proofs.Laws.{by_case, last_of-push}
use Rattle.perf_processes.specs.declared.change.Change.TheVariants.{Mapped, Named, Executed, Started, Ended}
use Rattle.perf_processes.specs.declared.change.MappedFile.{MappedFile}
use Rattle.perf_processes.specs.Changes.{contains}
use Rattle.perf_processes.specs.Processes.{after_change, copied_to, covers, end_thread, has_process, is_kept_by, is_mapped_by, mapping_at, maps_other, processes_after}
use Rattle.perf_processes.specs.Mapped.{MappedByChanges, mapped_by}
use Rattle.perf_processes.proofs.Filters.{filter-twice, filter-none, filter-mapped, last_of-map}

-- ---- tests of one mapping

-- an address of a covered mapping is one of the covering one
covering : (pid address : ℕ) (mapped x : MappedFile) → covers mapped x ≡ true → contains pid address x ≡ true → contains pid address mapped ≡ true
covering pid address mapped x over there = grind (arith, nat_tests)

-- what doesn't have the address takes nothing away that has it
keeps : (pid address : ℕ) (mapped : MappedFile) → contains pid address mapped ≡ false → (x : MappedFile)
    → (is_kept_by mapped x && contains pid address x) ≡ contains pid address x
keeps pid address mapped misses x =
    by_case (covers mapped x)
    (λ over. by_case (contains pid address x)
    (λ there. let is = covering pid address mapped x over there in cc)
    (λ not_there. rw (over, not_there) refl))
    (λ free. rw free refl)

-- what another process has mapped, of those that a process has
other-none : (pid address : ℕ) (x : MappedFile) → (maps_other pid x && contains pid address x) ≡ false
other-none pid address x = by_case (x.pid == pid) (λ is. rw is refl) (λ is. rw is refl)

other-same : (gone pid address : ℕ) → (gone == pid) ≡ false → (x : MappedFile) → (maps_other gone x && contains pid address x) ≡ contains pid address x
other-same gone pid address differ x =
    by_case (x.pid == gone)
    (λ is. let other : (x.pid == pid) ≡ false = grind (arith, nat_tests) in rw (is, other) refl)
    (λ is. rw is refl)

-- a copy has the addresses of the original
copy-same : (child parent address : ℕ) (x : MappedFile) → (is_mapped_by parent x && contains child address (copied_to child x)) ≡ contains parent address x
copy-same child parent address x = let same : (child == child) ≡ true = grind (arith, nat_tests) in by_case (x.pid == parent) (λ is. rw (is, same) refl) (λ is. rw is refl)

copy-none : (child pid address : ℕ) → (child == pid) ≡ false → (x : MappedFile) → contains pid address (copied_to child x) ≡ false
copy-none child pid address differ x = rw differ refl

-- ---- lists of mappings

module _ (pid address : ℕ) (xs : List MappedFile) where
  pub mapped-here : (mapped : MappedFile) → contains pid address mapped ≡ true → mapping_at pid address (filter (is_kept_by mapped) xs ++ mapped ∷ []) ≡ Some mapped
  unfolding mapping_at
  mapped-here mapped is =
      let last : filter (contains pid address) (mapped ∷ []) ≡ mapped ∷ [] = rw is refl in
      rw (filter-append (contains pid address) (filter (is_kept_by mapped) xs) (mapped ∷ []), last)
      (last_of-push (filter (contains pid address) (filter (is_kept_by mapped) xs)) mapped)

  pub mapped-elsewhere : (mapped : MappedFile) → contains pid address mapped ≡ false → mapping_at pid address (filter (is_kept_by mapped) xs ++ mapped ∷ []) ≡ mapping_at pid address xs
  unfolding mapping_at
  mapped-elsewhere mapped is =
      let last : filter (contains pid address) (mapped ∷ []) ≡ [] = rw is refl in
      rw (filter-append (contains pid address) (filter (is_kept_by mapped) xs) (mapped ∷ []), last, append-nil (filter (contains pid address) (filter (is_kept_by mapped) xs)))
      (ap last_of (filter-twice (contains pid address) (is_kept_by mapped) (contains pid address) (keeps pid address mapped is) xs))

  none-left : filter (contains pid address) (filter (maps_other pid) xs) ≡ []
  none-left =
      filter-twice (contains pid address) (maps_other pid) (λ x. false) (other-none pid address) xs ∙ filter-none (λ (x : MappedFile). false) (λ x. refl) xs

  all-left : (gone : ℕ) → (gone == pid) ≡ false → filter (contains pid address) (filter (maps_other gone) xs) ≡ filter (contains pid address) xs
  all-left gone differ = filter-twice (contains pid address) (maps_other gone) (contains pid address) (other-same gone pid address differ) xs

  pub gone-here : (gone : ℕ) → (gone == pid) ≡ true → mapping_at pid address (filter (maps_other gone) xs) ≡ None
  unfolding mapping_at
  gone-here gone same =
      let is : gone ≡ pid = grind (arith, nat_tests) in
      rw (is, none-left) refl

  pub gone-elsewhere : (gone : ℕ) → (gone == pid) ≡ false → mapping_at pid address (filter (maps_other gone) xs) ≡ mapping_at pid address xs
  unfolding mapping_at
  gone-elsewhere gone differ = ap last_of (all-left gone differ)

-- what a new process has mapped
module _ (child parent : ℕ) (differ : (child == parent) ≡ false) (address : ℕ) (xs : List MappedFile) where
  others : List MappedFile
  others = filter (maps_other child) xs

  copies : List MappedFile
  copies = map (copied_to child) (filter (is_mapped_by parent) (filter (maps_other child) xs))

  copied-here : filter (contains child address) (map (copied_to child) (filter (is_mapped_by parent) (filter (maps_other child) xs))) ≡ map (copied_to child) (filter (contains parent address) xs)
  copied-here =
      filter-mapped (copied_to child) (contains child address) (filter (is_mapped_by parent) (filter (maps_other child) xs))
      ∙ ap (map (copied_to child)) (filter-twice (λ x. contains child address (copied_to child x)) (is_mapped_by parent) (contains parent address) (copy-same child parent address) (filter (maps_other child) xs)
      ∙ filter-twice (contains parent address) (maps_other child) (contains parent address) (other-same child parent address differ) xs)

  pub started-here : mapping_at child address (filter (maps_other child) xs ++ map (copied_to child) (filter (is_mapped_by parent) (filter (maps_other child) xs))) ≡ option_map (copied_to child) (mapping_at parent address xs)
  unfolding mapping_at
  started-here =
      rw (filter-append (contains child address) (filter (maps_other child) xs) (map (copied_to child) (filter (is_mapped_by parent) (filter (maps_other child) xs))), none-left child address xs, copied-here)
      (last_of-map (copied_to child) (filter (contains parent address) xs))

  pub started-elsewhere : (pid : ℕ) → (child == pid) ≡ false
      → mapping_at pid address (filter (maps_other child) xs ++ map (copied_to child) (filter (is_mapped_by parent) (filter (maps_other child) xs))) ≡ mapping_at pid address xs
  unfolding mapping_at
  started-elsewhere pid other =
      let none : filter (contains pid address) (map (copied_to child) (filter (is_mapped_by parent) (filter (maps_other child) xs))) ≡ [] =
      filter-mapped (copied_to child) (contains pid address) (filter (is_mapped_by parent) (filter (maps_other child) xs))
      ∙ ap (map (copied_to child)) (filter-none (λ x. contains pid address (copied_to child x)) (copy-none child pid address other) (filter (is_mapped_by parent) (filter (maps_other child) xs))) in
      rw (filter-append (contains pid address) (filter (maps_other child) xs) (map (copied_to child) (filter (is_mapped_by parent) (filter (maps_other child) xs))), none, append-nil (filter (contains pid address) (filter (maps_other child) xs)))
      (ap last_of (all-left pid address xs child other))

-- ---- after all changes

nothing-mapped : (pid address : ℕ) → mapping_at pid address [] ≡ None
unfolding mapping_at
nothing-mapped pid address = refl

pub mapped-by-changes : MappedByChanges
unfolding processes_after after_change mapped_by
mapped-by-changes [] pid address = nothing-mapped pid address
mapped-by-changes (Mapped mapped ∷ earlier) pid address =
    let xs = (processes_after earlier).mappings in
    by_case (contains pid address mapped)
    (λ is. rw is (mapped-here pid address xs mapped is))
    (λ is. rw is (mapped-elsewhere pid address xs mapped is ∙ mapped-by-changes earlier pid address))
mapped-by-changes (Named named ∷ earlier) pid address = mapped-by-changes earlier pid address
mapped-by-changes (Executed named ∷ earlier) pid address =
    let xs = (processes_after earlier).mappings in
    by_case (named.thread.pid == pid)
    (λ is. rw is (gone-here pid address xs named.thread.pid is))
    (λ is. rw is (gone-elsewhere pid address xs named.thread.pid is ∙ mapped-by-changes earlier pid address))
mapped-by-changes (Started task ∷ earlier) pid address =
    let xs = (processes_after earlier).mappings in
    by_case (task.pid == task.parent_pid)
    (λ thread. by_case (task.pid == pid)
    (λ is. rw (thread, is) (mapped-by-changes earlier pid address))
    (λ is. rw (thread, is) (mapped-by-changes earlier pid address)))
    (λ process. by_case (task.pid == pid)
    (λ is. rw (process, is) (let same : task.pid ≡ pid = grind (arith, nat_tests) in
    rw (← same) (started-here task.pid task.parent_pid process address xs ∙ ap (option_map (copied_to task.pid)) (mapped-by-changes earlier task.parent_pid address))))
    (λ is. rw (process, is) (started-elsewhere task.pid task.parent_pid process address xs pid is ∙ mapped-by-changes earlier pid address)))
mapped-by-changes (Ended task ∷ earlier) pid address =
    let state = processes_after earlier in
    by_case (has_process task.pid (end_thread task state).threads)
    (λ some. by_case (task.pid == pid)
    (λ is. rw (some, is) (mapped-by-changes earlier pid address))
    (λ is. rw (some, is) (mapped-by-changes earlier pid address)))
    (λ none. by_case (task.pid == pid)
    (λ is. rw (none, is) (gone-here pid address state.mappings task.pid is))
    (λ is. rw (none, is) (gone-elsewhere pid address state.mappings task.pid is ∙ mapped-by-changes earlier pid address)))
