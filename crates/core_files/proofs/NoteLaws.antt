-- The notes of a core one by one.
use Rattle.std.proofs.Common.{◌≡◌, ℕ, suc, ◌+◌, ◌<◌, ◌≤◌, true, false, List, [], ◌∷◌, length, get_or, drop, refl, ap, sym, ◌∙◌, arith, drop-cons, add-one}
use Rattle.std.specs.Prelude.{Some, None, Ok, Err, codes}
use Rattle.std.proofs.lemmas.List.{get_or-map, length-map, drop_all}
use Rattle.elf_files.specs.declared.header.Machine.{Machine}
use Rattle.elf_files.specs.declared.note.Note.{Note}
use Rattle.elf_files.specs.Notes.{NoteParts}
use Rattle.elf_files.specs.NoteViews.{note_seen}
use Rattle.core_files.specs.declared.error.CoreError.{CoreError}
use Rattle.core_files.specs.declared.thread.Thread.{Thread}
use Rattle.core_files.specs.MappedFiles.{mapped_files}
use Rattle.core_files.specs.NoteViews.{notes_seen}
use Rattle.core_files.specs.Notes.{is_prstatus, is_pac_mask, is_file_table, is_note, masks_of, thread_of, thread_at, threads_of, files_of, descriptor_of}
use Rattle.core_files.specs.PacMask.{pac_masks}
use Rattle.core_files.specs.Refusals.{result_and_then, then_more, by_note}

-- what is left begins with the note at that place
pub notes-at : (notes : List Note) (i : ℕ) (d : Note) → i < length notes → drop i (notes_seen notes) ≡ note_seen (get_or notes i d) ∷ drop (i + 1) (notes_seen notes)
notes-at notes i d within =
    let inside : i < length (notes_seen notes) = omega (arith, length-map notes note_seen) in
    drop-cons (notes_seen notes) i (note_seen d) inside
    ∙ ap (λ (note : NoteParts). note ∷ drop (suc i) (notes_seen notes)) (get_or-map note_seen notes i d (note_seen d) within)
    ∙ ap (λ (n : ℕ). note_seen (get_or notes i d) ∷ drop n (notes_seen notes)) (sym (add-one i))

pub notes-end : (notes : List Note) (i : ℕ) → length notes ≤ i → drop i (notes_seen notes) ≡ []
notes-end notes i past = drop_all i (notes_seen notes) (omega (arith, length-map notes note_seen))

module _ (number : ℕ) (left : List NoteParts) where
  pub masks-end : left ≡ [] → masks_of number left ≡ Ok None
  unfolding masks_of
  masks-end is = rw is refl

  pub files-end : left ≡ [] → files_of number left ≡ Ok []
  unfolding files_of
  files-end is = rw is refl

  pub kind-end : (kind : ℕ) → left ≡ [] → descriptor_of kind left ≡ []
  unfolding descriptor_of
  kind-end kind is = rw is refl

  pub threads-end : (machine : Machine) → left ≡ [] → threads_of machine number left ≡ Ok []
  unfolding threads_of
  threads-end machine is = rw is refl

module _ (notes : List Note) (i : ℕ) (d : Note) (within : i < length notes) where
  pub masks-next : true ≡ is_prstatus (note_seen (get_or notes i d)) → masks_of i (drop i (notes_seen notes)) ≡ Ok None
  unfolding masks_of
  masks-next is = rw (notes-at notes i d within, ← is) refl

  pub masks-here : false ≡ is_prstatus (note_seen (get_or notes i d)) → true ≡ is_pac_mask (note_seen (get_or notes i d))
      → masks_of i (drop i (notes_seen notes)) ≡ result_and_then (by_note i (pac_masks (get_or notes i d).descriptor.now)) (λ masks. Ok (Some masks))
  unfolding masks_of
  masks-here not is = rw (notes-at notes i d within, ← not, ← is) refl

  pub masks-later : false ≡ is_prstatus (note_seen (get_or notes i d)) → false ≡ is_pac_mask (note_seen (get_or notes i d)) → masks_of i (drop i (notes_seen notes)) ≡ masks_of (i + 1) (drop (i + 1) (notes_seen notes))
  unfolding masks_of
  masks-later not other = rw (notes-at notes i d within, ← not, ← other) refl

  pub files-here : true ≡ is_file_table (note_seen (get_or notes i d)) → files_of i (drop i (notes_seen notes)) ≡ by_note i (mapped_files (get_or notes i d).descriptor.now)
  unfolding files_of
  files-here is = rw (notes-at notes i d within, ← is) refl

  pub files-later : false ≡ is_file_table (note_seen (get_or notes i d)) → files_of i (drop i (notes_seen notes)) ≡ files_of (i + 1) (drop (i + 1) (notes_seen notes))
  unfolding files_of
  files-later not = rw (notes-at notes i d within, ← not) refl

  pub kind-here : (kind : ℕ) → true ≡ is_note (codes "CORE") kind (note_seen (get_or notes i d)) → descriptor_of kind (drop i (notes_seen notes)) ≡ (get_or notes i d).descriptor.now
  unfolding descriptor_of
  kind-here kind is = rw (notes-at notes i d within, ← is) refl

  pub kind-later : (kind : ℕ) → false ≡ is_note (codes "CORE") kind (note_seen (get_or notes i d))
      → descriptor_of kind (drop i (notes_seen notes)) ≡ descriptor_of kind (drop (i + 1) (notes_seen notes))
  unfolding descriptor_of
  kind-later kind not = rw (notes-at notes i d within, ← not) refl

  pub threads-step : (machine : Machine)
      → threads_of machine i (drop i (notes_seen notes)) ≡ then_more (thread_at machine i (note_seen (get_or notes i d)) (drop (i + 1) (notes_seen notes))) (threads_of machine (i + 1) (drop (i + 1) (notes_seen notes)))
  unfolding threads_of
  threads-step machine = rw (notes-at notes i d within) refl

module _ (machine : Machine) (number : ℕ) (note : NoteParts) (rest : List NoteParts) where
  pub thread-none : false ≡ is_prstatus note → thread_at machine number note rest ≡ Ok []
  thread-none not = rw (← not) refl

  pub thread-some : (thread : Thread) → true ≡ is_prstatus note → thread_of machine number note rest ≡ Ok thread → thread_at machine number note rest ≡ Ok (thread ∷ [])
  thread-some thread is at = rw (← is, at) refl

  pub thread-fail : (error : CoreError) → true ≡ is_prstatus note → thread_of machine number note rest ≡ Err error → thread_at machine number note rest ≡ Err error
  thread-fail error is at = rw (← is, at) refl
