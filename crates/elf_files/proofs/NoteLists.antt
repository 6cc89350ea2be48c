-- The list of notes, one read after the other.
use Rattle.std.proofs.Common.{◌≡◌, ℕ, ◌+◌, ◌<◌, ◌≤◌, length, true, false, List, [], drop, Option, Some, None, Result, Ok, Err, refl, ap, arith, length-drop}
use Rattle.std.specs.Prelude.{◌==◌}
use Rattle.std.proofs.lemmas.Bool.Decides.{nat_tests}
use Rattle.list_laws.specs.Items.{GivesNext, LeavesNone, Shrinks, step_taken}
use Rattle.list_laws.proofs.Laws.{by_case, gives-next}
use Rattle.elf_files.specs.declared.error.ElfError.{ElfError}
use Rattle.elf_files.specs.declared.error.ElfError.TheVariants.{Truncated}
use Rattle.elf_files.specs.declared.note.Note.{Note}
use Rattle.elf_files.specs.Notes.{NoteParts, NoteBytes, after_note, next_note, note_from, note_is_whole, note_size, notes_of}
use Rattle.elf_files.specs.NoteViews.{IsNoteOf, note_seen}

-- a note that is whole takes some bytes
takes_some : (alignment : ℕ) (bytes : List ℕ) → note_is_whole alignment bytes ≡ true → (0 < note_size alignment bytes) × (0 < length bytes)
takes_some alignment bytes whole =
    let header : 12 ≤ length bytes = grind (arith, nat_tests) in
    (omega arith, omega arith)

drops : (n : ℕ) (bytes : List ℕ) → 0 < n → 0 < length bytes → length (drop n bytes) < length bytes
drops n bytes some more = rw length-drop (omega arith)

-- and leaves fewer
leaves_fewer : (alignment : ℕ) (s rest : NoteBytes) (note : NoteParts) → next_note alignment s ≡ Ok (Some (note, rest)) → length rest.bytes < length s.bytes
leaves_fewer alignment s rest note is =
    by_case (length s.bytes == 0)
    (λ empty. let none : next_note alignment s ≡ Ok None = rw empty refl in cc)
    (λ some. by_case (note_is_whole alignment s.bytes)
    (λ whole.
    let step : next_note alignment s ≡ Ok (Some (note_from alignment s.bytes, after_note alignment s)) = rw (some, whole) refl in
    let both : (note, rest) ≡ (note_from alignment s.bytes, after_note alignment s) = cc in
    let left : rest ≡ after_note alignment s = ap (λ (read : NoteParts × NoteBytes). read.1) both in
    let (takes, more) = takes_some alignment s.bytes whole in
    rw left (drops (note_size alignment s.bytes) s.bytes takes more))
    (λ cut. let step : next_note alignment s ≡ Err (Truncated s.offset) = rw (some, cut) refl in cc))

notes_shrink : (alignment : ℕ) → Shrinks (λ left. length left.bytes) (next_note alignment)
notes_shrink alignment = record { smaller = λ s rest note is. leaves_fewer alignment s rest note is }

-- a call of next, by the step that it takes
next_taken : (alignment : ℕ) (result : Result (Option Note) ElfError) (s rest : NoteBytes) → next_note alignment s ≡ step_taken note_seen result rest
    → LeavesNone result (next_note alignment rest) → GivesNext note_seen result (notes_of alignment s) (notes_of alignment rest)
unfolding notes_of
next_taken alignment result s rest is none = gives-next (λ left. length left.bytes) (next_note alignment) (notes_shrink alignment) note_seen result s rest is none

-- no bytes are no notes
none_there : (alignment : ℕ) (s : NoteBytes) → (length s.bytes == 0) ≡ true → next_note alignment s ≡ Ok None
none_there alignment s empty = rw empty refl

pub none_left : (alignment : ℕ) (s : NoteBytes) → (length s.bytes == 0) ≡ true
    → GivesNext note_seen (Ok None) (notes_of alignment s) (notes_of alignment s)
none_left alignment s empty = let none = none_there alignment s empty in next_taken alignment (Ok None) s s none none

-- a note that was read is the first
pub one_read : (alignment : ℕ) (s : NoteBytes) (note : Note) (size : ℕ) → (length s.bytes == 0) ≡ false → IsNoteOf alignment s.bytes note size
    → GivesNext note_seen (Ok (Some note)) (notes_of alignment s) (notes_of alignment (record { bytes = drop size s.bytes; offset = s.offset + size }))
one_read alignment s note size some is =
    let rest : NoteBytes = record { bytes = drop size s.bytes; offset = s.offset + size } in
    let step : next_note alignment s ≡ step_taken note_seen (Ok (Some note)) rest = rw (some, is.whole, is.parts, is.takes) refl in
    next_taken alignment (Ok (Some note)) s rest step tt

-- a note that is cut off is the last
pub none_read : (alignment : ℕ) (s : NoteBytes) → (length s.bytes == 0) ≡ false → note_is_whole alignment s.bytes ≡ false
    → GivesNext note_seen (Err (Truncated s.offset)) (notes_of alignment s) (notes_of alignment (record { bytes = []; offset = s.offset }))
none_read alignment s some cut =
    let rest : NoteBytes = record { bytes = []; offset = s.offset } in
    let step : next_note alignment s ≡ Err (Truncated s.offset) = rw (some, cut) refl in
    next_taken alignment (Err (Truncated s.offset)) s rest step (none_there alignment rest refl)
