use Rattle.std.proofs.Common.{◌≡◌, length, false, sym, ◌∙◌}
use Rattle.std.specs.Prelude.{◌==◌}
use Rattle.elf_files.specs.Notes.{NoteBytes}
use Rattle.elf_files.proofs.NoteLists.{none_left, one_read, none_read}
use Rattle.elf_files.proofs.note.Notes.next.Goals as goal

pub returns-then-is_empty : goal.returns-then-is_empty
returns-then-is_empty c =
    let s : NoteBytes = record { bytes = c.self.inside.bytes.now; offset = c.self.inside.offset } in
    let next = none_left c.self.inside.alignment s (sym c.is_empty.ensures ∙ c.if-is_empty.true) in
    (sym c.self.view_is ∙ next.0, sym c.self.view_is ∙ next.1)

pub returns-in-Some : goal.returns-in-Some
returns-in-Some c =
    let s : NoteBytes = record { bytes = c.self.inside.bytes.now; offset = c.self.inside.offset } in
    let some : (length s.bytes == 0) ≡ false = sym c.is_empty.ensures ∙ c.if-is_empty.false in
    sym c.self.view_is ∙ rw c.bytes_after-rest.ensures (one_read c.self.inside.alignment s c.in-Some.note c.in-Some.size some c.in-Some.ensures)

pub returns-in-None : goal.returns-in-None
returns-in-None c =
    let s : NoteBytes = record { bytes = c.self.inside.bytes.now; offset = c.self.inside.offset } in
    let some : (length s.bytes == 0) ≡ false = sym c.is_empty.ensures ∙ c.if-is_empty.false in
    let next = none_read c.self.inside.alignment s some c.in-None.ensures in
    (sym c.self.view_is ∙ next.0, next.1)
