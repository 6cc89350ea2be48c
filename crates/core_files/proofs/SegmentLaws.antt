-- What segments have, one by one.
use Rattle.std.proofs.Common.{◌≡◌, ℕ, true, false, suc, ◌+◌, ◌-◌, ◌<◌, List, [], ◌∷◌, ◌++◌, refl, ap, ◌∙◌, append_assoc, arith}
use Rattle.std.proofs.lemmas.List.{map-append}
use Rattle.std.specs.Prelude.{Result, Ok, Err}
use Rattle.elf_files.specs.Bytes.{ElfResult}
use Rattle.elf_files.specs.Notes.{NoteParts, notes_with}
use Rattle.elf_files.specs.Segments.{is_note_segment, segment_at}
use Rattle.elf_files.specs.declared.error.ElfError.{ElfError}
use Rattle.elf_files.specs.declared.header.Header.{Header}
use Rattle.elf_files.specs.declared.segment.Segment.{Segment}
use Rattle.core_files.specs.CoreFiles.{all_ok, gather, in_segment, is_loaded, loaded_in, loaded_range, notes_in}
use Rattle.elf_files.specs.declared.note.Note.{Note as NoteRead}
use Rattle.elf_files.specs.NoteViews.{note_seen}
use Rattle.core_files.specs.declared.error.CoreError.TheVariants.{Elf}
use Rattle.core_files.specs.NoteViews.{notes_seen}
use Rattle.core_files.specs.Refusals.{CoreResult, then_more, one, by_elf}
use Rattle.core_files.proofs.Growing.{after, after-end, after-step, elf-more}

module _ {A E : Type 0} where
  pub gather-end : (give : ℕ → Result (List A) E) (i n : ℕ) → n ≡ 0 → gather give i n ≡ Ok []
  unfolding gather
  gather-end give i n none = rw none refl

  pub gather-step : (give : ℕ → Result (List A) E) (i n m : ℕ) → n ≡ suc m → gather give i n ≡ then_more (give i) (gather give (i + 1) m)
  unfolding gather
  gather-step give i n m is = rw is refl

  pub all-end : (values : List (Result A E)) → values ≡ [] → all_ok values ≡ Ok []
  unfolding all_ok
  all-end values is = rw is refl

  pub all-step : (values others : List (Result A E)) (value : Result A E) → values ≡ value ∷ others → all_ok values ≡ then_more (one value) (all_ok others)
  unfolding all_ok
  all-step values others value is = rw is refl

-- the next of what all segments have
pub gathered : {A : Type 0} (give : ℕ → ElfResult (List A)) (whole : CoreResult (List A)) (done : List A) (i n : ℕ) → i < n → whole ≡ after done (by_elf (gather give i (n - i)))
    → whole ≡ after done (then_more (by_elf (give i)) (by_elf (gather give (i + 1) (n - (i + 1)))))
gathered {A} give whole done i n within is =
    is ∙ ap (λ (left : ElfResult (List A)). after done (by_elf left)) (gather-step give i (n - i) (n - (i + 1)) (omega arith))
    ∙ ap (λ (left : CoreResult (List A)). after done left) (elf-more (give i) (gather give (i + 1) (n - (i + 1))))

-- ---- the segment with an index

module _ {A : Type 0} (part : Segment → ElfResult (List A)) (bytes : List ℕ) (header : Header) (index : ℕ) where
  pub segment-gives : (segment : Segment) → Ok segment ≡ segment_at bytes header index → in_segment part bytes header index ≡ part segment
  segment-gives segment at = rw (← at) refl

module _ (read : Segment → ElfResult (List ℕ)) (segment : Segment) where
  pub loaded-other : is_loaded segment.kind ≡ false → loaded_in read segment ≡ Ok []
  loaded-other is = rw is refl

  pub loaded-here : (found : List ℕ) → is_loaded segment.kind ≡ true → read segment ≡ Ok found → loaded_in read segment ≡ Ok (loaded_range segment found ∷ [])
  loaded-here found is at = rw (is, at) refl

  pub noted-other : is_note_segment segment.kind ≡ false → notes_in read segment ≡ Ok []
  noted-other is = rw is refl

  pub noted-here : (found : List ℕ) (left : List (Result NoteParts ElfError)) → is_note_segment segment.kind ≡ true → read segment ≡ Ok found → left ≡ notes_with found segment → notes_in read segment ≡ all_ok left
  noted-here found left is at same = rw (is, at, same) refl

-- ---- the notes of a segment one by one

module _ (whole : CoreResult (List NoteParts)) (pushed : List NoteParts) (before rest : List (Result NoteParts ElfError)) (is : whole ≡ after pushed (by_elf (all_ok before))) where
  pub left-step : (part : NoteParts) → before ≡ Ok part ∷ rest → whole ≡ after (pushed ++ part ∷ []) (by_elf (all_ok rest))
  left-step part at =
      after-step whole (Ok (part ∷ [])) (by_elf (all_ok rest)) pushed (part ∷ []) (pushed ++ part ∷ [])
      (is ∙ ap (λ (l : ElfResult (List NoteParts)). after pushed (by_elf l)) (all-step before rest (Ok part) at) ∙ ap (λ (l : CoreResult (List NoteParts)). after pushed l) (elf-more (Ok (part ∷ [])) (all_ok rest)))
      refl refl

  pub left-fail : (error : ElfError) → before ≡ Err error ∷ [] → whole ≡ Err (Elf error)
  left-fail error at = is ∙ ap (λ (l : ElfResult (List NoteParts)). after pushed (by_elf l)) (all-step before [] (Err error) at)

  pub left-end : before ≡ [] → whole ≡ Ok pushed
  left-end at = after-end whole pushed (is ∙ ap (λ (l : ElfResult (List NoteParts)). after pushed (by_elf l)) (all-end before at))

pub notes-grown : (old items new : List NoteRead) (pushed : List NoteParts) (note : NoteRead) → notes_seen items ≡ notes_seen old ++ pushed → new ≡ items ++ note ∷ [] → notes_seen new ≡ notes_seen old ++ (pushed ++ note_seen note ∷ [])
notes-grown old items new pushed note is at =
    ap (λ (l : List NoteRead). notes_seen l) at ∙ map-append note_seen items (note ∷ []) ∙ ap (λ (l : List NoteParts). l ++ note_seen note ∷ []) is ∙ append_assoc (notes_seen old) pushed (note_seen note ∷ [])
