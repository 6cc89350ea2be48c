-- The state of reading the letters of an augmentation, as a value of the definitions.
use Rattle.std.specs.Prelude.{ℕ, ◌≤◌, IfSome, Option, option_map, Result}
use Rattle.dwarf_constants.specs.declared.error.Error.{Error}
use Rattle.dwarf_endianity.specs.Answers.{Gives}
use Rattle.dwarf_readers.specs.Stretch.{Stretch}
use Rattle.dwarf_frame_rows.specs.EncodedPointer.{origins_of}
use Rattle.dwarf_frame_rows.specs.declared.pointer.PointerEncodingParameters.{PointerEncodingParameters}
use Rattle.dwarf_frame_entries.specs.Augmentations.{Letters, augmentation_at, augmentation_by_letters, letter_with_data, with_letter}
use Rattle.dwarf_frame_entries.specs.PointerViews.{ReadsIn}
use Rattle.dwarf_frame_entries.specs.declared.augmentation.Augmentation.{Augmentation}
use Rattle.dwarf_frame_entries.specs.declared.augmentation.LettersRead.{LettersRead}

-- what the letters so far say, and the data that is left
abbrev pub letters_view : {R E O : Type 0} → (R → Stretch) → LettersRead R E O → Letters
letters_view stretch read = record { augmentation = read.augmentation; left = option_map stretch read.left }

-- The code read what one more letter says.
abbrev pub ReadsLetter : {R E O : Type 0} → (R → Stretch) → PointerEncodingParameters R → ℕ → LettersRead R E O → Result (Unit {0}) Error
    → LettersRead R E O → Type 0
ReadsLetter stretch parameters letter old result new =
    Gives (λ _. letters_view stretch new) result (with_letter (origins_of stretch parameters) letter (letters_view stretch old))

-- The code read what a letter says by its data, the start of what is left of them.
abbrev pub ReadsLetterData : {R E O : Type 0} → (R → Stretch) → PointerEncodingParameters R → ℕ → LettersRead R E O → R
    → Result (Unit {0}) Error → LettersRead R E O → Type 0
ReadsLetterData stretch parameters letter old left result new =
    Gives (λ _. letters_view stretch new) result
    (letter_with_data (origins_of stretch parameters) letter old.augmentation (stretch left))

-- The code read an augmentation by these letters and their data, if they have any.
abbrev pub ReadsLetters : {R : Type 0} → (R → Stretch) → PointerEncodingParameters R → R → Option R → Result Augmentation Error → Type 0
ReadsLetters stretch parameters text left result =
    Gives (λ augmentation. augmentation) result
    (augmentation_by_letters (origins_of stretch parameters) (stretch text).bytes (option_map stretch left))

-- The code read an augmentation with this string.
abbrev pub ReadsAugmentation : {R : Type 0} → (R → Stretch) → (limit : ℕ) → PointerEncodingParameters R → R → R
    → Result (Option Augmentation) Error → R → Type 0
ReadsAugmentation stretch limit parameters text old result new =
    ReadsIn stretch parameters (λ origins. augmentation_at limit origins (stretch text).bytes) old result new

-- The data that is left, if there is any, doesn't begin before the section's start.
abbrev pub IsAfterStart : Stretch → Letters → Type 0
IsAfterStart section letters = IfSome letters.left (λ left. section.offset ≤ left.offset)
