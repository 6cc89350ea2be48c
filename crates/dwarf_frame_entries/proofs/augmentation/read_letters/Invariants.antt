use Rattle.std.proofs.Common.{◌≡◌, length, option_map}
use Rattle.dwarf_frame_rows.specs.EncodedPointer.{origins_of}
use Rattle.dwarf_frame_entries.specs.Augmentations.{no_letters, with_letters}
use Rattle.dwarf_frame_entries.specs.LetterViews.{IsAfterStart, letters_view}
use Rattle.dwarf_frame_entries.proofs.augmentation.read_letters.Given as goal

abbrev pub invariant-loop-letters : goal.invariant-loop-letters
invariant-loop-letters g l =
    let stretch = g.R.Reader.stretch in
    let origins = origins_of stretch l.parameters in
    record {
      said : with_letters origins (stretch l.fn.text).bytes (no_letters (option_map stretch l.fn.left)) ≡ with_letters origins (stretch l.letters).bytes (letters_view stretch l.read);
      placed : IsAfterStart (stretch l.parameters.section.now) (letters_view stretch l.read);
    }

abbrev pub decreases-loop-letters : goal.decreases-loop-letters
decreases-loop-letters g l = length (g.R.Reader.stretch l.letters).bytes
