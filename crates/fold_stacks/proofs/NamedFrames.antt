-- Numbers that are kept stay those of names.
use Rattle.std.proofs.Common.{◌≡◌, ℕ, List, refl, Option, Some, None, Result, Ok, Err}
use Rattle.std.specs.Prelude.{slice_get, IfOk}
use Rattle.std.specs.declared.alloc.AllocError.{AllocError}
use Rattle.kernel_symbols.specs.Lines.{SymbolParts}
use Rattle.fold_stacks.specs.FrameNames.{FileNames, HasName, KeepsFiles, KeepsLabels, LabelState, NamesKernel, NamesPlace, NamesUnknown, kernel_text, known_file, place_text}
use Rattle.fold_stacks.specs.FrameTexts.{unknown_text}
use Rattle.fold_stacks.specs.Kept.{KeepsNumbers, StaysKnown}
use Rattle.fold_stacks.specs.KnownFiles.{AreNamed}
use Rattle.fold_stacks.specs.Places.{PutsNumber}
use Rattle.fold_stacks.specs.declared.places.PlaceKey.{PlaceKey}
use Rattle.fold_stacks.proofs.PlaceSlots.{put-all}

module _ (old new : List (List ℕ)) (kept : KeepsNumbers old new) where
  pub place-kept : (before after : Option FileNames) → StaysKnown before after → (address number : ℕ) → NamesPlace old before address number
      → NamesPlace new after address number
  place-kept None after stays address number is = absurd is
  place-kept (Some known) after stays address number is = rw (stays known refl) (kept number (place_text known address) is)

  pub kernel-kept : (before after : Option (List SymbolParts)) → StaysKnown before after → (address number : ℕ) → NamesKernel old before address number
      → NamesKernel new after address number
  kernel-kept None after stays address number is = absurd is
  kernel-kept (Some symbols) after stays address number is = rw (stays symbols refl) (kept number (kernel_text symbols address) is)

  -- with more names
  pub named-kept : (files files_after : List (ℕ × FileNames)) (kernel kernel_after : Option (List SymbolParts)) (places kernel_places : List (PlaceKey × ℕ))
      → KeepsFiles files files_after → StaysKnown kernel kernel_after → AreNamed old files kernel places kernel_places
      → AreNamed new files_after kernel_after places kernel_places
  named-kept files files_after kernel kernel_after places kernel_places keeps stays are = record {
    in_files = λ place number is. place-kept (known_file files place.file) (known_file files_after place.file) (keeps place.file) place.address number (are.in_files place number is);
    in_kernel = λ place number is. kernel-kept kernel kernel_after stays place.address number (are.in_kernel place number is);
  }

module _ (names : List (List ℕ)) (files : List (ℕ × FileNames)) (kernel : Option (List SymbolParts)) (places kernel_places : List (PlaceKey × ℕ))
    (are : AreNamed names files kernel places kernel_places) (place : PlaceKey) (number : ℕ) where
  -- with a place in a file
  pub named-place : (after : List (PlaceKey × ℕ)) → PutsNumber place number places after → NamesPlace names (known_file files place.file) place.address number
      → AreNamed names files kernel after kernel_places
  named-place after puts is = record {
    in_files = put-all (λ other n. NamesPlace names (known_file files other.file) other.address n) places after place number puts is are.in_files;
    in_kernel = are.in_kernel;
  }

  -- with a place in the kernel
  pub named-kernel : (after : List (PlaceKey × ℕ)) → PutsNumber place number kernel_places after → NamesKernel names kernel place.address number
      → AreNamed names files kernel places after
  named-kernel after puts is = record {
    in_files = are.in_files;
    in_kernel = put-all (λ other n. NamesKernel names kernel other.address n) kernel_places after place number puts is are.in_kernel;
  }

-- ---- states

pub files-stay : (files : List (ℕ × FileNames)) → KeepsFiles files files
files-stay files file known is = is

pub labels-stay : (state : LabelState) → KeepsLabels state state
labels-stay state = record { names = λ number known is. is; files = λ file known is. is; kernel = λ known is. is }

pub labels-twice : (one two three : LabelState) → KeepsLabels one two → KeepsLabels two three → KeepsLabels one three
labels-twice one two three first second = record {
  names = λ number known is. second.names number known (first.names number known is);
  files = λ file known is. second.files file known (first.files file known is);
  kernel = λ known is. second.kernel known (first.kernel known is);
}

-- ---- functions that aren't known

pub unknown-named : (names : List (List ℕ)) (file : List ℕ) (number : Result ℕ AllocError) → IfOk number (λ number. HasName names number (unknown_text file))
    → IfOk number (NamesUnknown names)
unknown-named names file (Ok number) is = (file, is)
unknown-named names file (Err error) is = tt
