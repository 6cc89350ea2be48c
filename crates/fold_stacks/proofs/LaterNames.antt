-- Names that have their numbers later.
use Rattle.std.proofs.Common.{◌≡◌, ℕ, ◌+◌, ◌<◌, Bool, true, false, List, [], ◌∷◌, ◌++◌, length, take, get_or, sym, subst, Option, Some, None}
use Rattle.std.proofs.lemmas.List.{take_more}
use Rattle.std.specs.List.{AllZip}
use Rattle.sample_stacks.specs.declared.modules.CodePlace.{CodePlace}
use Rattle.fold_stacks.specs.FrameNames.{KeepsLabels, LabelState, NamesFrame, NamesIfPlaced, NamesKernelFrame, address_text, known_file}
use Rattle.fold_stacks.specs.FrameTexts.{unknown_text}
use Rattle.fold_stacks.specs.declared.frames.UserFrame.{UserFrame}
use Rattle.fold_stacks.proofs.NamedFrames.{kernel-kept, place-kept}

module _ (old new : LabelState) (kept : KeepsLabels old new) where
  placed-later : (place : Option CodePlace) (number : ℕ) → NamesIfPlaced old place number → NamesIfPlaced new place number
  placed-later None number is = (is.0, kept.names number (unknown_text is.0) is.1)
  placed-later (Some place) number is =
      place-kept old.names new.names kept.names (known_file old.files place.file) (known_file new.files place.file) (kept.files place.file) place.address number is

  pub frame-later : (addresses : Bool) (frame : UserFrame) (number : ℕ) → NamesFrame old addresses frame number → NamesFrame new addresses frame number
  frame-later true frame number is = kept.names number (address_text frame.address) is
  frame-later false frame number is = placed-later frame.place number is

  pub kernel-later : (addresses : Bool) (address number : ℕ) → NamesKernelFrame old addresses address number → NamesKernelFrame new addresses address number
  kernel-later true address number is = kept.names number (address_text address) is
  kernel-later false address number is = kernel-kept old.names new.names kept.names old.kernel new.kernel kept.kernel address number is

-- ---- all of them

module _ {A : Type 0} where
  all-later : (P Q : A → ℕ → Type 0) → ((x : A) (number : ℕ) → P x number → Q x number) → (xs : List A) (numbers : List ℕ) → AllZip P xs numbers → AllZip Q xs numbers
  all-later P Q later [] [] all = tt
  all-later P Q later [] (number ∷ numbers) all = absurd all
  all-later P Q later (x ∷ xs) [] all = absurd all
  all-later P Q later (x ∷ xs) (number ∷ numbers) all = (later x number all.0, all-later P Q later xs numbers all.1)

  one-more : (P : A → ℕ → Type 0) (xs : List A) (numbers : List ℕ) (x : A) (number : ℕ) → AllZip P xs numbers → P x number
      → AllZip P (xs ++ x ∷ []) (numbers ++ number ∷ [])
  one-more P [] [] x number all is = (is, tt)
  one-more P [] (other ∷ numbers) x number all is = absurd all
  one-more P (y ∷ xs) [] x number all is = absurd all
  one-more P (y ∷ xs) (other ∷ numbers) x number all is = (all.0, one-more P xs numbers x number all.1 is)

  -- the names so far, and one more
  pub zip-more : (P : A → ℕ → Type 0) (xs : List A) (numbers : List ℕ) (i : ℕ) (d : A) (number : ℕ) → i < length xs → AllZip P (take i xs) numbers
      → P (get_or xs i d) number → AllZip P (take (i + 1) xs) (numbers ++ number ∷ [])
  zip-more P xs numbers i d number within all named =
      subst (λ (ys : List A). AllZip P ys (numbers ++ number ∷ [])) (sym (take_more xs i d within)) (one-more P (take i xs) numbers (get_or xs i d) number all named)

pub frames-later : (old new : LabelState) → KeepsLabels old new → (addresses : Bool) (frames : List UserFrame) (numbers : List ℕ)
    → AllZip (NamesFrame old addresses) frames numbers → AllZip (NamesFrame new addresses) frames numbers
frames-later old new kept addresses = all-later (NamesFrame old addresses) (NamesFrame new addresses) (frame-later old new kept addresses)

pub kernel-frames-later : (old new : LabelState) → KeepsLabels old new → (addresses : Bool) (frames : List ℕ) (numbers : List ℕ)
    → AllZip (NamesKernelFrame old addresses) frames numbers → AllZip (NamesKernelFrame new addresses) frames numbers
kernel-frames-later old new kept addresses = all-later (NamesKernelFrame old addresses) (NamesKernelFrame new addresses) (kernel-later old new kept addresses)
