-- Files that are known, and numbers of places that are kept.
use Rattle.std.specs.Prelude.{◌≡◌, ℕ, List, map, Option, Some}
use Rattle.kernel_symbols.specs.Lines.{SymbolParts}
use Rattle.fold_stacks.specs.FrameNames.{FileNames, NamesKernel, NamesPlace, known_file}
use Rattle.fold_stacks.specs.Places.{number_among}
use Rattle.fold_stacks.specs.declared.labels.KnownFile.{KnownFile}
use Rattle.fold_stacks.specs.declared.places.PlaceKey.{PlaceKey}

-- what is known of a file
abbrev pub file_seen : KnownFile → FileNames
file_seen known = record { name = known.name.items; functions = known.functions }

-- the same of each file, by its number
abbrev pub files_in : List (ℕ × KnownFile) → List (ℕ × FileNames)
files_in entries = map (λ entry. (entry.0, file_seen entry.1)) entries

-- Numbers of places that are kept are those of their names.
pub record AreNamed (names : List (List ℕ)) (files : List (ℕ × FileNames)) (kernel : Option (List SymbolParts)) (places kernel_places : List (PlaceKey × ℕ))
    : Type 0 where
  pub in_files : (place : PlaceKey) (number : ℕ) → number_among places place ≡ Some number
      → NamesPlace names (known_file files place.file) place.address number
  pub in_kernel : (place : PlaceKey) (number : ℕ) → number_among kernel_places place ≡ Some number → NamesKernel names kernel place.address number
