-- What is known of files, as entries of a map.
use Rattle.std.proofs.Common.{◌≡◌, ◌∙◌, ℕ, Bool, true, false, cond, List, [], ◌∷◌, refl, sym, ap, subst, Option, Some, None, option_map, Result, arith}
use Rattle.std.specs.Prelude.{◌==◌, IsSome, IfOk, is_some}
use Rattle.std.specs.Map.{lookup}
use Rattle.std.specs.declared.alloc.AllocError.{AllocError}
use Rattle.std.proofs.lemmas.Bool.Decides.{nat_tests}
use Rattle.list_laws.proofs.Laws.{by_case}
use Rattle.fold_stacks.specs.FrameNames.{FileNames, HasName, KeepsFiles, NamesPlace, known_file, place_text}
use Rattle.fold_stacks.specs.KnownFiles.{file_seen, files_in}
use Rattle.fold_stacks.specs.declared.labels.KnownFile.{KnownFile}

-- the entry of a file, if it is there
abbrev pub entry_of : List (ℕ × KnownFile) → ℕ → Option KnownFile
entry_of entries file = lookup (λ number. file == number) entries

either : (b : Bool) (known : KnownFile) (others : Option KnownFile) → option_map file_seen (cond b (Some known) others) ≡ cond b (Some (file_seen known)) (option_map file_seen others)
either true known others = refl
either false known others = refl

pub file-looked-up : (file : ℕ) (entries : List (ℕ × KnownFile)) → known_file (files_in entries) file ≡ option_map file_seen (entry_of entries file)
file-looked-up file [] = refl
file-looked-up file (entry ∷ entries) =
    ap (λ (found : Option FileNames). cond (file == entry.0) (Some (file_seen entry.1)) found) (file-looked-up file entries)
    ∙ sym (either (file == entry.0) entry.1 (entry_of entries file))

module _ (old new : List (ℕ × KnownFile)) (file : ℕ) (known : KnownFile) (puts : (other : ℕ) → entry_of new other ≡ cond (file == other) (Some known) (entry_of old other)) where
  -- a file that is put is known
  pub file-put : IsSome (known_file (files_in new) file)
  file-put = let itself : (file == file) ≡ true = grind (arith, nat_tests) in rw (file-looked-up file new, puts file, itself) refl

  -- .. and the others stay known
  pub files-put : entry_of old file ≡ None → KeepsFiles (files_in old) (files_in new)
  files-put none other value is =
      let was : option_map file_seen (entry_of old other) ≡ Some value = sym (file-looked-up other old) ∙ is in
      file-looked-up other new ∙ ap (λ (found : Option KnownFile). option_map file_seen found) (puts other)
      ∙ by_case (file == other)
      (λ same. let equal : file ≡ other = grind (arith, nat_tests) in
      let nothing : option_map file_seen (entry_of old other) ≡ None = ap (λ (f : ℕ). option_map file_seen (entry_of old f)) (sym equal) ∙ ap (λ (found : Option KnownFile). option_map file_seen found) none in
      let no : None ≡ Some value = sym nothing ∙ was in absurd (cc))
      (λ differ. rw differ was)

-- ---- a file that is there

seen : (found : Option KnownFile) → is_some found ≡ true → IsSome (option_map file_seen found)
seen None is = absurd (cc)
seen (Some known) is = refl

nothing : (found : Option KnownFile) → is_some found ≡ false → found ≡ None
nothing None is = refl
nothing (Some known) is = absurd (cc)

pub file-there : (file : ℕ) (entries : List (ℕ × KnownFile)) → is_some (entry_of entries file) ≡ true → IsSome (known_file (files_in entries) file)
file-there file entries is = rw (file-looked-up file entries) (seen (entry_of entries file) is)

pub not-there : (file : ℕ) (entries : List (ℕ × KnownFile)) → is_some (entry_of entries file) ≡ false → entry_of entries file ≡ None
not-there file entries is = nothing (entry_of entries file) is

-- the number of the name at an address of a file that is known
pub named-at : (names : List (List ℕ)) (entries : List (ℕ × KnownFile)) (file address : ℕ) (known : KnownFile) → entry_of entries file ≡ Some known
    → (number : Result ℕ AllocError) → IfOk number (λ number. HasName names number (place_text (file_seen known) address))
    → IfOk number (λ number. NamesPlace names (known_file (files_in entries) file) address number)
named-at names entries file address known is number here =
    subst (λ (found : Option FileNames). IfOk number (λ number. NamesPlace names found address number))
    (sym (file-looked-up file entries ∙ ap (λ (found : Option KnownFile). option_map file_seen found) is)) here
