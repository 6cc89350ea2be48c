-- The modules of files, loaded one after the other.
use Rattle.std.proofs.Common.{◌≡◌, ℕ, ◌+◌, ◌<◌, List, Option, drop, length, get_or, sym, ap, ◌∙◌}
use Rattle.backtrace_files.specs.FileViews.{file_seen, files_seen}
use Rattle.backtrace_files.specs.declared.loaded_file.LoadedFile.{LoadedFile}
use Rattle.framehop_loads.specs.UnwindData.{UnwindData}
use Rattle.framehop_unwinder.specs.Modules.{Loaded}
use Rattle.backtrace_walks.specs.Modules.{module_of, with_files, with_one}
use Rattle.backtrace_walks.proofs.Lists.{element}

-- the modules of files from one on, once that one's is loaded
pub goes_on : (files : List LoadedFile) (i : ℕ) (d : LoadedFile) (modules next all : List (Loaded UnwindData)) (found : Option (Loaded UnwindData)) → i < length files
    → found ≡ module_of (file_seen (get_or files i d)) → next ≡ with_one modules found → with_files modules (files_seen (drop i files)) ≡ all → with_files next (files_seen (drop (i + 1) files)) ≡ all
goes_on files i d modules next all found within is loaded before =
    let left = drop (i + 1) files in
    ap (λ (ms : List (Loaded UnwindData)). with_files ms (files_seen left)) loaded
    ∙ ap (λ (o : Option (Loaded UnwindData)). with_files (with_one modules o) (files_seen left)) is
    ∙ sym (ap (λ (fs : List LoadedFile). with_files modules (files_seen fs)) (element files i d within))
    ∙ before
