-- Paths of debug files by links (GDB, "Debugging Information in Separate Files").
use Rattle.std.specs.Prelude.{ℕ, ◌-◌, ◌==◌, codes, List, [], ◌∷◌, ◌++◌, length, take, reverse, Option, Some, None, position}

-- a path without so many bytes at its end, if it is known how many
abbrev pub without_end : List ℕ → Option ℕ → List ℕ
without_end path (Some size) = take (length path - size) path
without_end path None = []

-- the folder of a path: its bytes up to the last slash, with it
abbrev pub folder_of : List ℕ → List ℕ
folder_of path = without_end path (position (λ byte. byte == 47) (reverse path))

-- the paths for a file and the name in its link: in the folder of the file, in that's folder .debug, and in a folder of debug files as the
-- file's folder is in the root
abbrev pub linked_paths : (root debug_root file link : List ℕ) → List (List ℕ)
linked_paths root debug_root file link =
    (root ++ folder_of file ++ link)
    ∷ (root ++ folder_of file ++ codes ".debug/" ++ link)
    ∷ (debug_root ++ folder_of file ++ link) ∷ []
