-- Files by their build ids (GDB, "Debugging Information in Separate Files"): a folder has one for each first byte of a build id, in which a
-- file is named by the other bytes. Each byte is two hexadecimal digits.
use Rattle.std.specs.Prelude.{ℕ, List, [], ◌∷◌, ◌++◌, codes}
use Rattle.std.specs.List.{flat_map}
use Rattle.line_parts.specs.Parts.{hex_of}

-- bytes in digits
abbrev pub digits_of : List ℕ → List ℕ
digits_of bytes = flat_map (λ byte. hex_of 2 byte) bytes

-- the name of the file of a build id below the folder, without its ending
abbrev pub name_of : List ℕ → List ℕ
name_of [] = []
name_of (byte ∷ bytes) = digits_of (byte ∷ []) ++ codes "/" ++ digits_of bytes

-- its path
abbrev pub path_by_id : List ℕ → List ℕ → List ℕ → List ℕ
path_by_id folder build_id ending = folder ++ codes "/" ++ name_of build_id ++ ending
