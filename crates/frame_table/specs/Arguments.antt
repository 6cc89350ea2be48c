-- What the arguments of the program ask for.
use Rattle.std.specs.Prelude.{ℕ, ◌||◌, if◌then◌else◌, List, [], ◌∷◌, codes, bytes_eq, Option, Some, None}
use Rattle.std.specs.Option.{option_map}
use Rattle.frame_table_files.specs.SectionNames.{named}
use Rattle.frame_table_files.specs.declared.section_name.SectionName.{SectionName}

-- the section of a document, a section of the file at a path, or how the program is called
pub data Request : Type 0 where
  document : Request
  file : List ℕ → Option SectionName → Request
  help : Request

-- what one argument asks for
abbrev pub request_by : List ℕ → Request
request_by word = if bytes_eq word (codes "--help") || bytes_eq word (codes "-h") then help else file word None

-- what arguments ask for, without the program's name: a path, and a section if one is named
abbrev pub request_of : List (List ℕ) → Option Request
request_of [] = Some document
request_of (word ∷ []) = Some (request_by word)
request_of (path ∷ name ∷ []) = option_map (λ section. file path (Some section)) (named name)
request_of (path ∷ name ∷ more ∷ others) = None
