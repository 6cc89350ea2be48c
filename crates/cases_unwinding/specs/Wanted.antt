-- What a row of worked documents states of a run.
use Rattle.std.specs.Prelude.{ℕ, ◌==◌, ◌&&◌, List, [], unwrap_or, Bool, false, codes, bytes_eq, Option, Some, None, option_and_then}
use Rattle.serde_json.specs.Data.{Data}
use Rattle.serde_json.specs.Find.{as_number, as_str, as_u64, get}

-- the text in a field
abbrev pub text_field : List ℕ → Data → Option (List ℕ)
text_field name row = option_and_then as_str (get name row)

-- the number in a field
abbrev pub number_field : List ℕ → Data → Option ℕ
number_field name row = option_and_then (λ value. option_and_then as_u64 (as_number value)) (get name row)

-- the document of a row, which is empty if there is none
abbrev pub document_of : Data → List ℕ
document_of row = unwrap_or (text_field (codes "text") row) []

-- these are the text and the number that are there
abbrev pub are_these : List ℕ → ℕ → Option (List ℕ) → Option ℕ → Bool
are_these bytes status (Some text) (Some number) = bytes_eq text bytes && number == status
are_these bytes status (Some text) None = false
are_these bytes status None number = false

-- what was written is the row's `stdout`, and the exit status its `status`
abbrev pub is_wanted : Data → List ℕ → ℕ → Bool
is_wanted row bytes status = are_these bytes status (text_field (codes "stdout") row) (number_field (codes "status") row)
