-- What bytes that follow a stretch change of the items that are read from it.
use Rattle.std.specs.Prelude.{◌<◌, List, ℕ, length, option_map}
use Rattle.dwarf_constants.specs.declared.error.Error.{Error}
use Rattle.dwarf_readers.specs.More.{StaysAs, extended_stretch}
use Rattle.dwarf_readers.specs.Stretch.{Stretch}
use Rattle.list_laws.specs.Items.{Answer}

-- The next item stays, and more bytes follow what is left after it.
abbrev pub StaysNext : {A : Type 0} → List ℕ → Answer Stretch A Error → Answer Stretch A Error
    → Type 0
StaysNext more before after =
    StaysAs (option_map (λ next. (next.0, extended_stretch more next.1))) before after

-- The next item stays wherever bytes are left.
abbrev pub IsSteadyNext : {A : Type 0} → (Stretch → Answer Stretch A Error) → Type 0
IsSteadyNext next = (more : List ℕ) (s : Stretch) → 0 < length s.bytes
    → StaysNext more (next s) (next (extended_stretch more s))
