-- What bytes that follow a stretch change of what is read from it.
use Rattle.std.specs.Prelude.{◌≡◌, ◌≢◌, ℕ, List, ◌++◌, Result, Ok, Err}
use Rattle.dwarf_constants.specs.declared.error.Error.{Error}
use Rattle.dwarf_readers.specs.Stretch.{Stretch, ends_at}

-- a stretch with more bytes at its end
abbrev pub extended_stretch : List ℕ → Stretch → Stretch
extended_stretch more s = record { bytes = s.bytes ++ more; offset = s.offset; big = s.big }

-- The error isn't that the bytes end.
abbrev pub IsLasting : Error → Type 0
IsLasting e = (offset : ℕ) → e ≢ ends_at offset

-- An answer stays, but for this change, and an error stays unless it was that the bytes end.
abbrev pub StaysAs : {A : Type 0} → (A → A) → Result A Error → Result A Error → Type 0
StaysAs change (Ok x) after = after ≡ Ok (change x)
StaysAs change (Err e) after = IsLasting e → after ≡ Err e

-- A value that is read stays, and more bytes follow what is left.
abbrev pub Stays : {A : Type 0} → List ℕ → Result (A × Stretch) Error → Result (A × Stretch) Error → Type 0
Stays more before after = StaysAs (λ read. (read.0, extended_stretch more read.1)) before after

-- No bytes that follow a stretch change what is read from it.
abbrev pub IsSteady : {A : Type 0} → (Stretch → Result (A × Stretch) Error) → Type 0
IsSteady read = (more : List ℕ) (s : Stretch) → Stays more (read s) (read (extended_stretch more s))

-- No bytes that follow a stretch change what a move in it leaves, but that they follow there.
abbrev pub IsSteadyMove : (Stretch → Result Stretch Error) → Type 0
IsSteadyMove move = (more : List ℕ) (s : Stretch) → StaysAs (extended_stretch more) (move s) (move (extended_stretch more s))

-- No bytes that follow a stretch change what is found in it.
abbrev pub IsSteadySearch : {A : Type 0} → (Stretch → Result A Error) → Type 0
IsSteadySearch find = (more : List ℕ) (s : Stretch) → StaysAs (λ found. found) (find s) (find (extended_stretch more s))
