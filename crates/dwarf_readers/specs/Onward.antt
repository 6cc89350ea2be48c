-- Where what reads leave begins: not before the offset at which the read began.
use Rattle.std.specs.Prelude.{ℕ, ◌≤◌, Result, Ok, Err}
use Rattle.dwarf_constants.specs.declared.error.Error.{Error}
use Rattle.dwarf_readers.specs.Stretch.{Stretch}

-- What an answer leaves, as rest gives it, doesn't begin before the offset; an error leaves nothing.
abbrev pub IsOn : {X : Type 0} → (X → Stretch) → ℕ → Result X Error → Type 0
IsOn rest offset (Ok x) = offset ≤ (rest x).offset
IsOn rest offset (Err e) = Unit {0}

-- An answer leaves nothing that begins before the offset.
pub record GoesOn {X : Type 0} (rest : X → Stretch) (offset : ℕ) (answer : Result X Error) : Type 0 where
  pub on : IsOn rest offset answer

-- the stretch that a read leaves
abbrev pub rest_of_read : {A : Type 0} → A × Stretch → Stretch
rest_of_read x = x.1

-- A read leaves nothing that begins before it.
abbrev pub ReadsOn : {A : Type 0} → Stretch → Result (A × Stretch) Error → Type 0
ReadsOn s read = GoesOn rest_of_read s.offset read
