-- Bytes that follow each other in memory or in a file.
use Rattle.std.specs.Prelude.{◌≡◌, ℕ, ◌+◌, ◌<◌, ◌≤◌, List, length, slice_index_or, Option, Some}

-- Bytes, one at least, are those from a place on, each of which is known.
pub record AreKnown (byte : ℕ → Option ℕ) (place : ℕ) (bytes : List ℕ) : Type 0 where
  pub known : (k : ℕ) → k < length bytes → byte (place + k) ≡ Some (slice_index_or bytes k 0)
  pub some : 0 < length bytes

-- What begins after a place begins so many places after it, or later.
abbrev pub NoneBegins : {A : Type 0} → (A → ℕ) → (place size : ℕ) → List A → Type 0
NoneBegins {A} begin place size xs =
    (i : ℕ) (d : A) → i < length xs → place < begin (slice_index_or xs i d) → place + size ≤ begin (slice_index_or xs i d)
