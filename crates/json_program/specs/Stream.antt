-- Streams as contracts see them, and what calls read and write.
use Rattle.std.specs.Prelude.{◌≡◌, Bool, ℕ, ◌+◌, ◌<◌, ◌≤◌, List, ◌++◌, length, take, Option, Result, IfSome, IsErr, OnErr, OnOk, Vec}
use Rattle.std.specs.Global.{Global}
use Rattle.std.specs.Io.KnownBytes.{Appends, Consumes}
use Rattle.json_program.specs.declared.stream.Streamed.{Streamed}

-- the reader or writer that a stream carries
abbrev pub inner_of : {T : Type 0} → Streamed T → T
inner_of stream = stream.inner

-- whether one of a stream's calls has failed
abbrev pub has_broken : {T : Type 0} → Streamed T → Bool
has_broken stream = stream.failed

-- if a stream's bytes are known, a prefix of these bytes was added at the end
abbrev pub AppendsPrefix : Option (List ℕ) → Option (List ℕ) → List ℕ → Type 0
AppendsPrefix old new bytes = (count : ℕ) × Appends old new (take count bytes)

-- After Ok a whole text was added at the end, after an error a prefix of it.
pub record WritesText {T E : Type 0} (result : Result T E) (old new : Option (List ℕ)) (text : List ℕ) : Type 0 where
  pub whole : OnOk result (Appends old new text)
  pub prefix : OnErr result (AppendsPrefix old new text)

-- The bytes are those that a source had left, up to a limit, and are consumed; fewer than the limit are all of them.
pub record ReadsUpTo (most : ℕ) (old new : Option (List ℕ)) (bytes : List ℕ) : Type 0 where
  pub prefix : IfSome old (λ all. bytes ≡ take most all)
  pub whole : length bytes < most → IfSome old (λ all. bytes ≡ all)
  pub rest : Consumes old new bytes
  pub bound : length bytes ≤ most

-- One read took a count of bytes of a source, at most as many as there is room for, and appended them to a document.
pub record ReadsPiece (room count : ℕ) (old new : Option (List ℕ)) (before after : Vec ℕ Global) : Type 0 where
  pub bound : count ≤ room
  pub piece : List ℕ
  pub appended : after.items ≡ before.items ++ piece
  pub consumed : Consumes old new piece
  pub grows : length after.items ≡ length before.items + count

-- a prefix of all the lines is written, and these are left
abbrev pub IsWritten : Option (List ℕ) → Option (List ℕ) → List ℕ → List ℕ → Type 0
IsWritten old now left all = (written : List ℕ) × Appends old now written × (written ++ left ≡ all)

-- The line of a text that is next, and what a sink held at first, holds before a call writes the line, and holds after it.
pub record NextLine : Type 0 where
  pub first : Option (List ℕ)
  pub before : Option (List ℕ)
  pub after : Option (List ℕ)
  pub line : List ℕ
  pub left : List ℕ
  pub all : List ℕ
  pub written : IsWritten first before (line ++ left) all

-- A call failed after it wrote a prefix of a text.
pub record FailedWrite (T E : Type 0) : Type 0 where
  pub result : Result T E
  pub before : Option (List ℕ)
  pub after : Option (List ℕ)
  pub text : List ℕ
  pub failed : IsErr result
  pub prefix : AppendsPrefix before after text
