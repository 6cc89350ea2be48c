-- What a call writes to a sink.
use Rattle.std.specs.Prelude.{ℕ, List, Option, Result}
use Rattle.json_program.specs.Stream.{WritesText}

-- A call took a sink, whose bytes are these, from one state to another: after Ok a whole text is written, after an error a prefix of it.
abbrev pub Writes : {S T E : Type 0} → (S → Option (List ℕ)) → S → S → Result T E → List ℕ → Type 0
Writes contents old new result text = WritesText result (contents old) (contents new) text
