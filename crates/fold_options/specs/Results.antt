-- What is made of a result, if it isn't an error.
use Rattle.std.specs.Prelude.{Result, Ok, Err}

-- a value in place of another
abbrev pub result_map : {A B E : Type 0} → (A → B) → Result A E → Result B E
result_map f (Ok x) = Ok (f x)
result_map f (Err error) = Err error

-- a result in place of a value
abbrev pub result_and_then : {A B E : Type 0} → (A → Result B E) → Result A E → Result B E
result_and_then f (Ok x) = f x
result_and_then f (Err error) = Err error
