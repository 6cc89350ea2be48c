-- What calls add to a writer of JSON.
use Rattle.std.specs.Prelude.{◌≡◌, List, ◌++◌, Result, OnOk}
use Rattle.json.specs.Token.{Token}
use Rattle.json.specs.Written.{Written}

-- A call that returned Ok wrote these tokens behind those before, and kept what stood before them.
pub record Adds {T E : Type 0} (result : Result T E) (old new : Written) (added : List Token) : Type 0 where
  pub tokens : OnOk result (new.tokens ≡ old.tokens ++ added)
  pub before : OnOk result (new.before ≡ old.before)
