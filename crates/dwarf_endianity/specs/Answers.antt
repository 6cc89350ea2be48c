-- What a call returns, as a view shows it.
use Rattle.std.specs.Prelude.{◌≡◌, Result, Ok, Err}
use Rattle.dwarf_constants.specs.declared.error.Error.{Error}

-- What a call returned, as view shows it, is this answer.
abbrev pub Gives : {X Y : Type 0} → (X → Y) → Result X Error → Result Y Error → Type 0
Gives view (Ok x) answer = answer ≡ Ok (view x)
Gives view (Err e) answer = answer ≡ Err e
