-- Results of calls that may allocate.
use Rattle.std.specs.Prelude.{◌≡◌, ◌⊎◌, IsTrue, Bool, Result, Ok, Err}
use Rattle.dwarf_constants.specs.declared.error.Error.{Error}
use Rattle.dwarf_constants.specs.declared.error.Error.TheVariants.{OutOfMemory}

-- A call returned this value, by a view of it, or this error; or OutOfMemory, if it may allocate.
abbrev pub MayGive : {X Y : Type 0} → (may_allocate : Bool) → (X → Y) → Result X Error → Result Y Error → Type 0
MayGive may_allocate view (Ok x) answer = answer ≡ Ok (view x)
MayGive may_allocate view (Err e) answer = (answer ≡ Err e) ⊎ (IsTrue may_allocate × (e ≡ OutOfMemory))
