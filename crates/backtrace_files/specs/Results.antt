-- What contracts say of calls that make lists, and fail only if memory is refused.
use Rattle.std.specs.Prelude.{◌≡◌, List, ◌++◌, map, IfOk, Result, Vec}
use Rattle.std.specs.Global.{Global}

-- A call that succeeds returns this, as contracts see it.
abbrev pub IfOkIs : {A B E : Type 0} → (A → B) → Result A E → B → Type 0
IfOkIs seen result expected = IfOk result (λ given. seen given ≡ expected)

-- A call that succeeds returns these, as contracts see each.
abbrev pub IfOkAre : {A B E : Type 0} → (A → B) → Result (Vec A Global) E → List B → Type 0
IfOkAre seen result expected = IfOk result (λ given. map seen given.items ≡ expected)

-- A list has these more at its end, as contracts see each.
abbrev pub Adds : {A B : Type 0} → (A → B) → Vec A Global → Vec A Global → List B → Type 0
Adds seen old new added = map seen new.items ≡ map seen old.items ++ added
