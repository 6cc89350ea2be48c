-- What holds of an answer, if it isn't refused, step by step.
use Rattle.std.proofs.Common.{◌≡◌, Bool, true, false, cond, Result, Ok, Err, subst}
use Rattle.dwarf_constants.specs.declared.error.Error.{Error}
use Rattle.dwarf_readers.specs.Stretch.{◌>>=◌}

abbrev pub IsEach : {X : Type 0} → (X → Type 0) → Result X Error → Type 0
IsEach P (Ok x) = P x
IsEach P (Err e) = Unit {0}

-- each answer that isn't refused has the property
pub record Each {X : Type 0} (P : X → Type 0) (answer : Result X Error) : Type 0 where
  pub each : IsEach P answer

is_each-then : {X Y : Type 0} (P : X → Type 0) (Q : Y → Type 0) (value : Result X Error) (next : X → Result Y Error)
    → IsEach P value → ((x : X) → P x → Each Q (next x)) → IsEach Q (value >>= next)
is_each-then P Q (Ok x) next h others = (others x h).each
is_each-then P Q (Err e) next h others = tt

-- what is read behind a value that has a property
pub each_then : {X Y : Type 0} {P : X → Type 0} {Q : Y → Type 0} {value : Result X Error} {next : X → Result Y Error}
    → Each P value → ((x : X) → P x → Each Q (next x)) → Each Q (value >>= next)
each_then {P = P} {Q = Q} {value = value} {next = next} h others = record { each = is_each-then P Q value next h.each others }

is_each-value : {X Y : Type 0} (Q : Y → Type 0) (value : Result X Error) (next : X → Result Y Error) → ((x : X) → Each Q (next x)) → IsEach Q (value >>= next)
is_each-value Q (Ok x) next others = (others x).each
is_each-value Q (Err e) next others = tt

-- .. behind any value
pub each_value : {X Y : Type 0} {Q : Y → Type 0} (value : Result X Error) {next : X → Result Y Error} → ((x : X) → Each Q (next x)) → Each Q (value >>= next)
each_value {Q = Q} value {next = next} others = record { each = is_each-value Q value next others }

pub each_if : {X : Type 0} {P : X → Type 0} {a b : Result X Error} (test : Bool) → Each P a → Each P b → Each P (cond test a b)
each_if true p q = p
each_if false p q = q

pub each_ok : {X : Type 0} {P : X → Type 0} {x : X} → P x → Each P (Ok x)
each_ok h = record { each = h }

pub each_err : {X : Type 0} {P : X → Type 0} {e : Error} → Each P (Err e)
each_err = record { each = tt }

-- .. where the answer is known
pub each_known : {X : Type 0} (P : X → Type 0) (answer : Result X Error) (x : X) → Each P answer → answer ≡ Ok x → P x
each_known {X = X} P answer x h is = let Q : Result X Error → Type 0 = IsEach P in subst Q is h.each
