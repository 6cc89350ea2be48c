-- What holds of what is read, if it can be read.
use Rattle.std.proofs.Common.{◌≡◌, Bool, true, false, cond, Result, Ok, Err, subst}
use Rattle.dwarf_constants.specs.declared.error.Error.{Error}
use Rattle.dwarf_readers.specs.Stretch.{◌>>=◌}

abbrev pub IsEach : {X : Type 0} → (X → Type 0) → Result X Error → Type 0
IsEach P (Ok x) = P x
IsEach P (Err e) = Unit {0}

-- what is read, if it can be, has the property
pub record Each {X : Type 0} (P : X → Type 0) (read : Result X Error) : Type 0 where
  pub each : IsEach P read

is-then : {X Y : Type 0} (P : X → Type 0) (Q : Y → Type 0) (read : Result X Error) (next : X → Result Y Error) → IsEach P read → ((x : X) → P x → Each Q (next x)) → IsEach Q (read >>= next)
is-then P Q (Ok x) next h others = (others x h).each
is-then P Q (Err e) next h others = tt

-- after what has a property
pub each-then : {X Y : Type 0} {P : X → Type 0} {Q : Y → Type 0} {read : Result X Error} {next : X → Result Y Error} → Each P read → ((x : X) → P x → Each Q (next x)) → Each Q (read >>= next)
each-then {P = P} {Q = Q} {read = read} {next = next} h others = record { each = is-then P Q read next h.each others }

is-any : {X Y : Type 0} (Q : Y → Type 0) (read : Result X Error) (next : X → Result Y Error) → ((x : X) → Each Q (next x)) → IsEach Q (read >>= next)
is-any Q (Ok x) next others = (others x).each
is-any Q (Err e) next others = tt

-- .. after anything
pub each-any : {X Y : Type 0} {Q : Y → Type 0} (read : Result X Error) {next : X → Result Y Error} → ((x : X) → Each Q (next x)) → Each Q (read >>= next)
each-any {Q = Q} read {next = next} others = record { each = is-any Q read next others }

pub each-if : {X : Type 0} {P : X → Type 0} {a b : Result X Error} (test : Bool) → Each P a → Each P b → Each P (cond test a b)
each-if true p q = p
each-if false p q = q

pub each-ok : {X : Type 0} {P : X → Type 0} {x : X} → P x → Each P (Ok x)
each-ok h = record { each = h }

pub each-err : {X : Type 0} {P : X → Type 0} {e : Error} → Each P (Err e)
each-err = record { each = tt }

-- .. if it is known
pub each-known : {X : Type 0} (P : X → Type 0) (read : Result X Error) (x : X) → Each P read → read ≡ Ok x → P x
each-known {X = X} P read x h is = let Q : Result X Error → Type 0 = IsEach P in subst Q is h.each

-- .. and so any property that this one has
pub each-weaker : {X : Type 0} (P Q : X → Type 0) (read : Result X Error) → Each P read → ((x : X) → P x → Q x) → Each Q read
each-weaker P Q (Ok x) h more = record { each = more x h.each }
each-weaker P Q (Err e) h more = record { each = tt }
