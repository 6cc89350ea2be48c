-- What a read leaves doesn't begin before the offset at which the read began.
use Rattle.std.proofs.Common.{◌≡◌, ℕ, ◌≤◌, Bool, true, false, cond, List, take, Option, Some, None, Result, Ok, Err, arith, subst}
use Rattle.std.specs.Int.{Width, byte_len}
use Rattle.dwarf_constants.specs.declared.error.Error.{Error}
use Rattle.dwarf_constants.specs.declared.error.Error.TheVariants.{BadSignedLeb128, BadUnsignedLeb128}
use Rattle.dwarf_readers.specs.InitialLength.{address_at, address_size_at}
use Rattle.dwarf_readers.specs.Leb128.{leb128_within, signed_at, signed_in_range, string_of, unsigned_16_at, unsigned_at, unsigned_below, value_behind}
use Rattle.dwarf_readers.specs.Onward.{GoesOn, IsOn, ReadsOn}
use Rattle.dwarf_readers.specs.Stretch.{Stretch, ◌>>=◌, behind, byte_at, count_before, found_at, number_at, signed_number_at, split_at, string_at}

-- ---- one after the other

is_on-then : {X Y : Type 0} (left : X → Stretch) (other : Y → Stretch) (offset : ℕ) (first : Result X Error) (next : X → Result Y Error)
    → IsOn left offset first → ((x : X) → offset ≤ (left x).offset → GoesOn other offset (next x)) → IsOn other offset (first >>= next)
is_on-then left other offset (Ok x) next h others = (others x h).on
is_on-then left other offset (Err e) next h others = tt

pub on_then : {X Y : Type 0} {left : X → Stretch} {other : Y → Stretch} {offset : ℕ} {first : Result X Error} {next : X → Result Y Error}
    → GoesOn left offset first → ((x : X) → offset ≤ (left x).offset → GoesOn other offset (next x)) → GoesOn other offset (first >>= next)
on_then {left = left} {other = other} {offset = offset} {first = first} {next = next} h others = record { on = is_on-then left other offset first next h.on others }

is_on-value : {X Y : Type 0} (other : Y → Stretch) (offset : ℕ) (value : Result X Error) (next : X → Result Y Error)
    → ((x : X) → GoesOn other offset (next x)) → IsOn other offset (value >>= next)
is_on-value other offset (Ok x) next others = (others x).on
is_on-value other offset (Err e) next others = tt

-- .. behind a value from which nothing is left
pub on_value : {X Y : Type 0} {other : Y → Stretch} {offset : ℕ} (value : Result X Error) {next : X → Result Y Error}
    → ((x : X) → GoesOn other offset (next x)) → GoesOn other offset (value >>= next)
on_value {other = other} {offset = offset} value {next = next} others = record { on = is_on-value other offset value next others }

pub on_if : {X : Type 0} {left : X → Stretch} {offset : ℕ} {a b : Result X Error} (test : Bool) → GoesOn left offset a → GoesOn left offset b → GoesOn left offset (cond test a b)
on_if true p q = p
on_if false p q = q

pub on_err : {X : Type 0} {left : X → Stretch} {offset : ℕ} {e : Error} → GoesOn left offset (Err e)
on_err = record { on = tt }

pub on_ok : {X : Type 0} {left : X → Stretch} {offset : ℕ} {x : X} → offset ≤ (left x).offset → GoesOn left offset (Ok x)
on_ok h = record { on = h }

is_on-from : {X : Type 0} (left : X → Stretch) (offset from : ℕ) (answer : Result X Error) → IsOn left from answer → offset ≤ from → IsOn left offset answer
is_on-from left offset from (Ok x) h le = omega arith
is_on-from left offset from (Err e) h le = tt

-- an answer that leaves nothing before an offset leaves nothing before an earlier one
pub on_from : {X : Type 0} {left : X → Stretch} {offset from : ℕ} {answer : Result X Error} → GoesOn left from answer → offset ≤ from → GoesOn left offset answer
on_from {left = left} {offset = offset} {from = from} {answer = answer} h le = record { on = is_on-from left offset from answer h.on le }

-- .. where the answer is known
pub on_is : {X : Type 0} {left : X → Stretch} {offset : ℕ} {answer : Result X Error} {x : X} → GoesOn left offset answer → answer ≡ Ok x → offset ≤ (left x).offset
on_is {X = X} {left = left} {offset = offset} h is = let P : Result X Error → Type 0 = IsOn left offset in subst P is h.on

-- ---- reads

-- .. where the read is known
pub onward : {A : Type 0} (s t : Stretch) (x : A) (read : Result (A × Stretch) Error) → ReadsOn s read → read ≡ Ok (x, t) → s.offset ≤ t.offset
onward s t x read h is = on_is h is

fixed_on : {A : Type 0} (n : ℕ) (s : Stretch) (e : Error) (x : A) (test : Bool) → ReadsOn s (cond test (Err e) (Ok (x, behind n s)))
fixed_on n s e x test = on_if test on_err (on_ok (omega arith))

pub byte_on : (s : Stretch) → ReadsOn s (byte_at s)
byte_on s = fixed_on 1 s _ _ _

pub number_on : (n : ℕ) (s : Stretch) → ReadsOn s (number_at n s)
number_on n s = fixed_on n s _ _ _

pub signed_number_on : (w : Width) (s : Stretch) → ReadsOn s (signed_number_at w s)
signed_number_on w s = fixed_on (byte_len w) s _ _ _

pub split_on : (n : ℕ) (s : Stretch) → ReadsOn s (split_at n s)
split_on n s = fixed_on n s _ _ _

pub string_on : (s : Stretch) → ReadsOn s (string_at s)
string_on s = on_value (found_at s (count_before 0 s.bytes)) (λ n. on_ok (omega arith))

value_behind_on : {A : Type 0} (bad : Error) (string : List ℕ) (s : Stretch) (value : Option A) → ReadsOn s (value_behind bad string s value)
value_behind_on bad string s (Some value) = on_ok (omega arith)
value_behind_on bad string s None = on_err

leb128_on : {A : Type 0} (n : ℕ) (bad : Error) (fitting : List ℕ → Option A) (s : Stretch) (found : Option (List ℕ)) → ReadsOn s (leb128_within n bad fitting s found)
leb128_on n bad fitting s (Some string) = value_behind_on bad string s (fitting string)
leb128_on n bad fitting s None = on_if _ on_err on_err

pub unsigned_on : (s : Stretch) → ReadsOn s (unsigned_at s)
unsigned_on s = leb128_on 10 BadUnsignedLeb128 (unsigned_below 64) s (string_of (take 10 s.bytes))

pub unsigned_16_on : (s : Stretch) → ReadsOn s (unsigned_16_at s)
unsigned_16_on s = leb128_on 3 BadUnsignedLeb128 (unsigned_below 16) s (string_of (take 3 s.bytes))

pub signed_on : (s : Stretch) → ReadsOn s (signed_at s)
signed_on s = leb128_on 10 BadSignedLeb128 signed_in_range s (string_of (take 10 s.bytes))

pub address_on : (size : ℕ) (s : Stretch) → ReadsOn s (address_at size s)
address_on size s = on_value _ (λ _. number_on size s)

pub address_size_on : (s : Stretch) → ReadsOn s (address_size_at s)
address_size_on s = on_then (byte_on s) (λ size le. on_value _ (λ _. on_ok le))
