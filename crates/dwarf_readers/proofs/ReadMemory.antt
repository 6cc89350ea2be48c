-- No read says that memory ran out.
use Rattle.std.proofs.Common.{◌≡◌, ℕ, Bool, true, false, cond, List, take, Option, Some, None, Result, Ok, Err, ap}
use Rattle.std.specs.Int.{Width, byte_len}
use Rattle.std.specs.Option.{ok_or}
use Rattle.dwarf_constants.specs.declared.common.Format.TheVariants.{Dwarf64}
use Rattle.dwarf_constants.specs.declared.error.Error.{Error}
use Rattle.dwarf_constants.specs.declared.error.Error.TheVariants.{BadSignedLeb128, BadUnsignedLeb128, OutOfMemory}
use Rattle.dwarf_endianity.specs.Offset.{offset_below}
use Rattle.dwarf_readers.specs.InitialLength.{address_at, address_size_at, as_offset, initial_length_at, length_behind, word_at}
use Rattle.dwarf_readers.specs.Leb128.{leb128_within, signed_at, signed_in_range, string_of, unsigned_16_at, unsigned_at, unsigned_below, value_behind}
use Rattle.dwarf_readers.specs.Memory.{NeverWantsMemory}
use Rattle.dwarf_readers.specs.Stretch.{Stretch, ◌>>=◌, behind, behind_at, byte_at, count_before, ends_at, found_at, number_at, requirement, signed_number_at, split_at, string_at}

-- ---- one after the other

pub memory_ok : {X : Type 0} {x : X} → NeverWantsMemory {A = X} (Ok x)
memory_ok = record { never = λ h. cc }

pub memory_err : {X : Type 0} {e : Error} → (e ≡ OutOfMemory → ⊥) → NeverWantsMemory {A = X} (Err e)
memory_err other = record { never = λ h. other cc }

memory-then : {X Y : Type 0} (first : Result X Error) (next : X → Result Y Error) → NeverWantsMemory first
    → ((x : X) → NeverWantsMemory (next x)) → NeverWantsMemory (first >>= next)
memory-then (Ok x) next h others = others x
memory-then (Err e) next h others = memory_err (λ is. h.never (ap (λ (x : Error). Err x) is))

pub memory_then : {X Y : Type 0} {first : Result X Error} {next : X → Result Y Error} → NeverWantsMemory first
    → ((x : X) → NeverWantsMemory (next x)) → NeverWantsMemory (first >>= next)
memory_then {first = first} {next = next} h others = memory-then first next h others

pub memory_if : {X : Type 0} {a b : Result X Error} (test : Bool) → NeverWantsMemory a → NeverWantsMemory b → NeverWantsMemory (cond test a b)
memory_if true p q = p
memory_if false p q = q

pub memory_test : (test : Bool) (e : Error) → (e ≡ OutOfMemory → ⊥) → NeverWantsMemory (requirement test e)
memory_test true e other = memory_ok
memory_test false e other = memory_err other

pub memory_there : {X : Type 0} (value : Option X) (e : Error) → (e ≡ OutOfMemory → ⊥) → NeverWantsMemory (ok_or value e)
memory_there (Some x) e other = memory_ok
memory_there None e other = memory_err other

-- ---- reads of n bytes

fixed_memory : {A : Type 0} (at : ℕ) (x : A) (test : Bool) → NeverWantsMemory (cond test (Err (ends_at at)) (Ok x))
fixed_memory at x test = memory_if test (memory_err (λ h. cc)) memory_ok

pub byte_memory : (s : Stretch) → NeverWantsMemory (byte_at s)
byte_memory s = fixed_memory s.offset _ _

pub number_memory : (n : ℕ) (s : Stretch) → NeverWantsMemory (number_at n s)
number_memory n s = fixed_memory s.offset _ _

pub signed_number_memory : (w : Width) (s : Stretch) → NeverWantsMemory (signed_number_at w s)
signed_number_memory w s = fixed_memory s.offset _ _

pub behind_memory : (n : ℕ) (s : Stretch) → NeverWantsMemory (behind_at n s)
behind_memory n s = fixed_memory s.offset _ _

pub split_memory : (n : ℕ) (s : Stretch) → NeverWantsMemory (split_at n s)
split_memory n s = fixed_memory s.offset _ _

-- ---- numbers of variable length, and strings

value_behind_memory : {A : Type 0} (bad : Error) (string : List ℕ) (s : Stretch) (value : Option A) → (bad ≡ OutOfMemory → ⊥) → NeverWantsMemory (value_behind bad string s value)
value_behind_memory bad string s (Some value) other = memory_ok
value_behind_memory bad string s None other = memory_err other

leb128_memory : {A : Type 0} (n : ℕ) (bad : Error) (fitting : List ℕ → Option A) (s : Stretch) (found : Option (List ℕ)) → (bad ≡ OutOfMemory → ⊥) → NeverWantsMemory (leb128_within n bad fitting s found)
leb128_memory n bad fitting s (Some string) other = value_behind_memory bad string s (fitting string) other
leb128_memory n bad fitting s None other = memory_if _ (memory_err (λ h. cc)) (memory_err other)

pub unsigned_memory : (s : Stretch) → NeverWantsMemory (unsigned_at s)
unsigned_memory s = leb128_memory 10 BadUnsignedLeb128 (unsigned_below 64) s (string_of (take 10 s.bytes)) (λ h. cc)

pub unsigned_16_memory : (s : Stretch) → NeverWantsMemory (unsigned_16_at s)
unsigned_16_memory s = leb128_memory 3 BadUnsignedLeb128 (unsigned_below 16) s (string_of (take 3 s.bytes)) (λ h. cc)

pub signed_memory : (s : Stretch) → NeverWantsMemory (signed_at s)
signed_memory s = leb128_memory 10 BadSignedLeb128 signed_in_range s (string_of (take 10 s.bytes)) (λ h. cc)

found_memory : (s : Stretch) (found : Option ℕ) → NeverWantsMemory (found_at s found)
found_memory s (Some n) = memory_ok
found_memory s None = memory_err (λ h. cc)

pub string_memory : (s : Stretch) → NeverWantsMemory (string_at s)
string_memory s = memory_then (found_memory s (count_before 0 s.bytes)) (λ n. memory_ok)

-- ---- lengths, offsets and addresses

pub offset_memory : (limit n : ℕ) → NeverWantsMemory (offset_below limit n)
offset_memory limit n = memory_if _ memory_ok (memory_err (λ h. cc))

pub as_offset_memory : (limit : ℕ) (n : ℕ × Stretch) → NeverWantsMemory (as_offset limit n)
as_offset_memory limit n = memory_then (offset_memory limit n.0) (λ offset. memory_ok)

pub address_size_memory : (s : Stretch) → NeverWantsMemory (address_size_at s)
address_size_memory s = memory_then (byte_memory s) (λ size. memory_then (memory_test _ _ (λ h. cc)) (λ _. memory_ok))

pub address_memory : (size : ℕ) (s : Stretch) → NeverWantsMemory (address_at size s)
address_memory size s = memory_then (memory_test _ _ (λ h. cc)) (λ _. number_memory size s)

word_memory : (limit : ℕ) (s : Stretch) → NeverWantsMemory (word_at limit Dwarf64 s)
word_memory limit s = memory_then (number_memory 8 s) (as_offset_memory limit)

length_memory : (limit : ℕ) (n : ℕ × Stretch) → NeverWantsMemory (length_behind limit n)
length_memory limit n =
    memory_if _ (memory_then (as_offset_memory limit n) (λ length. memory_ok))
    (memory_if _ (memory_then (word_memory limit n.1) (λ length. memory_ok))
    (memory_err (λ h. cc)))

pub initial_length_memory : (limit : ℕ) (s : Stretch) → NeverWantsMemory (initial_length_at limit s)
initial_length_memory limit s = memory_then (number_memory 4 s) (length_memory limit)
