-- No read leaves more bytes than there were.
use Rattle.std.proofs.Common.{◌≡◌, ℕ, zero, suc, ◌+◌, ◌^◌, ◌≤◌, Bool, true, false, cond, List, [], ◌∷◌, length, take, slice_index, Option, Some, None, option_map, Result, Ok, Err, nat_lt, subst, refl, arith, length-drop}
use Rattle.std.proofs.lemmas.Bool.Decides.{nat_tests}
use Rattle.std.specs.Int.{Width, byte_len, cast_signed, w8}
use Rattle.dwarf_constants.specs.Format.{word_size}
use Rattle.dwarf_constants.specs.declared.common.Format.{Format}
use Rattle.dwarf_constants.specs.declared.common.Format.TheVariants.{Dwarf64}
use Rattle.dwarf_constants.specs.declared.error.Error.{Error}
use Rattle.dwarf_constants.specs.declared.error.Error.TheVariants.{BadSignedLeb128, BadUnsignedLeb128, UnsupportedAddressSize, UnsupportedOffsetSize}
use Rattle.dwarf_endianity.specs.ByteOrder.{number_of}
use Rattle.dwarf_readers.specs.InitialLength.{address_at, address_size_at, as_offset, initial_length_at, is_size, length_behind, sized_offset_at, word_at}
use Rattle.dwarf_readers.specs.Leb128.{behind_string, leb128_within, signed_at, signed_in_range, string_of, unsigned_16_at, unsigned_32_at, unsigned_at, unsigned_below, value_behind}
use Rattle.dwarf_endianity.specs.Offset.{offset_below}
use Rattle.dwarf_readers.specs.Stretch.{Stretch, ◌>>=◌, behind, behind_at, byte_at, bytes_at, count_before, ends_at, found_at, prefix, requirement, number_at, signed_byte_at, signed_number_at, split_at, string_at}
use Rattle.dwarf_readers.specs.Remainder.{IsLessLeft, IsShorter, LeavesLess, Passes, Takes, TakesItem, item_at, size_of}
use Rattle.dwarf_readers.proofs.Following.{string_inside, whole_inside}
use Rattle.dwarf_readers.proofs.Places.{count_before_lt}
use Rattle.list_laws.specs.Items.{Answer, Shrinks}

-- ---- one after the other

less_then : {X Y : Type 0} (rest : X → Option Stretch) (other : Y → Option Stretch) (n m : ℕ) (s : Stretch) (first : Result X Error) (next : X → Result Y Error) → IsLessLeft rest n s first → ((x : X) → IsShorter n s (rest x) → LeavesLess other m s (next x)) → IsLessLeft other m s (first >>= next)
less_then rest other n m s (Ok x) next h others = (others x h).less
less_then rest other n m s (Err e) next h others = tt

-- one answer after another
pub leaves_then : {X Y : Type 0} {rest : X → Option Stretch} {other : Y → Option Stretch} {n m : ℕ} {s : Stretch} {first : Result X Error} {next : X → Result Y Error} → LeavesLess rest n s first → ((x : X) → IsShorter n s (rest x) → LeavesLess other m s (next x)) → LeavesLess other m s (first >>= next)
leaves_then {rest = rest} {other = other} {n = n} {m = m} {s = s} {first = first} {next = next} h others = record { less = less_then rest other n m s first next h.less others }

-- .. either of two
pub leaves_if : {X : Type 0} {rest : X → Option Stretch} {n : ℕ} {s : Stretch} {a b : Result X Error} (test : Bool) → LeavesLess rest n s a → LeavesLess rest n s b → LeavesLess rest n s (cond test a b)
leaves_if true p q = p
leaves_if false p q = q

pub leaves_err : {X : Type 0} {rest : X → Option Stretch} {n : ℕ} {s : Stretch} {e : Error} → LeavesLess rest n s (Err e)
leaves_err = record { less = tt }

pub leaves_ok : {X : Type 0} {rest : X → Option Stretch} {n : ℕ} {s : Stretch} {x : X} → IsShorter n s (rest x) → LeavesLess rest n s (Ok x)
leaves_ok h = record { less = h }

-- .. a value alone, from which nothing is left
pub leaves_none : {X : Type 0} {n : ℕ} {s : Stretch} (value : Result X Error) → LeavesLess (λ _. None) n s value
leaves_none (Ok x) = record { less = tt }
leaves_none (Err e) = record { less = tt }

shorter_from : (n m : ℕ) (s t : Stretch) (rest : Option Stretch) → IsShorter n t rest → m + length t.bytes ≤ n + length s.bytes → IsShorter m s rest
shorter_from n m s t (Some rest) h le = omega arith
shorter_from n m s t None h le = tt

less_from : {X : Type 0} (rest : X → Option Stretch) (n m : ℕ) (s t : Stretch) (answer : Result X Error) → IsLessLeft rest n t answer → m + length t.bytes ≤ n + length s.bytes → IsLessLeft rest m s answer
less_from rest n m s t (Ok x) h le = shorter_from n m s t (rest x) h le
less_from rest n m s t (Err e) h le = tt

-- .. from what another left
pub leaves_from : {X : Type 0} {rest : X → Option Stretch} {n m : ℕ} {s t : Stretch} {answer : Result X Error} → LeavesLess rest n t answer → m + length t.bytes ≤ n + length s.bytes → LeavesLess rest m s answer
leaves_from {rest = rest} {n = n} {m = m} {s = s} {t = t} {answer = answer} h le = record { less = less_from rest n m s t answer h.less le }

-- what is left where it is known
pub leaves_is : {X : Type 0} {rest : X → Option Stretch} {n : ℕ} {s : Stretch} {answer : Result X Error} {x : X} → LeavesLess rest n s answer → answer ≡ Ok x → IsShorter n s (rest x)
leaves_is {X = X} {rest = rest} {n = n} {s = s} h is = let P : Result X Error → Type 0 = IsLessLeft rest n s in subst P is h.less

-- ---- fixed sizes

behind_less : (n : ℕ) (s : Stretch) → n ≤ length s.bytes → n + length (behind n s).bytes ≤ length s.bytes
behind_less n s enough = omega (arith, length-drop n s.bytes)

-- an answer where n bytes are there
where_there : {X : Type 0} {rest : X → Option Stretch} {m : ℕ} (n : ℕ) (s : Stretch) (e : Error) (x : X) → (n ≤ length s.bytes → IsShorter m s (rest x)) → LeavesLess rest m s (cond (nat_lt (length s.bytes) n) (Err e) (Ok x))
where_there {rest = rest} {m = m} n s e x h = by_test (nat_lt (length s.bytes) n) refl
  where
    by_test : (test : Bool) → nat_lt (length s.bytes) n ≡ test → LeavesLess rest m s (cond test (Err e) (Ok x))
    by_test true is = leaves_err
    by_test false is = leaves_ok (h (grind (arith, nat_tests)))

-- a value and what is left behind n bytes
fixed_takes : {A : Type 0} (n : ℕ) (s : Stretch) (e : Error) (x : A) → Takes n s (cond (nat_lt (length s.bytes) n) (Err e) (Ok (x, behind n s)))
fixed_takes n s e x = where_there n s e (x, behind n s) (behind_less n s)

pub bytes_takes : (n : ℕ) (s : Stretch) → Takes n s (bytes_at n s)
bytes_takes n s = fixed_takes n s (ends_at s.offset) (take n s.bytes)

pub split_takes : (n : ℕ) (s : Stretch) → Takes n s (split_at n s)
split_takes n s = fixed_takes n s (ends_at s.offset) (prefix n s)

pub number_takes : (n : ℕ) (s : Stretch) → Takes n s (number_at n s)
number_takes n s = fixed_takes n s (ends_at s.offset) (number_of s.big (take n s.bytes))

pub signed_number_takes : (w : Width) (s : Stretch) → Takes (byte_len w) s (signed_number_at w s)
signed_number_takes w s = fixed_takes (byte_len w) s (ends_at s.offset) (cast_signed w (number_of s.big (take (byte_len w) s.bytes)))

pub byte_takes : (s : Stretch) → Takes 1 s (byte_at s)
byte_takes s = fixed_takes 1 s (ends_at s.offset) (slice_index s.bytes 0)

pub signed_byte_takes : (s : Stretch) → Takes 1 s (signed_byte_at s)
signed_byte_takes s = fixed_takes 1 s (ends_at s.offset) (cast_signed w8 (slice_index s.bytes 0))

pub behind_passes : (n : ℕ) (s : Stretch) → Passes n s (behind_at n s)
behind_passes n s = where_there n s (ends_at s.offset) (behind n s) (behind_less n s)

-- ---- offsets, lengths and addresses

offset_takes : (limit m : ℕ) (s : Stretch) (x : ℕ × Stretch) → m + length x.1.bytes ≤ length s.bytes → Takes m s (as_offset limit x)
offset_takes limit m s x le = leaves_then {n = 0} (leaves_none (offset_below limit x.0)) (λ offset _. leaves_ok le)

pub word_takes : (limit : ℕ) (format : Format) (s : Stretch) → Takes (word_size format) s (word_at limit format s)
word_takes limit format s = leaves_then (number_takes (word_size format) s) (λ x le. offset_takes limit (word_size format) s x le)

length_takes : (limit m : ℕ) (s : Stretch) (x : ℕ × Stretch) → m + length x.1.bytes ≤ length s.bytes → Takes m s (length_behind limit x)
length_takes limit m s x le =
    leaves_if _ (leaves_then (offset_takes limit m s x le) (λ length le. leaves_ok le))
    (leaves_if _ (leaves_then (leaves_from {m = m} (word_takes limit Dwarf64 x.1) (omega arith)) (λ length less. leaves_ok less))
    leaves_err)

pub initial_length_takes : (limit : ℕ) (s : Stretch) → Takes 4 s (initial_length_at limit s)
initial_length_takes limit s = leaves_then (number_takes 4 s) (λ x le. length_takes limit 4 s x le)

-- a size is a byte at least
size_some : (size : ℕ) (e : Error) (x : Unit {0}) → requirement (is_size size) e ≡ Ok x → 1 ≤ size
size_some zero e x h = absurd (cc)
size_some (suc n) e x h = omega arith

-- a number whose size is looked at first
sized_takes : (size : ℕ) (e : Error) (s : Stretch) → Takes size s (requirement (is_size size) e >>= λ _. number_at size s)
sized_takes size e s = leaves_then {n = 0} (leaves_none (requirement (is_size size) e)) (λ _ _. number_takes size s)

sized_takes_one : (size : ℕ) (e : Error) (s : Stretch) → Takes 1 s (requirement (is_size size) e >>= λ _. number_at size s)
sized_takes_one size e s = by_size (requirement (is_size size) e) (size_some size e)
  where
    by_size : (test : Result (Unit {0}) Error) → ((x : Unit {0}) → test ≡ Ok x → 1 ≤ size) → Takes 1 s (test >>= λ _. number_at size s)
    by_size (Ok x) some = let one = some x refl in leaves_from (number_takes size s) (omega arith)
    by_size (Err e) some = leaves_err

pub address_takes : (size : ℕ) (s : Stretch) → Takes size s (address_at size s)
address_takes size s = sized_takes size (UnsupportedAddressSize size) s

pub address_takes_one : (size : ℕ) (s : Stretch) → Takes 1 s (address_at size s)
address_takes_one size s = sized_takes_one size (UnsupportedAddressSize size) s

pub sized_offset_takes : (limit size : ℕ) (s : Stretch) → Takes size s (sized_offset_at limit size s)
sized_offset_takes limit size s = leaves_then (sized_takes size (UnsupportedOffsetSize size) s) (λ x le. offset_takes limit size s x le)

pub address_size_takes : (s : Stretch) → Takes 1 s (address_size_at s)
address_size_takes s = leaves_then (byte_takes s) (λ size le. leaves_then {n = 0} (leaves_none (requirement (is_size size.0) (UnsupportedAddressSize size.0))) (λ _ _. leaves_ok le))

-- ---- numbers of variable length

string_some : (bytes string : List ℕ) → string_of bytes ≡ Some string → 1 ≤ length string
string_some [] string is = absurd (cc)
string_some (b ∷ bytes) string is = by_test (nat_lt b 128) (string_of bytes) is
  where
    by_test : (test : Bool) (tail : Option (List ℕ)) → cond test (Some (b ∷ [])) (option_map (λ (string : List ℕ). b ∷ string) tail) ≡ Some string → 1 ≤ length string
    by_test true tail is = let e : b ∷ [] ≡ string = cc in rw (← e) (omega arith)
    by_test false None is = absurd (cc)
    by_test false (Some tail) is = let e : b ∷ tail ≡ string = cc in rw (← e) (omega arith)

value_takes : {A : Type 0} (bad : Error) (string : List ℕ) (s : Stretch) (value : Option A) → 1 ≤ length string → length string ≤ length s.bytes → Takes 1 s (value_behind bad string s value)
value_takes bad string s (Some value) some inside = leaves_ok (omega (arith, behind_less (length string) s inside))
value_takes bad string s None some inside = leaves_err

pub leb128_takes : {A : Type 0} (n : ℕ) (bad : Error) (fitting : List ℕ → Option A) (s : Stretch) → Takes 1 s (leb128_within n bad fitting s (string_of (take n s.bytes)))
leb128_takes {A = A} n bad fitting s = by_string (string_of (take n s.bytes)) refl
  where
    by_string : (found : Option (List ℕ)) → string_of (take n s.bytes) ≡ found → Takes 1 s (leb128_within n bad fitting s found)
    by_string (Some string) is = value_takes bad string s (fitting string) (string_some (take n s.bytes) string is) (string_inside s.bytes n string is)
    by_string None is = leaves_if _ leaves_err leaves_err

pub unsigned_takes : (s : Stretch) → Takes 1 s (unsigned_at s)
unsigned_takes s = leb128_takes 10 BadUnsignedLeb128 (unsigned_below 64) s

pub unsigned_16_takes : (s : Stretch) → Takes 1 s (unsigned_16_at s)
unsigned_16_takes s = leb128_takes 3 BadUnsignedLeb128 (unsigned_below 16) s

pub unsigned_32_takes : (s : Stretch) → Takes 1 s (unsigned_32_at s)
unsigned_32_takes s = leaves_then (unsigned_takes s) (λ n le. leaves_then {n = 0} (leaves_none (requirement (nat_lt n.0 (2 ^ 32)) BadUnsignedLeb128)) (λ _ _. leaves_ok le))

pub signed_takes : (s : Stretch) → Takes 1 s (signed_at s)
signed_takes s = leb128_takes 10 BadSignedLeb128 signed_in_range s

pub skip_passes : (s : Stretch) → Passes 1 s (behind_string s (string_of s.bytes))
skip_passes s = by_string (string_of s.bytes) refl
  where
    by_string : (found : Option (List ℕ)) → string_of s.bytes ≡ found → Passes 1 s (behind_string s found)
    by_string (Some string) is =
        let some = string_some s.bytes string is in
        leaves_ok (omega (arith, behind_less (length string) s (whole_inside s.bytes string is)))
    by_string None is = leaves_err

-- ---- strings that end with a zero

pub string_takes : (s : Stretch) → Takes 1 s (string_at s)
string_takes s = by_count (count_before 0 s.bytes) refl
  where
    by_count : (found : Option ℕ) → count_before 0 s.bytes ≡ found → Takes 1 s (found_at s found >>= λ n. Ok (prefix n s, behind (n + 1) s))
    by_count (Some n) is =
        let inside = count_before_lt 0 s.bytes n is in
        leaves_ok (omega (arith, behind_less (n + 1) s (omega arith)))
    by_count None is = leaves_err

-- ---- items

-- items that take a byte each
pub items_shrink : {A : Type 0} (step : Stretch → Answer Stretch A Error) → ((s : Stretch) → TakesItem 1 s (step s)) → Shrinks size_of step
items_shrink step takes = record { smaller = λ s rest item is. let less = leaves_is (takes s) is in omega arith }

-- an item is read where bytes are left
pub item_takes : {A : Type 0} (n : ℕ) (read : Stretch → Result (A × Stretch) Error) (s : Stretch) → Takes n s (read s) → TakesItem n s (item_at read s)
item_takes n read s takes = leaves_if _ (leaves_ok tt) (leaves_then takes (λ item le. leaves_ok le))
