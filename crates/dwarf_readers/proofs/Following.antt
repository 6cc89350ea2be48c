-- Reads from a stretch that more bytes follow.
use Rattle.std.proofs.Common.{◌≡◌, ℕ, zero, suc, ◌+◌, ◌^◌, ◌<◌, ◌≤◌, List, [], ◌∷◌, ◌++◌, length, take, slice_index, Bool, true, false, cond, ◌==◌, Option, Some, None, option_map, Result, Ok, Err, nat_lt, refl, ap, arith, length-append}
use Rattle.std.proofs.lemmas.Bool.Decides.{nat_tests}
use Rattle.std.proofs.lemmas.List.{drop-append-le, take-append-le}
use Rattle.std.specs.Int.{Width, byte_len, cast_signed, w8}
use Rattle.dwarf_constants.specs.Format.{word_size}
use Rattle.dwarf_constants.specs.declared.common.Format.{Format}
use Rattle.dwarf_constants.specs.declared.common.Format.TheVariants.{Dwarf32, Dwarf64}
use Rattle.dwarf_constants.specs.declared.error.Error.{Error}
use Rattle.dwarf_constants.specs.declared.error.Error.TheVariants.{BadSignedLeb128, BadUnsignedLeb128, UnknownReservedLength, UnsupportedAddressSize, UnsupportedOffsetSize}
use Rattle.dwarf_endianity.specs.ByteOrder.{number_of}
use Rattle.dwarf_readers.specs.InitialLength.{address_at, address_size_at, as_offset, initial_length_at, is_size, length_behind, sized_number_at, sized_offset_at, word_at}
use Rattle.dwarf_readers.specs.Leb128.{behind_string, leb128_within, signed_at, signed_in_range, string_of, unsigned_16_at, unsigned_32_at, unsigned_at, unsigned_below, value_behind}
use Rattle.dwarf_readers.specs.More.{IsSteady, IsSteadyMove, IsSteadySearch, Stays, StaysAs, extended_stretch}
use Rattle.dwarf_endianity.specs.Offset.{offset_below}
use Rattle.dwarf_readers.specs.Stretch.{Stretch, ◌>>=◌, behind, behind_at, byte_at, bytes_at, count_before, end_of, ends_at, found_at, prefix, prefix_at, requirement, number_at, signed_byte_at, signed_number_at, split_at, string_at}
use Rattle.dwarf_readers.proofs.Places.{count_before_lt}

-- the same answer, whatever follows
pub refusal_stays : {A : Type 0} (more : List ℕ) (e : Error) → Stays {A = A} more (Err e) (Err e)
refusal_stays more e = λ lasting. refl

-- one step after another
pub then_stays_as : {A B : Type 0} (first : A → A) (second : B → B) (before after : Result A Error) (next later : A → Result B Error) → StaysAs first before after → ((x : A) → StaysAs second (next x) (later (first x))) → StaysAs second (before >>= next) (after >>= later)
then_stays_as first second (Ok x) after next later same rest = rw same (rest x)
then_stays_as first second (Err e) after next later same rest = λ lasting. rw (same lasting) refl

-- one read after another
pub then_stays : {A B : Type 0} (more : List ℕ) (before after : Result (A × Stretch) Error) (next : A × Stretch → Result (B × Stretch) Error) → Stays more before after → ((x : A) → (left : Stretch) → Stays more (next (x, left)) (next (x, extended_stretch more left))) → Stays more (before >>= next) (after >>= next)
then_stays {A = A} {B = B} more before after next same rest = then_stays_as (λ (read : A × Stretch). (read.0, extended_stretch more read.1)) (λ (read : B × Stretch). (read.0, extended_stretch more read.1)) before after next next same (λ read. rest read.0 read.1)

pub steady_then : {A B : Type 0} (read : Stretch → Result (A × Stretch) Error) (next : A × Stretch → Result (B × Stretch) Error) → IsSteady read → ((x : A) → IsSteady (λ left. next (x, left))) → IsSteady (λ s. read s >>= next)
steady_then read next first rest = λ more s. then_stays more (read s) (read (extended_stretch more s)) next (first more s) (λ x left. rest x more left)

-- a read behind a test that doesn't look at the bytes
pub given_stays_as : {A : Type 0} (change : A → A) (test : Bool) (e : Error) (before after : Result A Error) → StaysAs change before after → StaysAs change (requirement test e >>= λ _. before) (requirement test e >>= λ _. after)
given_stays_as change true e before after same = same
given_stays_as change false e before after same = λ lasting. refl

pub given_stays : {A : Type 0} (more : List ℕ) (test : Bool) (e : Error) (before after : Result (A × Stretch) Error) → Stays more before after → Stays more (requirement test e >>= λ _. before) (requirement test e >>= λ _. after)
given_stays {A = A} more test e before after same = given_stays_as (λ (read : A × Stretch). (read.0, extended_stretch more read.1)) test e before after same

pub cond_stays : {A : Type 0} (more : List ℕ) (test : Bool) (a b c d : Result (A × Stretch) Error) → Stays more a b → Stays more c d → Stays more (cond test a c) (cond test b d)
cond_stays more true a b c d same other = same
cond_stays more false a b c d same other = other

-- a value from a number that was read, and what is left
pub value_stays : {A : Type 0} (more : List ℕ) (value : Result A Error) (left : Stretch) → Stays more (value >>= λ x. Ok (x, left)) (value >>= λ x. Ok (x, extended_stretch more left))
value_stays more (Ok x) left = refl
value_stays more (Err e) left = λ lasting. refl

-- what is left behind bytes that are there
pub behind_followed : (more : List ℕ) (n : ℕ) (s : Stretch) → n ≤ length s.bytes → behind n (extended_stretch more s) ≡ extended_stretch more (behind n s)
behind_followed more n s enough = rw (drop-append-le n s.bytes more enough) refl

pub front_followed : (more : List ℕ) (n : ℕ) (s : Stretch) → n ≤ length s.bytes → prefix n (extended_stretch more s) ≡ prefix n s
front_followed more n s enough = rw (take-append-le n s.bytes more enough) refl

behind_by : (test : Bool) (n : ℕ) (more : List ℕ) (s : Stretch) → nat_lt (length s.bytes) n ≡ test → StaysAs (extended_stretch more) (cond test (Err (ends_at s.offset)) (Ok (behind n s))) (behind_at n (extended_stretch more s))
behind_by true n more s is = λ lasting. absurd (lasting s.offset refl)
behind_by false n more s is =
    let enough : n ≤ length s.bytes = grind (arith, nat_tests) in
    let test : nat_lt (length (s.bytes ++ more)) n ≡ false = grind (arith, nat_tests, length-append) in
    rw (test, behind_followed more n s enough) refl

pub behind_steady : (n : ℕ) → IsSteadyMove (behind_at n)
behind_steady n = λ more s. behind_by (nat_lt (length s.bytes) n) n more s refl

front_by : (test : Bool) (n : ℕ) (more : List ℕ) (s : Stretch) → nat_lt (length s.bytes) n ≡ test → StaysAs (λ (found : Stretch). found) (cond test (Err (ends_at s.offset)) (Ok (prefix n s))) (prefix_at n (extended_stretch more s))
front_by true n more s is = λ lasting. absurd (lasting s.offset refl)
front_by false n more s is =
    let enough : n ≤ length s.bytes = grind (arith, nat_tests) in
    let test : nat_lt (length (s.bytes ++ more)) n ≡ false = grind (arith, nat_tests, length-append) in
    rw (test, front_followed more n s enough) refl

pub front_steady : (n : ℕ) → IsSteadySearch (prefix_at n)
front_steady n = λ more s. front_by (nat_lt (length s.bytes) n) n more s refl

-- a read of n bytes, by the test of their count
fixed_by : {A : Type 0} (test : Bool) (n : ℕ) (value : Stretch → A) (more : List ℕ) (s : Stretch) → nat_lt (length s.bytes) n ≡ test → (n ≤ length s.bytes → value (extended_stretch more s) ≡ value s) → Stays more (cond test (Err (ends_at s.offset)) (Ok (value s, behind n s))) (cond (nat_lt (length (s.bytes ++ more)) n) (Err (ends_at s.offset)) (Ok (value (extended_stretch more s), behind n (extended_stretch more s))))
fixed_by true n value more s is same = λ lasting. absurd (lasting s.offset refl)
fixed_by false n value more s is same =
    let enough : n ≤ length s.bytes = grind (arith, nat_tests) in
    let test : nat_lt (length (s.bytes ++ more)) n ≡ false = grind (arith, nat_tests, length-append) in
    rw (test, same enough, behind_followed more n s enough) refl

fixed_stays : {A : Type 0} (n : ℕ) (value : Stretch → A) (more : List ℕ) (s : Stretch) → (n ≤ length s.bytes → value (extended_stretch more s) ≡ value s) → Stays more (cond (nat_lt (length s.bytes) n) (Err (ends_at s.offset)) (Ok (value s, behind n s))) (cond (nat_lt (length (s.bytes ++ more)) n) (Err (ends_at s.offset)) (Ok (value (extended_stretch more s), behind n (extended_stretch more s))))
fixed_stays n value more s same = fixed_by (nat_lt (length s.bytes) n) n value more s refl same

first_followed : (bytes more : List ℕ) → 1 ≤ length bytes → slice_index (bytes ++ more) 0 ≡ slice_index bytes 0
first_followed [] more some = absurd (omega arith)
first_followed (b ∷ bytes) more some = refl

pub bytes_steady : (n : ℕ) → IsSteady (bytes_at n)
bytes_steady n = λ more s. fixed_stays n (λ (s : Stretch). take n s.bytes) more s (λ enough. take-append-le n s.bytes more enough)

pub split_steady : (n : ℕ) → IsSteady (split_at n)
split_steady n = λ more s. fixed_stays n (prefix n) more s (front_followed more n s)

pub number_steady : (n : ℕ) → IsSteady (number_at n)
number_steady n = λ more s. fixed_stays n (λ (s : Stretch). number_of s.big (take n s.bytes)) more s (λ enough. ap (number_of s.big) (take-append-le n s.bytes more enough))

pub signed_number_steady : (w : Width) → IsSteady (signed_number_at w)
signed_number_steady w = λ more s. fixed_stays (byte_len w) (λ (s : Stretch). cast_signed w (number_of s.big (take (byte_len w) s.bytes))) more s (λ enough. ap (λ (bytes : List ℕ). cast_signed w (number_of s.big bytes)) (take-append-le (byte_len w) s.bytes more enough))

pub byte_steady : IsSteady byte_at
byte_steady = λ more s. fixed_stays 1 (λ (s : Stretch). slice_index s.bytes 0) more s (first_followed s.bytes more)

pub signed_byte_steady : IsSteady signed_byte_at
signed_byte_steady = λ more s. fixed_stays 1 (λ (s : Stretch). cast_signed w8 (slice_index s.bytes 0)) more s (λ enough. ap (cast_signed w8) (first_followed s.bytes more enough))

-- offsets
offset_stays : (limit n : ℕ) → IsSteady (λ left. as_offset limit (n, left))
offset_stays limit n = λ more left. value_stays more (offset_below limit n) left

pub word_steady : (limit : ℕ) (format : Format) → IsSteady (word_at limit format)
word_steady limit format = steady_then (number_at (word_size format)) (as_offset limit) (number_steady (word_size format)) (offset_stays limit)

pub address_steady : (size : ℕ) → IsSteady (address_at size)
address_steady size = λ more s. given_stays more (is_size size) (UnsupportedAddressSize size) (number_at size s) (number_at size (extended_stretch more s)) (number_steady size more s)

sized_number_steady : (size : ℕ) → IsSteady (sized_number_at size)
sized_number_steady size = λ more s. given_stays more (is_size size) (UnsupportedOffsetSize size) (number_at size s) (number_at size (extended_stretch more s)) (number_steady size more s)

pub sized_offset_steady : (limit size : ℕ) → IsSteady (sized_offset_at limit size)
sized_offset_steady limit size = steady_then (sized_number_at size) (as_offset limit) (sized_number_steady size) (offset_stays limit)

pub address_size_steady : IsSteady address_size_at
address_size_steady = steady_then byte_at (λ size. requirement (is_size size.0) (UnsupportedAddressSize size.0) >>= λ _. Ok size) byte_steady (λ n more left. given_stays more (is_size n) (UnsupportedAddressSize n) (Ok (n, left)) (Ok (n, extended_stretch more left)) refl)

length_steady : (limit n : ℕ) → IsSteady (λ left. length_behind limit (n, left))
length_steady limit n = λ more left. cond_stays more (nat_lt n 0xfffffff0) _ _ _ _
    (then_stays more (as_offset limit (n, left)) (as_offset limit (n, extended_stretch more left)) (λ length. Ok ((length.0, Dwarf32), length.1)) (offset_stays limit n more left) (λ x left. refl))
    (cond_stays more (n == 0xffffffff) _ _ _ _
    (then_stays more (word_at limit Dwarf64 left) (word_at limit Dwarf64 (extended_stretch more left)) (λ length. Ok ((length.0, Dwarf64), length.1)) (word_steady limit Dwarf64 more left) (λ x left. refl))
    (refusal_stays more UnknownReservedLength))

pub initial_length_steady : (limit : ℕ) → IsSteady (initial_length_at limit)
initial_length_steady limit = steady_then (number_at 4) (length_behind limit) (number_steady 4) (length_steady limit)

-- a string that was found among the first n bytes is found again
string_step : (test : Bool) (b : ℕ) (before after : Option (List ℕ)) (string : List ℕ) → ((tail : List ℕ) → before ≡ Some tail → after ≡ Some tail) → cond test (Some (b ∷ [])) (option_map (λ (tail : List ℕ). b ∷ tail) before) ≡ Some string → cond test (Some (b ∷ [])) (option_map (λ (tail : List ℕ). b ∷ tail) after) ≡ Some string
string_step true b before after string same is = is
string_step false b None after string same is = absurd (cc)
string_step false b (Some tail) after string same is = rw (same tail refl) is

string_followed : (bytes more : List ℕ) (n : ℕ) (string : List ℕ) → string_of (take n bytes) ≡ Some string → string_of (take n (bytes ++ more)) ≡ Some string
string_followed [] more zero string is = absurd (cc)
string_followed [] more (suc n) string is = absurd (cc)
string_followed (b ∷ bytes) more zero string is = absurd (cc)
string_followed (b ∷ bytes) more (suc n) string is = string_step (nat_lt b 128) b (string_of (take n bytes)) (string_of (take n (bytes ++ more))) string (string_followed bytes more n) is

-- .. and lies inside
string_size : (test : Bool) (b : ℕ) (found : Option (List ℕ)) (string : List ℕ) (k : ℕ) → ((tail : List ℕ) → found ≡ Some tail → length tail ≤ k) → cond test (Some (b ∷ [])) (option_map (λ (tail : List ℕ). b ∷ tail) found) ≡ Some string → length string ≤ suc k
string_size true b found string k less is = let e : b ∷ [] ≡ string = cc in rw (← e) (omega arith)
string_size false b None string k less is = absurd (cc)
string_size false b (Some tail) string k less is = let e : b ∷ tail ≡ string = cc in let rest = less tail refl in rw (← e) (omega arith)

pub string_inside : (bytes : List ℕ) (n : ℕ) (string : List ℕ) → string_of (take n bytes) ≡ Some string → length string ≤ length bytes
string_inside [] zero string is = absurd (cc)
string_inside [] (suc n) string is = absurd (cc)
string_inside (b ∷ bytes) zero string is = absurd (cc)
string_inside (b ∷ bytes) (suc n) string is = string_size (nat_lt b 128) b (string_of (take n bytes)) string (length bytes) (string_inside bytes n) is

-- the value of a string that was found
value_behind_stays : {A : Type 0} (bad : Error) (string more : List ℕ) (s : Stretch) (value : Option A) → length string ≤ length s.bytes → Stays more (value_behind bad string s value) (value_behind bad string (extended_stretch more s) value)
value_behind_stays bad string more s (Some value) inside = rw (behind_followed more (length string) s inside) refl
value_behind_stays bad string more s None inside = λ lasting. refl

-- without a string the number is too long, or its bytes are missing
missing_stays : {A : Type 0} (test : Bool) (n : ℕ) (bad : Error) (fitting : List ℕ → Option A) (more : List ℕ) (s : Stretch) → nat_lt (length s.bytes) n ≡ test → string_of (take n s.bytes) ≡ None → Stays {A = A} more (cond test (Err (ends_at (s.offset + length s.bytes))) (Err bad)) (leb128_within n bad fitting (extended_stretch more s) (string_of (take n (s.bytes ++ more))))
missing_stays true n bad fitting more s is none = λ lasting. absurd (lasting (s.offset + length s.bytes) refl)
missing_stays false n bad fitting more s is none =
    let enough : n ≤ length s.bytes = grind (arith, nat_tests) in
    let test : nat_lt (length (s.bytes ++ more)) n ≡ false = grind (arith, nat_tests, length-append) in
    rw (take-append-le n s.bytes more enough, none, test) (λ lasting. refl)

leb128_by : {A : Type 0} (n : ℕ) (bad : Error) (fitting : List ℕ → Option A) (more : List ℕ) (s : Stretch) (found : Option (List ℕ)) → string_of (take n s.bytes) ≡ found → Stays more (leb128_within n bad fitting s found) (leb128_within n bad fitting (extended_stretch more s) (string_of (take n (s.bytes ++ more))))
leb128_by n bad fitting more s (Some string) is = rw (string_followed s.bytes more n string is) (value_behind_stays bad string more s (fitting string) (string_inside s.bytes n string is))
leb128_by n bad fitting more s None is = missing_stays (nat_lt (length s.bytes) n) n bad fitting more s refl is

-- numbers of variable length
pub leb128_steady : {A : Type 0} (n : ℕ) (bad : Error) (fitting : List ℕ → Option A) → IsSteady (λ s. leb128_within n bad fitting s (string_of (take n s.bytes)))
leb128_steady n bad fitting = λ more s. leb128_by n bad fitting more s (string_of (take n s.bytes)) refl

pub unsigned_steady : IsSteady unsigned_at
unsigned_steady = leb128_steady 10 BadUnsignedLeb128 (unsigned_below 64)

pub signed_steady : IsSteady signed_at
signed_steady = leb128_steady 10 BadSignedLeb128 signed_in_range

pub unsigned_16_steady : IsSteady unsigned_16_at
unsigned_16_steady = leb128_steady 3 BadUnsignedLeb128 (unsigned_below 16)

pub unsigned_32_steady : IsSteady unsigned_32_at
unsigned_32_steady = steady_then unsigned_at (λ n. requirement (nat_lt n.0 (2 ^ 32)) BadUnsignedLeb128 >>= λ _. Ok n) unsigned_steady (λ n more left. given_stays more (nat_lt n (2 ^ 32)) BadUnsignedLeb128 (Ok (n, left)) (Ok (n, extended_stretch more left)) refl)

-- a string of any length
whole_followed : (bytes more string : List ℕ) → string_of bytes ≡ Some string → string_of (bytes ++ more) ≡ Some string
whole_followed [] more string is = absurd (cc)
whole_followed (b ∷ bytes) more string is = string_step (nat_lt b 128) b (string_of bytes) (string_of (bytes ++ more)) string (whole_followed bytes more) is

pub whole_inside : (bytes string : List ℕ) → string_of bytes ≡ Some string → length string ≤ length bytes
whole_inside [] string is = absurd (cc)
whole_inside (b ∷ bytes) string is = string_size (nat_lt b 128) b (string_of bytes) string (length bytes) (whole_inside bytes) is

whole_by : (more : List ℕ) (s : Stretch) (found : Option (List ℕ)) → string_of s.bytes ≡ found → StaysAs (extended_stretch more) (behind_string s found) (behind_string (extended_stretch more s) (string_of (s.bytes ++ more)))
whole_by more s (Some string) is = rw (whole_followed s.bytes more string is, behind_followed more (length string) s (whole_inside s.bytes string is)) refl
whole_by more s None is = λ lasting. absurd (lasting (end_of s) refl)

pub skip_steady : IsSteadyMove (λ s. behind_string s (string_of s.bytes))
skip_steady = λ more s. whole_by more s (string_of s.bytes) refl

-- the first of a value is found again
count_step : (here : Bool) (before after : Option ℕ) (n : ℕ) → ((m : ℕ) → before ≡ Some m → after ≡ Some m) → cond here (Some 0) (option_map suc before) ≡ Some n → cond here (Some 0) (option_map suc after) ≡ Some n
count_step true before after n same is = is
count_step false None after n same is = absurd (cc)
count_step false (Some m) after n same is = rw (same m refl) is

count_followed : (byte : ℕ) (bytes more : List ℕ) (n : ℕ) → count_before byte bytes ≡ Some n → count_before byte (bytes ++ more) ≡ Some n
count_followed byte [] more n is = absurd (cc)
count_followed byte (b ∷ bytes) more n is = count_step (b == byte) (count_before byte bytes) (count_before byte (bytes ++ more)) n (count_followed byte bytes more) is

string_by : (more : List ℕ) (s : Stretch) (found : Option ℕ) → count_before 0 s.bytes ≡ found → Stays more (found_at s found >>= λ n. Ok (prefix n s, behind (n + 1) s)) (string_at (extended_stretch more s))
string_by more s (Some n) is =
    let inside : n < length s.bytes = count_before_lt 0 s.bytes n is in
    rw (count_followed 0 s.bytes more n is, front_followed more n s (omega arith), behind_followed more (n + 1) s (omega arith)) refl
string_by more s None is = λ lasting. absurd (lasting s.offset refl)

-- strings that end with a zero
pub string_steady : IsSteady string_at
string_steady = λ more s. string_by more s (count_before 0 s.bytes) refl
