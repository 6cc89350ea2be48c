-- The shortest spellings of numbers of variable length, read again.
use Rattle.std.proofs.Common.{◌≡◌, ℕ, zero, suc, ◌+◌, ◌*◌, ◌/◌, ◌%◌, ◌^◌, ◌<◌, ◌≤◌, List, [], ◌∷◌, ◌++◌, length, take, Bool, true, false, Some, Ok, nat_lt, refl, ◌∙◌, arith, inl, inr, lit<, add-one}
use Rattle.std.proofs.lemmas.Bool.{cases_lt}
use Rattle.std.proofs.lemmas.Bool.Decides.{nat_tests}
use Rattle.std.proofs.lemmas.List.{drop_at}
use Rattle.std.proofs.Math.Nat.{pow-suc, mul-le-mul_left}
use Rattle.dwarf_readers.specs.Leb128.{string_of, unsigned_at, unsigned_value}
use Rattle.dwarf_readers.specs.Unsigned.{groups_of, unsigned_string}

-- there is room for one more group
pub group_room : (v count : ℕ) → count ≤ 9 → v * 128 ^ count < 2 ^ 64 → 128 ≤ v → count < 9
group_room v count most fits large = elim (cases_lt count 9) [
  | inl less ↦ less
  | inr top ↦
      let nine : count ≡ 9 = omega arith in
      let fits_nine : v * 128 ^ 9 < 2 ^ 64 = rw nine at fits in
      omega arith
]

-- the rest behind one more group
pub rest_fits : (v count : ℕ) → v * 128 ^ count < 2 ^ 64 → v / 128 * 128 ^ (count + 1) < 2 ^ 64
rest_fits v count fits =
    let next : 128 ^ (count + 1) ≡ 128 ^ count * 128 = rw add-one (pow-suc 128 count) in
    let less : v / 128 * 128 ≤ v = omega arith in
    let scaled : 128 ^ count * (v / 128 * 128) ≤ 128 ^ count * v = mul-le-mul_left (128 ^ count) less in
    rw next (omega arith)

-- the last group
pub last_group : (n v : ℕ) → v < 128 → groups_of n v ≡ v ∷ []
last_group zero v less = refl
last_group (suc n) v less =
    let test : nat_lt v 128 ≡ true = grind (arith, nat_tests) in
    rw test refl

-- one more group
pub more_groups : (n v : ℕ) → 128 ≤ v → groups_of (suc n) v ≡ (128 + v % 128) ∷ groups_of n (v / 128)
more_groups n v large =
    let test : nat_lt v 128 ≡ false = grind (arith, nat_tests) in
    rw test refl

-- the groups are one string, whatever follows
groups_again : (n v : ℕ) (rest : List ℕ) → v < 128 ^ (n + 1) → string_of (take (n + 1) (groups_of n v ++ rest)) ≡ Some (groups_of n v)
groups_again zero v rest fits =
    let test : nat_lt v 128 ≡ true = grind (arith, nat_tests) in
    rw test refl
groups_again (suc n) v rest fits = elim (cases_lt v 128) [
  | inl less ↦
      let test : nat_lt v 128 ≡ true = grind (arith, nat_tests) in
      let more : suc n + 1 ≡ suc (n + 1) = omega arith in
      rw (last_group (suc n) v less, more, test) refl
  | inr large ↦
      let more : suc n + 1 ≡ suc (n + 1) = omega arith in
      let marked : nat_lt (128 + v % 128) 128 ≡ false = grind (arith, nat_tests) in
      let power : 128 ^ (suc n + 1) ≡ 128 * 128 ^ (n + 1) = rw (more, pow-suc 128 (n + 1)) (omega arith) in
      let below : v / 128 < 128 ^ (n + 1) = omega arith in
      rw (more_groups n v large, more, marked, groups_again n (v / 128) rest below) refl
]

-- their value
groups_value : (n v : ℕ) → v < 128 ^ (n + 1) → unsigned_value (groups_of n v) ≡ v
groups_value zero v fits = omega arith
groups_value (suc n) v fits = elim (cases_lt v 128) [
  | inl less ↦ rw (last_group (suc n) v less) (omega arith)
  | inr large ↦
      let more : suc n + 1 ≡ suc (n + 1) = omega arith in
      let power : 128 ^ (suc n + 1) ≡ 128 * 128 ^ (n + 1) = rw (more, pow-suc 128 (n + 1)) (omega arith) in
      let below : v / 128 < 128 ^ (n + 1) = omega arith in
      rw (more_groups n v large, groups_value n (v / 128) below) (omega arith)
]

-- what is spelled so is read again, and leaves exactly what follows
pub unsigned_again_lemma : (v : ℕ) (rest : List ℕ) (offset : ℕ) (big : Bool) → v < 2 ^ 64 → unsigned_at (record { bytes = unsigned_string v ++ rest; offset = offset; big = big }) ≡ Ok (v, record { bytes = rest; offset = offset + length (unsigned_string v); big = big })
unfolding unsigned_string
unsigned_again_lemma v rest offset big fits =
    let test : nat_lt v (2 ^ 64) ≡ true = grind (arith, nat_tests) in
    rw (groups_again 9 v rest (omega arith), groups_value 9 v (omega arith), test, drop_at (groups_of 9 v) rest (length (groups_of 9 v)) refl) refl

-- the spelling of a number before its first group was cut off
pub groups_start : (v : ℕ) → groups_of 9 v ≡ unsigned_string v
unfolding unsigned_string
groups_start v = refl

-- the value of n bytes
pub value_below : (bytes : List ℕ) → unsigned_value bytes < 128 ^ length bytes
value_below [] = lit< tt
value_below (b ∷ bytes) =
    let rest = value_below bytes in
    let power : 128 ^ suc (length bytes) ≡ 128 * 128 ^ length bytes = rw (pow-suc 128 (length bytes)) (omega arith) in
    rw power (omega arith)

more_than_one : (m v : ℕ) → v < 128 ^ suc m → 128 ≤ v → 1 ≤ m
more_than_one zero v fits large = absurd (omega arith)
more_than_one (suc m) v fits large = omega arith

-- a number below a power has no more groups
groups_at_most : (n v m : ℕ) → 1 ≤ m → v < 128 ^ m → length (groups_of n v) ≤ m
groups_at_most zero v m some fits = some
groups_at_most (suc n) v zero some fits = absurd (omega arith)
groups_at_most (suc n) v (suc m) some fits = elim (cases_lt v 128) [
  | inl less ↦ rw (last_group (suc n) v less) (omega arith)
  | inr large ↦
      let power : 128 ^ suc m ≡ 128 * 128 ^ m = rw (pow-suc 128 m) (omega arith) in
      let below : v / 128 < 128 ^ m = omega arith in
      let more : 1 ≤ m = more_than_one m v fits large in
      let rest = groups_at_most n (v / 128) m more below in
      rw (more_groups n v large) (omega arith)
]

pub string_some : (bytes : List ℕ) → string_of bytes ≡ Some bytes → 1 ≤ length bytes
string_some [] h = absurd (cc)
string_some (b ∷ bytes) h = omega arith

-- no string of this value is shorter
pub unsigned_shortest : (v : ℕ) → v < 2 ^ 64 → (other : List ℕ) → string_of other ≡ Some other → unsigned_value other ≡ unsigned_value (unsigned_string v) → length (unsigned_string v) ≤ length other
unfolding unsigned_string
unsigned_shortest v fits other string same =
    let value : unsigned_value other ≡ v = same ∙ groups_value 9 v (omega arith) in
    let below : v < 128 ^ length other = rw value at (value_below other) in
    groups_at_most 9 v (length other) (string_some other string) below
