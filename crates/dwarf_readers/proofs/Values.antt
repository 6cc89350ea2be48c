-- The values of numbers that were read byte by byte.
use Rattle.std.proofs.Common.{◌≡◌, ℕ, ◌+◌, ◌*◌, ◌%◌, ◌^◌, ◌<◌, ◌≤◌, inl, inr, List, take, slice_index, true, false, Some, None, Ok, Err, nat_lt, refl, ap, ◌∙◌, ◌-◌, arith, below_more}
use Rattle.std.proofs.lemmas.Bool.{cases_lt}
use Rattle.std.proofs.lemmas.Bool.Decides.{nat_tests}
use Rattle.std.proofs.lemmas.Nat.{pow-add}
use Rattle.std.proofs.Math.Nat.{mul-le-mul_left, pow-le-pow_right}
use Rattle.dwarf_constants.specs.declared.error.Error.TheVariants.{BadUnsignedLeb128}
use Rattle.dwarf_constants.specs.declared.error.Error.{Error}
use Rattle.dwarf_readers.specs.Groups.{AreGroups, EndsInGroups}
use Rattle.dwarf_readers.specs.Leb128.{unsigned_below, unsigned_value, unsigned_within}
use Rattle.dwarf_readers.specs.Stretch.{Stretch}
use Rattle.dwarf_readers.proofs.Strings.{number_done, number_long, number_short, number_unfit, seven_bits, value_more}

-- the value of these bytes
pub value_of : (n : ℕ) (s t : Stretch) (low last count : ℕ) → AreGroups n s low last count t → last < 128 → unsigned_value (take (count + 1) s.bytes) ≡ low + 128 ^ count * last
value_of n s t low last count is end =
    let more = value_more s.bytes count is.inside in
    let group : slice_index s.bytes count % 128 ≡ last = omega (arith, is.byte) in
    rw (more, group) (omega (arith, is.number))

below_fits : (k v : ℕ) (string : List ℕ) → unsigned_value string ≡ v → v < 2 ^ k → unsigned_below k string ≡ Some v
below_fits k v string is fits =
    let test : nat_lt v (2 ^ k) ≡ true = grind (arith, nat_tests) in
    rw (is, test) refl

below_unfit : (k : ℕ) (string : List ℕ) → 2 ^ k ≤ unsigned_value string → unsigned_below k string ≡ None
below_unfit k string large =
    let test : nat_lt (unsigned_value string) (2 ^ k) ≡ false = grind (arith, nat_tests) in
    rw test refl

-- the top byte isn't marked
pub end_of_groups : (n : ℕ) (s t : Stretch) (low last count top : ℕ) → AreGroups n s low last count t → top ≤ 128 → (count + 1 ≡ n → last < top) → last < 128
end_of_groups n s t low last count top is small limit = elim (cases_lt last 128) [
  | inl less ↦ less
  | inr marked ↦ omega (arith, limit (is.ends marked))
]

-- where n bytes may hold k bits, and the last of them has to be below top
pub record HasRoom (n k top : ℕ) : Type 0 where
  pub some : 1 ≤ k
  pub word : k ≤ 64
  pub enough : k ≤ 7 * n
  pub needed : 7 * n < k + 7
  pub values : top ≡ 2 ^ (k + 7 - 7 * n)

-- top as the code makes it
pub has_room : (n k : ℕ) → 1 ≤ k → k ≤ 64 → k ≤ 7 * n → 7 * n < k + 7 → HasRoom n k ((1 * 2 ^ (k - 7 * (n - 1))) % 2 ^ 8)
has_room n k some word enough needed =
    let bits : k - 7 * (n - 1) ≡ k + 7 - 7 * n = omega arith in
    let small : 2 ^ (k + 7 - 7 * n) ≤ 2 ^ 7 = pow-le-pow_right {n = 2} (omega arith) {i = k + 7 - 7 * n} {j = 7} (omega arith) in
    record { some = some; word = word; enough = enough; needed = needed; values = rw bits (omega arith) }

-- the power of two that doesn't fit, by the bits above count groups
power_of : (k count : ℕ) → 7 * count ≤ k → 2 ^ k ≡ 128 ^ count * 2 ^ (k - 7 * count)
power_of k count inside =
    let parts : k ≡ 7 * count + (k - 7 * count) = omega arith in
    let split : 2 ^ (7 * count + (k - 7 * count)) ≡ 2 ^ (7 * count) * 2 ^ (k - 7 * count) = pow-add 2 (7 * count) (k - 7 * count) in
    ap (λ (i : ℕ). 2 ^ i) parts ∙ split ∙ ap (λ (x : ℕ). x * 2 ^ (k - 7 * count)) (seven_bits count)

-- a value that fits is shifted and added without a loss
pub record Total (k low last count : ℕ) : Type 0 where
  pub shifted : (last * 2 ^ (7 * count)) % 2 ^ 64 ≡ 128 ^ count * last
  pub fits : low + 128 ^ count * last < 2 ^ k

total_of : (k low last count : ℕ) → k ≤ 64 → 7 * count ≤ k → low < 128 ^ count → last < 2 ^ (k - 7 * count) → Total k low last count
total_of k low last count word inside below top =
    let power = power_of k count inside in
    let step : 128 ^ count * (last + 1) ≤ 128 ^ count * 2 ^ (k - 7 * count) = mul-le-mul_left {m = last + 1} {n = 2 ^ (k - 7 * count)} (128 ^ count) (omega arith) in
    let fits : low + 128 ^ count * last < 2 ^ k = omega arith in
    let within : 2 ^ k ≤ 2 ^ 64 = pow-le-pow_right {n = 2} (omega arith) {i = k} {j = 64} word in
    let bits = seven_bits count in
    record { shifted = rw bits (omega arith); fits = fits }

-- what is below 128 fits where another group may follow
more_room : (n k count : ℕ) → 7 * n < k + 7 → count + 1 < n → 128 ≤ 2 ^ (k - 7 * count)
more_room n k count needed more = pow-le-pow_right {n = 2} (omega arith) {i = 7} {j = k - 7 * count} (omega arith)

-- the last byte that may be read has as many values as bits are left for it
top_room : (n k limit count : ℕ) → HasRoom n k limit → count + 1 ≡ n → (limit ≡ 2 ^ (k - 7 * count)) × (7 * count ≤ k) × (limit ≤ 128)
top_room n k limit count room top =
    let bits : k + 7 - 7 * n ≡ k - 7 * count = omega (arith, room.enough, room.needed) in
    let small : 2 ^ (k + 7 - 7 * n) ≤ 2 ^ 7 = pow-le-pow_right {n = 2} (omega arith) {i = k + 7 - 7 * n} {j = 7} (omega (arith, room.enough)) in
    (room.values ∙ ap (λ (i : ℕ). 2 ^ i) bits, omega (arith, room.needed), omega (arith, room.values, small))

pub unsigned_total : (n k limit : ℕ) (s t : Stretch) (low last count : ℕ) → HasRoom n k limit → AreGroups n s low last count t → (count + 1 ≡ n → last < limit) → (last < 128) × Total k low last count
unsigned_total n k limit s t low last count room is top = elim (cases_lt (count + 1) n) [
  | inl more ↦
      let end : last < 128 = end_of_groups n s t low last count 128 is (omega arith) (λ h. omega arith) in
      let wide = more_room n k count room.needed more in
      (end, total_of k low last count room.word (omega (arith, room.needed)) is.below (omega arith))
  | inr most ↦
      let all : count + 1 ≡ n = omega (arith, is.within) in
      let at_top = top_room n k limit count room all in
      let small : last < limit = top all in
      (omega (arith, at_top.2), total_of k low last count room.word at_top.1 is.below (omega (arith, at_top.0)))
]

pub unsigned_done : (n k limit : ℕ) (s t : Stretch) (low last count : ℕ) → HasRoom n k limit → AreGroups n s low last count t → (count + 1 ≡ n → last < limit) → unsigned_within n k s ≡ Ok (low + (last * 2 ^ (7 * count)) % 2 ^ 64, t)
unsigned_done n k limit s t low last count room is top =
    let sum = unsigned_total n k limit s t low last count room is top in
    let end_here : slice_index s.bytes count < 128 = omega (arith, is.byte, sum.0) in
    let value = value_of n s t low last count is sum.0 in
    rw (is.rest, sum.1.shifted) (number_done n BadUnsignedLeb128 (unsigned_below k) s count (low + 128 ^ count * last) is.within is.inside is.marked end_here
    (below_fits k (low + 128 ^ count * last) (take (count + 1) s.bytes) value sum.1.fits))

-- the bytes up to the n-th are marked, or that one is too large
pub unsigned_refused : (n k limit : ℕ) (s t : Stretch) (low last count : ℕ) → HasRoom n k limit → AreGroups n s low last count t → count + 1 ≡ n → limit ≤ last → unsigned_within n k s ≡ Err BadUnsignedLeb128
unsigned_refused n k limit s t low last count room is all large = elim (cases_lt last 128) [
  | inl end ↦
      let end_here : slice_index s.bytes count < 128 = omega (arith, is.byte) in
      let value = value_of n s t low last count is end in
      let at_top = top_room n k limit count room all in
      let power = power_of k count at_top.1 in
      let step : 128 ^ count * 2 ^ (k - 7 * count) ≤ 128 ^ count * last = mul-le-mul_left {m = 2 ^ (k - 7 * count)} {n = last} (128 ^ count) (omega (arith, at_top.0)) in
      number_unfit n BadUnsignedLeb128 (unsigned_below k) s count is.within is.inside is.marked end_here
      (below_unfit k (take (count + 1) s.bytes) (omega arith))
  | inr marked ↦
      number_long n BadUnsignedLeb128 (unsigned_below k) s (omega (arith, is.inside))
      (λ k h. below_more (λ k. 128 ≤ slice_index s.bytes k) count is.marked (omega (arith, is.byte)) k (omega arith))
]

pub unsigned_short : (n k : ℕ) (s t : Stretch) (e : Error) → EndsInGroups n s e t → unsigned_within n k s ≡ Err e
unsigned_short n k s t e is = rw is.eof (number_short n BadUnsignedLeb128 (unsigned_below k) s is.few is.marked)
