-- The part of code within a range is what its bytes at addresses are.
use Rattle.std.proofs.Common.{◌≡◌, ◌∙◌, ◌≤◌, ◌<◌, ◌+◌, ◌-◌, ℕ, zero, suc, sym, ap, arith, List, [], ◌∷◌, length, get_or, refl, max, take, drop, IsTrue, Bool, true, false, if◌then◌else◌, Some, None, inl, inr}
use Rattle.std.specs.List.{slice_get}
use Rattle.std.proofs.lemmas.Bool.{cases_lt}
use Rattle.std.proofs.lemmas.Grind.{common_steps}
use Rattle.std.proofs.lemmas.Option.{slice_get_cases, slice_get_past, slice_get_within, slice_get-get_or}
use Rattle.std.proofs.lemmas.List.{get_or-drop, get_or-take}
use Rattle.framehop_code.specs.Ranges.{is_inside}
use Rattle.framehop_code.specs.Places.{CodeBytes, SameWithin, byte_at, has_byte, within}
use Rattle.framehop_code.specs.declared.range.CodeRange.{CodeRange}

-- Lists with the same elements are the same.
pub same_list : (xs ys : List ℕ) → ((k : ℕ) → slice_get xs k ≡ slice_get ys k) → xs ≡ ys
same_list [] [] same = refl
same_list [] (y ∷ ys) same = grind (arith, same zero)
same_list (x ∷ xs) [] same = grind (arith, same zero)
same_list (x ∷ xs) (y ∷ ys) same =
    let rest : xs ≡ ys = same_list xs ys (λ k. same (suc k)) in
    grind (arith, same zero, rest)

-- A byte is where the code is.
pub has_of : (code : CodeBytes) (at byte : ℕ) → byte_at code at ≡ Some byte → (code.begin ≤ at) × (at < code.begin + length code.bytes)
has_of code at byte is = grind (arith, common_steps, is, slice_get_within code.bytes (at - code.begin) byte)

pub byte_of : (code : CodeBytes) (at : ℕ) → code.begin ≤ at → at < code.begin + length code.bytes
    → byte_at code at ≡ Some (get_or code.bytes (at - code.begin) 0)
byte_of code at low high =
    let inside : at - code.begin < length code.bytes = omega arith in
    grind (arith, common_steps, slice_get-get_or code.bytes (at - code.begin) 0 inside)

-- Code that has a byte, and another with the same bytes, begins no higher.
pub begins_low : (one other : CodeBytes) (address : ℕ) → ((at : ℕ) → byte_at one at ≡ byte_at other at)
    → one.begin ≤ address → address < one.begin + length one.bytes → other.begin ≤ one.begin
begins_low one other address same low high =
    let some : one.begin < one.begin + length one.bytes = omega arith in
    let byte = byte_of one one.begin (omega arith) some in
    (has_of other one.begin _ (sym (same one.begin) ∙ byte)).0

-- The byte at a place.
pub byte_there : (code : CodeBytes) (place : ℕ) → byte_at code (code.begin + place) ≡ slice_get code.bytes place
byte_there code place = grind (arith, common_steps)

-- Code with the same bytes is the same, if it has one.
pub same_code : (one other : CodeBytes) (address : ℕ) → ((at : ℕ) → byte_at one at ≡ byte_at other at)
    → IsTrue (has_byte one address) → one ≡ other
same_code one other address same has =
    let low : one.begin ≤ address = grind (arith, common_steps, has) in
    let high : address < one.begin + length one.bytes = grind (arith, common_steps, has) in
    let there = has_of other address _ (sym (same address) ∙ byte_of one address low high) in
    let begin : one.begin ≡ other.begin = omega (
      arith,
      begins_low one other address same low high,
      begins_low other one address (λ at. sym (same at)) there.0 there.1,
    ) in
    let bytes : one.bytes ≡ other.bytes = same_list one.bytes other.bytes (λ k. sym (byte_there one k) ∙ same (one.begin + k)
    ∙ ap (λ (b : ℕ). byte_at other (b + k)) begin ∙ byte_there other k) in
    ap (λ (b : ℕ). let code : CodeBytes = record { begin = b; bytes = one.bytes } in code) begin
    ∙ ap (λ (bs : List ℕ). let code : CodeBytes = record { begin = other.begin; bytes = bs } in code) bytes

-- An element behind those that are left out, and one of those that are taken.
pub dropped_get : (count : ℕ) (xs : List ℕ) (k : ℕ) → slice_get (drop count xs) k ≡ slice_get xs (count + k)
dropped_get count xs k = elim (slice_get_cases xs (count + k)).1 [
  | inl is ↦ let inside : k < length (drop count xs) = grind (arith, common_steps, is.1) in
      slice_get-get_or (drop count xs) k is.0 inside ∙ ap Some (get_or-drop count xs k is.0 ∙ is.3) ∙ sym is.2
  | inr is ↦ slice_get_past (drop count xs) k (grind (arith, common_steps, is.0)) ∙ sym is.1
]

pub taken_get : (count : ℕ) (xs : List ℕ) (k : ℕ) → k < count → slice_get (take count xs) k ≡ slice_get xs k
taken_get count xs k below = elim (slice_get_cases xs k).1 [
  | inl is ↦ let inside : k < length (take count xs) = grind (arith, common_steps, is.1, below) in
      slice_get-get_or (take count xs) k is.0 inside ∙ ap Some (get_or-take count xs k is.0 below ∙ is.3) ∙ sym is.2
  | inr is ↦ slice_get_past (take count xs) k (grind (arith, common_steps, is.0)) ∙ sym is.1
]

-- The byte of a part from its begin on.
pub part_get : (before count : ℕ) (xs : List ℕ) (k : ℕ) → k < count → slice_get (take count (drop before xs)) k ≡ slice_get xs (before + k)
part_get before count xs k below = taken_get count (drop before xs) k below ∙ dropped_get before xs k

-- The byte at an address, by whether the address is below all.
pub byte_above : (code : CodeBytes) (at : ℕ) → code.begin ≤ at → byte_at code at ≡ slice_get code.bytes (at - code.begin)
byte_above code at low = grind (arith, low)

pub byte_below : (code : CodeBytes) (at : ℕ) → at < code.begin → byte_at code at ≡ None
byte_below code at low = grind (arith, low)

-- The bytes of a part are those that are inside.
pub byte_inside : (range : CodeRange) (code : CodeBytes) (at : ℕ) → range.begin ≤ at → at < range.end
    → byte_at (within range code) at ≡ byte_at code at
byte_inside range code at low high = elim (cases_lt at code.begin) [
  | inl before ↦ byte_below (within range code) at (omega arith) ∙ sym (byte_below code at before)
  | inr from ↦ let begin : max code.begin range.begin ≤ at = omega arith in
      let sum : max code.begin range.begin - code.begin + (at - max code.begin range.begin) ≡ at - code.begin = omega arith in
      let count : at - max code.begin range.begin < range.end - max code.begin range.begin = omega arith in
      byte_above (within range code) at begin
      ∙ part_get (max code.begin range.begin - code.begin) (range.end - max code.begin range.begin) code.bytes (at - max code.begin range.begin) count
      ∙ ap (slice_get code.bytes) sum ∙ sym (byte_above code at from)
]

pub byte_outside : (range : CodeRange) (code : CodeBytes) (at : ℕ) → is_inside range at ≡ false → byte_at (within range code) at ≡ None
byte_outside range code at out = elim (cases_lt at (max code.begin range.begin)) [
  | inl before ↦ byte_below (within range code) at before
  | inr from ↦ let behind : range.end ≤ at = grind (arith, out) in
      let size : length (take (range.end - max code.begin range.begin) (drop (max code.begin range.begin - code.begin) code.bytes))
      ≤ at - max code.begin range.begin = grind (arith, common_steps) in
      byte_above (within range code) at from
      ∙ slice_get_past (take (range.end - max code.begin range.begin) (drop (max code.begin range.begin - code.begin) code.bytes))
      (at - max code.begin range.begin) size
]

by_inside : (test : Bool) (range : CodeRange) (code : CodeBytes) (at : ℕ) → is_inside range at ≡ test
    → byte_at (within range code) at ≡ (if test then byte_at code at else None)
by_inside true range code at is = byte_inside range code at (grind (arith, is)) (grind (arith, is))
by_inside false range code at is = byte_outside range code at is

pub byte_within : (range : CodeRange) (code : CodeBytes) (at : ℕ)
    → byte_at (within range code) at ≡ (if is_inside range at then byte_at code at else None)
byte_within range code at = by_inside (is_inside range at) range code at refl

-- By whether an address is inside.
same_inside : (test : Bool) (range : CodeRange) (one other : CodeBytes) (at : ℕ) → test ≡ is_inside range at → SameWithin range one other
    → (if test then byte_at one at else None) ≡ (if test then byte_at other at else None)
same_inside true range one other at is same = same at (grind (arith, is))
same_inside false range one other at is same = refl

pub same_parts : (range : CodeRange) (one other : CodeBytes) (address : ℕ) → SameWithin range one other
    → IsTrue (has_byte (within range one) address) → within range one ≡ within range other
same_parts range one other address same has =
    same_code (within range one) (within range other) address
    (λ at. byte_within range one at ∙ same_inside (is_inside range at) range one other at refl same ∙ sym (byte_within range other at)) has
