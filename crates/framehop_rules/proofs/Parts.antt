-- What is known of the parts of a rule, and of each where the whole answers.
use Rattle.std.proofs.Common.{◌≡◌, ◌≢◌, ◌<◌, ◌^◌, ℕ, ◌+◌, refl, ap, arith, Bool, true, false, Option, Some, None}
use Rattle.std.specs.Prelude.{ℤ, pos, negsuc, ◌+ℤ◌, ◌==◌, if◌then◌else◌}
use Rattle.std.proofs.lemmas.Bool.Decides.{Decides-eqb}
use Rattle.std.proofs.lemmas.Int.{ints}
use Rattle.framehop_registers.specs.Callback.{Words}
use Rattle.framehop_rules.specs.Answered.{IsAddressFrom}
use Rattle.framehop_rules.specs.Outcome.{Outcome, Ends, Refuses, Answers, and_then, address, word}
use Rattle.framehop_registers.specs.declared.error.Error.{Error}

-- the first part answers, and then the second
pub and_then-answers : {A B : Type 0} (first : Outcome A) (next : A → Outcome B) (answer : B) → and_then first next ≡ Answers answer
    → (value : A) × (first ≡ Answers value) × (next value ≡ Answers answer)
and_then-answers Ends next answer is = cc
and_then-answers (Refuses error) next answer is = cc
and_then-answers (Answers value) next answer is = (value, refl, is)

-- an address is the number that it was asked for
pub address-answers : (z : ℤ) (a : ℕ) → address z ≡ Answers a → z ≡ pos a
address-answers (pos n) a is = grind arith
address-answers (negsuc n) a is = cc

-- an address above another
pub above-answers : (base bytes a : ℕ) → address (pos base +ℤ pos bytes) ≡ Answers a → a ≡ base + bytes
above-answers base bytes a is = omega (arith, ints, address-answers (pos base +ℤ pos bytes) a is)

-- and it has 64 bits
pub above-fits : (base bytes a : ℕ) → address (pos base +ℤ pos bytes) ≡ Answers a → a < 2 ^ 64
above-fits base bytes a is = fits (pos base +ℤ pos bytes) is
  where
    fits : (z : ℤ) → address z ≡ Answers a → a < 2 ^ 64
    fits (pos n) is = grind arith
    fits (negsuc n) is = cc

-- what is so many bytes above an address
pub above : (base bytes a high : ℕ) → a ≡ high → address (pos base +ℤ pos bytes) ≡ Answers a → IsAddressFrom base high
above base bytes a high same is = record {
  not_below = omega (arith, above-answers base bytes a is);
  fits = omega (arith, above-fits base bytes a is);
}

-- a word that is read is there
pub word-answers : (words : Words) (at value : ℕ) → word words at ≡ Answers value → words at ≡ Some value
word-answers words at value is = by (words at) is
  where
    by : (there : Option ℕ) → word (λ _. there) at ≡ Answers value → there ≡ Some value
    by (Some found) is = let e : found ≡ value = cc in ap (λ (v : ℕ). Some v) e
    by None is = cc

-- three parts, one after the other
pub and_then-assoc : {A B C : Type 0} (first : Outcome A) (second : A → Outcome B) (third : B → Outcome C)
    → and_then (and_then first second) third ≡ and_then first (λ value. and_then (second value) third)
and_then-assoc Ends second third = refl
and_then-assoc (Refuses error) second third = refl
and_then-assoc (Answers value) second third = refl

-- one part, and then two that come to the same
pub and_then-same : {A B : Type 0} (outcome : Outcome A) (f g : A → Outcome B) → ((value : A) → f value ≡ g value) → and_then outcome f ≡ and_then outcome g
and_then-same Ends f g same = refl
and_then-same (Refuses error) f g same = refl
and_then-same (Answers value) f g same = same value

-- a part that answers has passed the test before it
pub past-refusal : {A : Type 0} (fails : Bool) (error : Error) (part : Outcome A) (value : A)
    → (if fails then Refuses error else part) ≡ Answers value → (fails ≡ false) × (part ≡ Answers value)
past-refusal true error part value is = cc
past-refusal false error part value is = (refl, is)

pub past-end : {A : Type 0} (ends : Bool) (part : Outcome A) (value : A)
    → (if ends then Ends else part) ≡ Answers value → (ends ≡ false) × (part ≡ Answers value)
past-end true part value is = cc
past-end false part value is = (refl, is)

-- numbers that aren't equal differ
pub differ : (a b : ℕ) → (a == b) ≡ false → a ≢ b
differ a b is same = absurd (let yes = (Decides-eqb a b).1 same in cc)

pub equal : (a b : ℕ) → a ≡ b → (a == b) ≡ true
equal a b same = (Decides-eqb a b).1 same

pub unequal : (a b : ℕ) → a ≢ b → (a == b) ≡ false
unequal a b differs = by (a == b) refl
  where
    by : (test : Bool) → (a == b) ≡ test → test ≡ false
    by true is = absurd (differs ((Decides-eqb a b).0 is))
    by false is = refl
