-- The parts of rules and of scaled rows, on any architecture.
use Rattle.std.proofs.Common.{◌≡◌, ℕ, ◌*◌, ◌<◌, ◌^◌, refl, arith, Option, Some, None, Bool, true, false}
use Rattle.std.specs.Prelude.{ℤ, pos, negsuc, ◌*ℤ◌, option_and_then, option_map, if◌then◌else◌}
use Rattle.framehop_registers.specs.declared.error.Error.{Error}
use Rattle.framehop_rules.specs.Outcome.{Outcome, Ends, Refuses, Answers, and_then, address, word}
use Rattle.framehop_rows.specs.RowSources.{in_range}
use Rattle.framehop_rows.specs.RuleFields.{eighth_of, sixteenth_of, as_u16, as_i16, as_words, as_signed_words, pairs_of}

-- ---- what a part of a rule gives

-- a first part that gives, and then the second
pub and_then-gives : {A B : Type 0} (x : Outcome A) (f : A → Outcome B) (c : B) → and_then x f ≡ Answers c → (v : A) × (x ≡ Answers v) × (f v ≡ Answers c)
and_then-gives Ends f c h = cc
and_then-gives (Refuses e) f c h = cc
and_then-gives (Answers v) f c h = (v, refl, h)

-- an address that is given is in range
pub address-gives : (z : ℤ) (a : ℕ) → address z ≡ Answers a → in_range z ≡ Some a
address-gives (pos n) a h = grind arith
address-gives (negsuc n) a h = cc

-- and it is that number
pub in_range-is : (z : ℤ) (a : ℕ) → in_range z ≡ Some a → z ≡ pos a
in_range-is (pos n) a h = grind arith
in_range-is (negsuc n) a h = cc

pub in_range-fits : (z : ℤ) (a : ℕ) → in_range z ≡ Some a → a < 2 ^ 64
in_range-fits (pos n) a h = grind arith
in_range-fits (negsuc n) a h = cc

pub in_range-at : (a : ℕ) → a < 2 ^ 64 → in_range (pos a) ≡ Some a
in_range-at a h = grind arith

-- a part that gives has passed its test
pub past-test : {A : Type 0} (b : Bool) (e : Error) (x : Outcome A) (v : A) → (if b then Refuses e else x) ≡ Answers v → x ≡ Answers v
past-test true e x v h = cc
past-test false e x v h = h

-- a word that is given is there
pub word-gives : (there : Option ℕ) (at to : ℕ) → word (λ _. there) at ≡ Answers to → there ≡ Some to
word-gives (Some value) at to h = cc
word-gives None at to h = cc

-- ---- what the parts of a row say

pub option_map-some : {A B : Type 0} (f : A → B) (o : Option A) (c : B) → option_map f o ≡ Some c → (v : A) × (o ≡ Some v) × (f v ≡ c)
option_map-some f None c h = cc
option_map-some f (Some v) c h = (v, refl, cc)

pub and_then-some : {A B : Type 0} (f : A → Option B) (o : Option A) (c : B) → option_and_then f o ≡ Some c → (v : A) × (o ≡ Some v) × (f v ≡ Some c)
and_then-some f None c h = cc
and_then-some f (Some v) c h = (v, refl, h)

-- what either side of a test that is passed gives
pub by_test : {A P : Type 0} (b : Bool) (x y : Option A) (c : A) → (b ≡ true → x ≡ Some c → P) → (b ≡ false → y ≡ Some c → P) → (if b then x else y) ≡ Some c → P
by_test true x y c passes fails h = passes refl h
by_test false x y c passes fails h = fails refl h

-- eight times the eighth of a number is the number
pub eighth-is : (n q : ℤ) → eighth_of n ≡ Some q → n ≡ pos 8 *ℤ q
eighth-is (pos a) q h = grind arith
eighth-is (negsuc a) q h = grind arith

-- sixteen times the sixteenth
pub sixteenth-is : (n q : ℤ) → sixteenth_of n ≡ Some q → n ≡ pos 16 *ℤ q
sixteenth-is (pos a) q h = grind arith
sixteenth-is (negsuc a) q h = grind arith

pub u16-is : (n : ℤ) (x : ℕ) → as_u16 n ≡ Some x → n ≡ pos x
u16-is (pos a) x h = grind arith
u16-is (negsuc a) x h = cc

pub i16-is : (n x : ℤ) → as_i16 n ≡ Some x → n ≡ x
i16-is (pos a) x h = grind arith
i16-is (negsuc a) x h = grind arith

-- a number that is as many words, with a sign or without one, or pairs of words
pub words-is : (offset : ℤ) (x : ℕ) → as_words offset ≡ Some x → offset ≡ pos (8 * x)
words-is offset x h = let (q, eighth, fits) = and_then-some as_u16 (eighth_of offset) x h in rw (eighth-is offset q eighth, u16-is q x fits) refl

pub signed_words-is : (offset y : ℤ) → as_signed_words offset ≡ Some y → offset ≡ pos 8 *ℤ y
signed_words-is offset y h = let (q, eighth, fits) = and_then-some as_i16 (eighth_of offset) y h in rw (eighth-is offset q eighth, i16-is q y fits) refl

pub pairs-is : (offset : ℤ) (x : ℕ) → pairs_of offset ≡ Some x → offset ≡ pos (16 * x)
pairs-is offset x h = let (q, sixteenth, fits) = and_then-some as_u16 (sixteenth_of offset) x h in rw (sixteenth-is offset q sixteenth, u16-is q x fits) refl
