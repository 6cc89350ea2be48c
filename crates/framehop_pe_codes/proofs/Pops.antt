-- Pops up to an end, one after the other.
use Rattle.std.proofs.Common.{◌≡◌, ◌∙◌, ℕ, zero, suc, ◌<◌, ◌≤◌, Bool, true, false, List, [], ◌∷◌, length, drop, refl, ap, sym, arith, length-drop}
use Rattle.std.specs.Prelude.{◌-◌, ◌==◌, ◌&&◌, slice_index, if◌then◌else◌, Option, Some, None, IsSome, ◌↔◌}
use Rattle.std.specs.Option.{option_map, option_and_then}
use Rattle.framehop_registers.specs.declared.x86_64.unwindregs.Reg.{Reg}
use Rattle.framehop_pe_codes.specs.Codes.{register_numbered}
use Rattle.framehop_pe_codes.specs.Epilogs.{is_pop, pop_of, pops_until, pops_within}

abbrev pub After : (List ℕ → Option (List Reg)) → List ℕ → Option (Reg × ℕ) → Option (List Reg)
After more bytes found = option_and_then (λ (f : Reg × ℕ). option_map (λ registers. f.0 ∷ registers) (more (drop f.1 bytes))) found

abbrev one_pop : Reg → ℕ → Option (Reg × ℕ)
one_pop register size = Some (register, size)

abbrev size_of : Option (Reg × ℕ) → ℕ
size_of None = 0
size_of (Some found) = found.1

chosen : (short long : Bool) (r s register : Reg) (size : ℕ) → (if short then one_pop r 1 else if long then one_pop s 2 else None) ≡ Some (register, size) → 0 < size
chosen true long r s register size is = let n : 1 ≡ size = ap size_of is in omega arith
chosen false true r s register size is = let n : 2 ≡ size = ap size_of is in omega arith
chosen false false r s register size is = cc

-- a pop takes a byte at least
pub pop-some : (bytes : List ℕ) (register : Reg) (size : ℕ) → pop_of bytes ≡ Some (register, size) → 0 < size
unfolding pop_of
pop-some bytes register size is =
    chosen (is_pop (slice_index bytes 0)) ((slice_index bytes 0 == 0x41) && is_pop (slice_index bytes 1)) (register_numbered (slice_index bytes 0 - 0x58)) (register_numbered (slice_index bytes 1 - 0x50)) register size is

-- nothing is a pop of no bytes
pub pop-none : pop_of [] ≡ None
unfolding pop_of
pop-none = refl

after-same : (f g : List ℕ → Option (List Reg)) (bytes : List ℕ) (found : Option (Reg × ℕ))
    → ((register : Reg) (size : ℕ) → found ≡ Some (register, size) → f (drop size bytes) ≡ g (drop size bytes)) → After f bytes found ≡ After g bytes found
after-same f g bytes None same = refl
after-same f g bytes (Some (register, size)) same = ap (option_map (λ registers. register ∷ registers)) (same register size refl)

shorter : (size n : ℕ) (bytes : List ℕ) → 0 < size → 0 < length bytes → length bytes ≤ suc n → length (drop size bytes) ≤ n
shorter size n bytes some there h = let len = length-drop size bytes in omega arith

-- pops up to what ends them
module _ (ends : List ℕ → Bool) where
  -- at no bytes
  none-within : (n : ℕ) → pops_within ends n [] ≡ (if ends [] then Some [] else None)
  none-within zero = refl
  none-within (suc n) = ap (λ (o : Option (Reg × ℕ)). if ends [] then Some [] else After (pops_within ends n) [] o) pop-none

  -- more room than there are bytes changes nothing
  enough : (n m : ℕ) (bytes : List ℕ) → length bytes ≤ n → length bytes ≤ m → pops_within ends n bytes ≡ pops_within ends m bytes
  enough n m [] p q = none-within n ∙ sym (none-within m)
  enough zero m (byte ∷ bytes) p q = absurd (omega arith)
  enough (suc n) zero (byte ∷ bytes) p q = absurd (omega arith)
  enough (suc n) (suc m) (byte ∷ bytes) p q =
      ap (λ (o : Option (List Reg)). if ends (byte ∷ bytes) then Some [] else o)
      (after-same (pops_within ends n) (pops_within ends m) (byte ∷ bytes) (pop_of (byte ∷ bytes))
      (λ register size is. let some = pop-some (byte ∷ bytes) register size is in
      enough n m (drop size (byte ∷ bytes)) (shorter size n (byte ∷ bytes) some (omega arith) p) (shorter size m (byte ∷ bytes) some (omega arith) q)))

  -- an end, or the first pop and those after it
  pub pops-next : (bytes : List ℕ) → pops_until ends bytes ≡ (if ends bytes then Some [] else After (pops_until ends) bytes (pop_of bytes))
  unfolding pops_until
  pops-next [] = ap (λ (o : Option (Reg × ℕ)). if ends [] then Some [] else After (pops_until ends) [] o) (sym pop-none)
  pops-next (byte ∷ bytes) =
      ap (λ (o : Option (List Reg)). if ends (byte ∷ bytes) then Some [] else o)
      (after-same (pops_within ends (length bytes)) (pops_until ends) (byte ∷ bytes) (pop_of (byte ∷ bytes))
      (λ register size is. let some = pop-some (byte ∷ bytes) register size is in
      enough (length bytes) (length (drop size (byte ∷ bytes))) (drop size (byte ∷ bytes)) (shorter size (length bytes) (byte ∷ bytes) some (omega arith) (omega arith)) (omega arith)))

  pub pops-end : (bytes : List ℕ) → ends bytes ≡ true → pops_until ends bytes ≡ Some []
  pops-end bytes end = pops-next bytes ∙ ap (λ (b : Bool). if b then Some [] else After (pops_until ends) bytes (pop_of bytes)) end

  pub pops-other : (bytes : List ℕ) → ends bytes ≡ false → pop_of bytes ≡ None → pops_until ends bytes ≡ None
  pops-other bytes more none =
      pops-next bytes ∙ ap (λ (b : Bool). if b then Some [] else After (pops_until ends) bytes (pop_of bytes)) more ∙ ap (After (pops_until ends) bytes) none

  pub pops-cons : (bytes : List ℕ) (register : Reg) (size : ℕ) → ends bytes ≡ false → pop_of bytes ≡ Some (register, size)
      → pops_until ends bytes ≡ option_map (λ registers. register ∷ registers) (pops_until ends (drop size bytes))
  pops-cons bytes register size more found =
      pops-next bytes ∙ ap (λ (b : Bool). if b then Some [] else After (pops_until ends) bytes (pop_of bytes)) more ∙ ap (After (pops_until ends) bytes) found

pub some-mapped : {A B : Type 0} (f : A → B) (o : Option A) → IsSome (option_map f o) ↔ IsSome o
some-mapped f None = (λ h. h, λ h. h)
some-mapped f (Some x) = (λ h. refl, λ h. refl)

-- the pops that are left, one of them in front
pub record Splits (register : Reg) (left : Option (List Reg)) (all : List Reg) : Type 0 where
  pub more : List Reg
  pub left_is : left ≡ Some more
  pub all_is : all ≡ register ∷ more

pub splits : (register : Reg) (left : Option (List Reg)) (all : List Reg) → option_map (λ registers. register ∷ registers) left ≡ Some all → Splits register left all
splits register (Some more) all is = record { more = more; left_is = refl; all_is = let e : register ∷ more ≡ all = cc in sym e }
splits register None all is = cc
