-- The search for a place by halves: how many pairs were compared, and what is known of those on either side of what is left.
use Rattle.std.proofs.Common.{◌≡◌, ℕ, suc, ◌+◌, ◌-◌, ◌/◌, ◌^◌, ◌<◌, ◌≤◌, List, length, take, drop, get_or, Ok, Err, add-one, subst, sym, ap, ◌∙◌, arith}
use Rattle.std.specs.Ordering.{nat_cmp}
use Rattle.std.specs.declared.cmp.Ordering.TheVariants.{Less, Equal, Greater}
use Rattle.std.proofs.lemmas.Bool.Decides.{nat_tests}
use Rattle.std.proofs.lemmas.List.{drop_all, get_or_default}
use Rattle.list_laws.specs.Halves.{AtLeastHalved, AtMostHalved}
use Rattle.list_laws.proofs.Laws.{at-least-half, at-least-none, at-most-half, at-most-none, enough-none-left}
use Rattle.dwarf_frame_rows.specs.declared.rules.RuledRegister.{RuledRegister}
use Rattle.dwarf_frame_rows.specs.RuleList.{IsAbove, IsBelow, IsIncreasing, IsPlaceOf}
use Rattle.dwarf_frame_rows.proofs.RuleMaps.{above-up_to, below-from}

-- of all pairs so many are left after the comparisons that were counted from a start on
pub record IsHalved (all start now left : ℕ) : Type 0 where
  pub counted : start ≤ now
  pub few : AtMostHalved (suc all) (now - start) (suc left)
  pub enough : AtLeastHalved all (now - start) left

pub all-left : (all start : ℕ) → IsHalved all start start all
all-left all start =
    let none : start - start ≡ 0 = omega arith in
    record {
      counted = omega arith;
      few = subst (λ n. AtMostHalved (suc all) n (suc all)) (sym none) (at-most-none (suc all));
      enough = subst (λ n. AtLeastHalved all n all) (sym none) (at-least-none all);
    }

-- after one more, about half
pub half-left : (all start now next left rest : ℕ) → next ≡ now + 1 → 0 < left → rest ≤ left / 2 → left ≤ rest + rest + 2 → IsHalved all start now left → IsHalved all start next rest
half-left all start now next left rest one some most least known =
    let less = known.counted in
    let more : next - start ≡ now - start + 1 = omega arith in
    record {
      counted = omega arith;
      few = subst (λ n. AtMostHalved (suc all) n (suc rest)) (sym more) (at-most-half (suc all) (now - start) (suc left) (suc rest) (omega arith) (omega arith) known.few);
      enough = subst (λ n. AtLeastHalved all n rest) (sym more) (at-least-half all (now - start) left rest (omega arith) known.enough);
    }

pub few-compared : (all start now left k : ℕ) → IsHalved all start now left → all < 2 ^ k → now ≤ start + k
few-compared all start now left k known h = let (few, fits) = known.few k h in let counted = known.counted in omega (arith, few, counted)

pub enough-compared : (all start now k : ℕ) → IsHalved all start now 0 → 2 ^ k ≤ all + 1 → start + k ≤ now
enough-compared all start now k known h = let enough = enough-none-left all (now - start) k known.enough (omega arith) in let counted = known.counted in omega (arith, enough, counted)

pub some-compared : (all start now : ℕ) → IsHalved all start now 0 → 0 < all → start < now
some-compared all start now known some = let one = enough-compared all start now 1 known (omega arith) in omega (arith, one)

-- ---- either side

-- what a comparison says
less-of : (a b : ℕ) → nat_cmp a b ≡ Less → a < b
less-of a b is = grind (arith, nat_tests)

more-of : (a b : ℕ) → nat_cmp a b ≡ Greater → b < a
more-of a b is = grind (arith, nat_tests)

pub equal-of : (a b : ℕ) → nat_cmp a b ≡ Equal → a ≡ b
equal-of a b is = grind (arith, nat_tests)

module _ {V : Type 0} (k : ℕ) (pairs : List (RuledRegister V)) (low half : ℕ) (e : RuledRegister V) (within : low + half < length pairs) where
  -- a pair that is below tells of all before it, and those behind what is left stay behind
  pub above-middle : nat_cmp (get_or pairs (low + half) e).register.0 k ≡ Less → IsIncreasing pairs → IsAbove k (take (low + half + 1) pairs)
  above-middle is up = subst (λ n. IsAbove k (take n pairs)) (sym (add-one (low + half))) (above-up_to k (low + half) pairs e up within (less-of _ k is))

  -- one that is above tells of all behind it
  pub below-middle : nat_cmp (get_or pairs (low + half) e).register.0 k ≡ Greater → IsIncreasing pairs → IsBelow k (drop (low + half) pairs)
  below-middle is up = below-from k (low + half) pairs e up within (more-of _ k is)

  pub found-middle : nat_cmp (get_or pairs (low + half) e).register.0 k ≡ Equal → IsPlaceOf k pairs (Ok (low + half))
  found-middle is = (within, λ d. ap (λ pair. pair.register.0) (get_or_default pairs (low + half) d e within) ∙ equal-of _ k is)

pub none-below : {V : Type 0} (k : ℕ) (pairs : List (RuledRegister V)) → IsBelow k (drop (length pairs) pairs)
none-below k pairs = subst (λ rest. IsBelow k rest) (sym (drop_all (length pairs) pairs (omega arith))) tt

-- a register above the last would be behind it
pub behind-last : {V : Type 0} (k last : ℕ) (pairs : List (RuledRegister V)) (e : RuledRegister V) → length pairs ≡ suc last → nat_cmp (get_or pairs last e).register.0 k ≡ Less → IsIncreasing pairs → IsPlaceOf k pairs (Err (length pairs))
behind-last k last pairs e all is up = (
  omega arith,
  subst (λ n. IsAbove k (take n pairs)) (sym all) (above-up_to k last pairs e up (omega (arith, all)) (less-of _ k is)),
  none-below k pairs,
)
