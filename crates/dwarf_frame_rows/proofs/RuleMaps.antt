-- Increasing lists of pairs as maps: where a register's pair is, and what a write, an insertion and a removal make of the map.
use Rattle.std.proofs.Common.{◌≡◌, ℕ, zero, suc, ◌+◌, ◌<◌, Bool, true, false, cond, List, [], ◌∷◌, ◌++◌, length, take, drop, get_or, Option, Some, None, Result, Ok, Err, is_some, ◌==◌, slice_set, refl, sym, ap, subst, ◌∙◌, arith, OnOk, OnErr, IsNone, IsErr}
use Rattle.std.specs.FinMap.{get, insert, remove, len, get-empty, get-insert, get-remove, len-empty, len-insert, nat_cmp-IsAntisymmetric, same_map}
use Rattle.std.specs.List as list
use Rattle.std.specs.Ordering.{nat_cmp}
use Rattle.std.proofs.lemmas.Bool.{eqb-true, eq-eqb, false≢true}
use Rattle.std.proofs.lemmas.Bool.Decides.{nat_tests}
use Rattle.std.proofs.lemmas.Cmp.{nat_cmp_total}
use Rattle.std.proofs.lemmas.List.{length-set, set-get_or, set_split, take-append-drop}
use Rattle.std.proofs.lemmas.List.Edits.{length-insert}
use Rattle.dwarf_constants.specs.declared.error.Error.{Error}
use Rattle.dwarf_storage.specs.Capacity.{IsWithin}
use Rattle.dwarf_frame_rows.specs.declared.rules.RuledRegister.{RuledRegister}
use Rattle.dwarf_frame_rows.proofs.NumberTests.{ties}
use Rattle.dwarf_frame_rows.specs.RuleList.{IsAbove, IsBelow, IsIncreasing, IsPlaceOf, rule_at}
use Rattle.dwarf_frame_rows.specs.RuleMap.{HasEachOnce, HoldsRules, RuleMap, map_of, rule_in}

-- ---- tests

pub less_apart : (a b : ℕ) → a < b → (a == b) ≡ false
less_apart a b h = grind (arith, nat_tests)

pub more_apart : (a b : ℕ) → b < a → (a == b) ≡ false
more_apart a b h = grind (arith, nat_tests)

absent_first : {V : Type 0} (b : Bool) (x : V) (o : Option V) → cond b (Some x) o ≡ None → (b ≡ false) × (o ≡ None)
absent_first true x o h = cc
absent_first false x o h = (refl, h)

choose : {V : Type 0} (a b : Bool) (x v : V) (o : Option V) → (a ≡ true → b ≡ false) → cond a (Some x) (cond b (Some v) o) ≡ cond b (Some v) (cond a (Some x) o)
choose true true x v o apart = absurd (false≢true (sym (apart refl)))
choose true false x v o apart = refl
choose false b x v o apart = refl

-- ---- the map of a list

-- the map has the first rule of a register
pub get-map_of : {V : Type 0} (pairs : List (RuledRegister V)) (q : ℕ) → get (map_of pairs) q ≡ rule_in q pairs
get-map_of [] q = get-empty nat_cmp q
get-map_of (pair ∷ pairs) q =
    get-insert nat_cmp_total (map_of pairs) pair.register.0 pair.rule q
    ∙ ap (λ b. cond b (Some pair.rule) (get (map_of pairs) q)) (ties q pair.register.0)
    ∙ ap (λ o. cond (pair.register.0 == q) (Some pair.rule) o) (get-map_of pairs q)

-- two lists with the same rules are one map
pub same_maps : {V : Type 0} (xs ys : List (RuledRegister V)) → ((q : ℕ) → rule_in q xs ≡ rule_in q ys) → map_of xs ≡ map_of ys
same_maps xs ys same = same_map nat_cmp_total nat_cmp-IsAntisymmetric (map_of xs) (map_of ys) (λ q. get-map_of xs q ∙ same q ∙ sym (get-map_of ys q))

-- a list with one rule set
map_of-set : {V : Type 0} (xs ys : List (RuledRegister V)) (k : ℕ) (v : V) → ((q : ℕ) → rule_in q ys ≡ cond (k == q) (Some v) (rule_in q xs)) → map_of ys ≡ insert (map_of xs) k v
map_of-set xs ys k v is =
    same_map nat_cmp_total nat_cmp-IsAntisymmetric (map_of ys) (insert (map_of xs) k v) (λ q.
    get-map_of ys q ∙ is q ∙ ap (λ o. cond (k == q) (Some v) o) (sym (get-map_of xs q))
    ∙ ap (λ b. cond b (Some v) (get (map_of xs) q)) (sym (ties q k))
    ∙ sym (get-insert nat_cmp_total (map_of xs) k v q))

-- a list with one rule taken away
map_of-removed : {V : Type 0} (xs ys : List (RuledRegister V)) (k : ℕ) → ((q : ℕ) → rule_in q ys ≡ cond (k == q) None (rule_in q xs)) → map_of ys ≡ remove (map_of xs) k
map_of-removed xs ys k is =
    same_map nat_cmp_total nat_cmp-IsAntisymmetric (map_of ys) (remove (map_of xs) k) (λ q.
    get-map_of ys q ∙ is q ∙ ap (λ o. cond (k == q) None o) (sym (get-map_of xs q))
    ∙ ap (λ b. cond b None (get (map_of xs) q)) (sym (ties q k))
    ∙ sym (get-remove nat_cmp_total (map_of xs) k q))

-- a list without a second pair of any register is as long as its map
pub length-map_of : {V : Type 0} (pairs : List (RuledRegister V)) → HasEachOnce pairs → len (map_of pairs) ≡ length pairs
length-map_of {V} [] once = len-empty nat_cmp V
length-map_of (pair ∷ pairs) once =
    len-insert nat_cmp_total (map_of pairs) pair.register.0 pair.rule
    ∙ ap (λ o. cond (is_some o) (len (map_of pairs)) (len (map_of pairs) + 1)) (get-map_of pairs pair.register.0 ∙ once.0)
    ∙ ap (λ n. n + 1) (length-map_of pairs once.1) ∙ omega arith

-- ---- increasing registers

-- a register below all pairs has no rule, nor has one above them all
pub below-none : {V : Type 0} (k : ℕ) (pairs : List (RuledRegister V)) → IsBelow k pairs → rule_in k pairs ≡ None
below-none k [] below = refl
below-none k (x ∷ xs) below = ap (λ b. cond b (Some x.rule) (rule_in k xs)) (more_apart x.register.0 k below.0) ∙ below-none k xs below.1

-- nor has one that is above all of some and below all others
none-between : {V : Type 0} (k : ℕ) (front back : List (RuledRegister V)) → IsAbove k front → IsBelow k back → rule_in k (front ++ back) ≡ None
none-between k [] back above below = below-none k back below
none-between k (x ∷ front) back above below =
    ap (λ b. cond b (Some x.rule) (rule_in k (front ++ back))) (less_apart x.register.0 k above.0) ∙ none-between k front back above.1 below

-- registers that increase are in one pair each
pub each_once : {V : Type 0} (pairs : List (RuledRegister V)) → IsIncreasing pairs → HasEachOnce pairs
each_once [] up = tt
each_once (x ∷ xs) up = (below-none x.register.0 xs up.0, each_once xs up.1)

pub below-less : {V : Type 0} (j k : ℕ) (pairs : List (RuledRegister V)) → j < k → IsBelow k pairs → IsBelow j pairs
below-less j k [] less below = tt
below-less j k (x ∷ xs) less below = (omega (arith, below.0), below-less j k xs less below.1)

below-at : {V : Type 0} (k i : ℕ) (pairs : List (RuledRegister V)) (d : RuledRegister V) → IsBelow k pairs → i < length pairs → k < (get_or pairs i d).register.0
below-at k i [] d below within = absurd (omega arith)
below-at k zero (x ∷ xs) d below within = below.0
below-at k (suc i) (x ∷ xs) d below within = below-at k i xs d below.1 (omega arith)

-- a register is above all pairs up to one whose register is below it
pub above-up_to : {V : Type 0} (k i : ℕ) (pairs : List (RuledRegister V)) (d : RuledRegister V) → IsIncreasing pairs → i < length pairs → (get_or pairs i d).register.0 < k → IsAbove k (take (suc i) pairs)
above-up_to k i [] d up within low = absurd (omega arith)
above-up_to k zero (x ∷ xs) d up within low = (low, tt)
above-up_to k (suc i) (x ∷ xs) d up within low =
    let first = below-at x.register.0 i xs d up.0 (omega arith) in
    (omega arith, above-up_to k i xs d up.1 (omega arith) low)

-- and below all from one on whose register is above it
pub below-from : {V : Type 0} (k i : ℕ) (pairs : List (RuledRegister V)) (d : RuledRegister V) → IsIncreasing pairs → i < length pairs → k < (get_or pairs i d).register.0 → IsBelow k (drop i pairs)
below-from k i [] d up within high = absurd (omega arith)
below-from k zero (x ∷ xs) d up within high = (high, below-less k x.register.0 xs high up.0)
below-from k (suc i) (x ∷ xs) d up within high = below-from k i xs d up.1 (omega arith) high

-- ---- a register whose place is known

-- its rule
pub rule_at-place : {V : Type 0} (k : ℕ) (place : Result ℕ ℕ) (pairs : List (RuledRegister V)) → IsIncreasing pairs → IsPlaceOf k pairs place → rule_at pairs place ≡ rule_in k pairs
rule_at-place k (Err i) pairs up place =
    sym (none-between k (take i pairs) (drop i pairs) place.1 place.2) ∙ ap (rule_in k) (take-append-drop i pairs)
rule_at-place k (Ok i) [] up place = absurd (omega (arith, place.0))
rule_at-place k (Ok zero) (x ∷ xs) up place = sym (ap (λ b. cond b (Some x.rule) (rule_in k xs)) (eq-eqb x.register.0 k (place.1 x)))
rule_at-place k (Ok (suc i)) (x ∷ xs) up place =
    let above = below-at x.register.0 i xs x up.0 (omega (arith, place.0)) in
    rule_at-place k (Ok i) xs up.1 (omega (arith, place.0), place.1)
    ∙ sym (ap (λ b. cond b (Some x.rule) (rule_in k xs)) (less_apart x.register.0 k (omega (arith, above, place.1 x))))

-- no rule is there only if no pair is
pub none-at : {V : Type 0} (k : ℕ) (place : Result ℕ ℕ) (pairs : List (RuledRegister V)) → IsPlaceOf k pairs place → IsNone (rule_at pairs place) → IsErr place
none-at k (Err i) pairs place none = refl
none-at k (Ok i) [] place none = absurd (omega (arith, place.0))
none-at k (Ok zero) (x ∷ xs) place none = absurd (false≢true (sym none))
none-at k (Ok (suc i)) (x ∷ xs) place none = none-at k (Ok i) xs (omega (arith, place.0), place.1) none

-- ---- a pair among others

-- a register is above those of some pairs and below those of others, and these all increase
record IsBetween {V : Type 0} (k : ℕ) (front back : List (RuledRegister V)) : Type 0 where
  above : IsAbove k front
  below : IsBelow k back
  others : IsIncreasing (front ++ back)

below-middle : {V : Type 0} (k : ℕ) (e : RuledRegister V) (front back : List (RuledRegister V)) → k < e.register.0 → IsBelow k (front ++ back) → IsBelow k (front ++ e ∷ back)
below-middle k e [] back less below = (less, below)
below-middle k e (x ∷ front) back less below = (below.0, below-middle k e front back less below.1)

below-others : {V : Type 0} (k : ℕ) (e : RuledRegister V) (front back : List (RuledRegister V)) → IsBelow k (front ++ e ∷ back) → (k < e.register.0) × IsBelow k (front ++ back)
below-others k e [] back below = below
below-others k e (x ∷ front) back below = let (less, others) = below-others k e front back below.1 in (less, (below.0, others))

-- a pair whose register is between goes in
increasing-with : {V : Type 0} (e : RuledRegister V) (front back : List (RuledRegister V)) → IsBetween e.register.0 front back → IsIncreasing (front ++ e ∷ back)
increasing-with e [] back between = (between.below, between.others)
increasing-with e (x ∷ front) back between = (
  below-middle x.register.0 e front back between.above.0 between.others.0,
  increasing-with e front back (record { above = between.above.1; below = between.below; others = between.others.1 }),
)

-- and if a pair is there, its register is between
between-others : {V : Type 0} (e : RuledRegister V) (front back : List (RuledRegister V)) → IsIncreasing (front ++ e ∷ back) → IsBetween e.register.0 front back
between-others e [] back up = record { above = tt; below = up.0; others = up.1 }
between-others e (x ∷ front) back up =
    let (less, others) = below-others x.register.0 e front back up.0 in
    let between = between-others e front back up.1 in
    record { above = (less, between.above); below = between.below; others = (others, between.others) }

-- its register has its rule, and any other the rule that it has by the others
rule_in-with : {V : Type 0} (e : RuledRegister V) (front back : List (RuledRegister V)) → IsAbove e.register.0 front → (q : ℕ) → rule_in q (front ++ e ∷ back) ≡ cond (e.register.0 == q) (Some e.rule) (rule_in q (front ++ back))
rule_in-with e [] back above q = refl
rule_in-with e (x ∷ front) back above q =
    ap (λ o. cond (x.register.0 == q) (Some x.rule) o) (rule_in-with e front back above.1 q)
    ∙ choose (x.register.0 == q) (e.register.0 == q) x.rule e.rule (rule_in q (front ++ back)) (λ is. more_apart e.register.0 q (omega (arith, above.0, eqb-true x.register.0 q is)))

-- ---- what is left of a list: its map, and that its registers increase

pub record IsMapOf {V : Type 0} (rules : RuleMap V) (pairs : List (RuledRegister V)) : Type 0 where
  pub same : map_of pairs ≡ rules
  pub increasing : IsIncreasing pairs

pair_with : {V : Type 0} (e : RuledRegister V) (front back : List (RuledRegister V)) → IsBetween e.register.0 front back → IsMapOf (insert (map_of (front ++ back)) e.register.0 e.rule) (front ++ e ∷ back)
pair_with e front back between = record {
  same = map_of-set (front ++ back) (front ++ e ∷ back) e.register.0 e.rule (rule_in-with e front back between.above);
  increasing = increasing-with e front back between;
}

pair_over : {V : Type 0} (e p : RuledRegister V) (front back : List (RuledRegister V)) → p.register.0 ≡ e.register.0 → IsIncreasing (front ++ p ∷ back) → IsMapOf (insert (map_of (front ++ p ∷ back)) e.register.0 e.rule) (front ++ e ∷ back)
pair_over {V} e p front back same up = record {
  same = map_of-set (front ++ p ∷ back) (front ++ e ∷ back) e.register.0 e.rule (λ q.
      rule_in-with e front back between.above q
      ∙ over (e.register.0 == q) e.rule p.rule (rule_in q (front ++ back))
      ∙ ap (λ n. cond (e.register.0 == q) (Some e.rule) (cond (n == q) (Some p.rule) (rule_in q (front ++ back)))) (sym same)
      ∙ ap (λ o. cond (e.register.0 == q) (Some e.rule) o) (sym (rule_in-with p front back was.above q)));
  increasing = increasing-with e front back between;
}
  where
    was : IsBetween p.register.0 front back
    was = between-others p front back up

    between : IsBetween e.register.0 front back
    between = subst (λ n. IsBetween n front back) same was

    over : (b : Bool) (v w : V) (o : Option V) → cond b (Some v) o ≡ cond b (Some v) (cond b (Some w) o)
    over true v w o = refl
    over false v w o = refl

pair_without : {V : Type 0} (k : ℕ) (p : RuledRegister V) (front back : List (RuledRegister V)) → p.register.0 ≡ k → IsIncreasing (front ++ p ∷ back) → IsMapOf (remove (map_of (front ++ p ∷ back)) k) (front ++ back)
pair_without {V} k p front back same up = record {
  same = map_of-removed (front ++ p ∷ back) (front ++ back) k (λ q.
      gone (k == q) (rule_in q (front ++ back)) p.rule (λ is. ap (λ n. rule_in n (front ++ back)) (sym (eqb-true k q is)) ∙ none-between k front back between.above between.below)
      ∙ ap (λ n. cond (k == q) None (cond (n == q) (Some p.rule) (rule_in q (front ++ back)))) (sym same)
      ∙ ap (λ o. cond (k == q) None o) (sym (rule_in-with p front back was.above q)));
  increasing = between.others;
}
  where
    was : IsBetween p.register.0 front back
    was = between-others p front back up

    between : IsBetween k front back
    between = subst (λ n. IsBetween n front back) same was

    gone : (b : Bool) (o : Option V) (w : V) → (b ≡ true → o ≡ None) → o ≡ cond b None (cond b (Some w) o)
    gone true o w none = none refl
    gone false o w none = refl

-- a list with its pair at an index apart
split_at : {X : Type 0} (xs : List X) (i : ℕ) (d : X) → i < length xs → take i xs ++ get_or xs i d ∷ drop (suc i) xs ≡ xs
split_at xs i d within = sym (set_split xs i (get_or xs i d) within) ∙ set-get_or xs i d

-- a rule instead of the one that the pair's register had
pub set_found : {V : Type 0} (e : RuledRegister V) (i : ℕ) (pairs : List (RuledRegister V)) → IsIncreasing pairs → IsPlaceOf e.register.0 pairs (Ok i) → IsMapOf (insert (map_of pairs) e.register.0 e.rule) (slice_set pairs i e)
set_found {V} e i pairs up place =
    let parts = split_at pairs i e place.0 in
    subst (λ (xs : List (RuledRegister V)). IsMapOf (insert (map_of xs) e.register.0 e.rule) (slice_set pairs i e)) parts
    (subst (λ (ys : List (RuledRegister V)). IsMapOf (insert (map_of (take i pairs ++ get_or pairs i e ∷ drop (suc i) pairs)) e.register.0 e.rule) ys) (sym (set_split pairs i e place.0))
    (pair_over e (get_or pairs i e) (take i pairs) (drop (suc i) pairs) (place.1 e) (subst IsIncreasing (sym parts) up)))

-- a rule of a register that had none
pub set_absent : {V : Type 0} (e : RuledRegister V) (i : ℕ) (pairs : List (RuledRegister V)) → IsIncreasing pairs → IsPlaceOf e.register.0 pairs (Err i) → IsMapOf (insert (map_of pairs) e.register.0 e.rule) (list.insert pairs i e)
set_absent {V} e i pairs up place =
    let parts = take-append-drop i pairs in
    subst (λ (xs : List (RuledRegister V)). IsMapOf (insert (map_of xs) e.register.0 e.rule) (take i pairs ++ e ∷ drop i pairs)) parts
    (pair_with e (take i pairs) (drop i pairs) (record { above = place.1; below = place.2; others = subst IsIncreasing (sym parts) up }))

-- no rule of a register that had one
pub removed_found : {V : Type 0} (k i : ℕ) (pairs : List (RuledRegister V)) → IsIncreasing pairs → IsPlaceOf k pairs (Ok i) → IsMapOf (remove (map_of pairs) k) (list.remove pairs i)
removed_found {V} k i pairs up place = by pairs refl
  where
    without : RuledRegister V → IsMapOf (remove (map_of pairs) k) (list.remove pairs i)
    without d =
        let parts = split_at pairs i d place.0 in
        subst (λ (xs : List (RuledRegister V)). IsMapOf (remove (map_of xs) k) (take i pairs ++ drop (suc i) pairs)) parts
        (pair_without k (get_or pairs i d) (take i pairs) (drop (suc i) pairs) (place.1 d) (subst IsIncreasing (sym parts) up))

    by : (xs : List (RuledRegister V)) → pairs ≡ xs → IsMapOf (remove (map_of pairs) k) (list.remove pairs i)
    by [] none = let empty : length pairs ≡ 0 = ap length none in absurd (omega (arith, place.0, empty))
    by (x ∷ xs) some = without x

-- to take away the rule of a register that has none changes nothing
pub removed_absent : {V : Type 0} (k i : ℕ) (pairs : List (RuledRegister V)) → IsIncreasing pairs → IsPlaceOf k pairs (Err i) → map_of pairs ≡ remove (map_of pairs) k
removed_absent k i pairs up place = map_of-removed pairs pairs k (λ q. either (k == q) (rule_in q pairs) (λ is. ap (λ n. rule_in n pairs) (sym (eqb-true k q is)) ∙ sym (rule_at-place k (Err i) pairs up place)))
  where
    either : {A : Type 0} (b : Bool) (o : Option A) → (b ≡ true → o ≡ None) → o ≡ cond b None o
    either true o f = f refl
    either false o f = refl

-- ---- room

pub holds_within : (capacity : Option ℕ) (n m : ℕ) → IsWithin capacity n → m ≡ n → HoldsRules capacity m (Ok tt)
holds_within (Some capacity) n m h e = omega arith
holds_within None n m h e = tt

pub holds_along : (capacity : Option ℕ) (n m : ℕ) (answer : Result (Unit {0}) Error) → HoldsRules capacity n answer → m ≡ n → HoldsRules capacity m answer
holds_along capacity n m answer h e = subst (λ (k : ℕ). HoldsRules capacity k answer) (sym e) h

-- as many rules as a list has pairs
pub length-increasing : {V : Type 0} (pairs : List (RuledRegister V)) → IsIncreasing pairs → len (map_of pairs) ≡ length pairs
length-increasing pairs up = length-map_of pairs (each_once pairs up)

pub len-found : {V : Type 0} (e : RuledRegister V) (i : ℕ) (pairs : List (RuledRegister V)) → IsIncreasing pairs → IsPlaceOf e.register.0 pairs (Ok i) → len (insert (map_of pairs) e.register.0 e.rule) ≡ length pairs
len-found e i pairs up place =
    let set = set_found e i pairs up place in
    ap len (sym set.same) ∙ length-increasing (slice_set pairs i e) set.increasing ∙ length-set pairs i e

pub len-absent : {V : Type 0} (e : RuledRegister V) (i : ℕ) (pairs : List (RuledRegister V)) → IsIncreasing pairs → IsPlaceOf e.register.0 pairs (Err i) → len (insert (map_of pairs) e.register.0 e.rule) ≡ length pairs + 1
len-absent e i pairs up place =
    let set = set_absent e i pairs up place in
    ap len (sym set.same) ∙ length-increasing (list.insert pairs i e) set.increasing ∙ length-insert pairs i e place.0

-- ---- either result

pub on_ok : {A E : Type 0} {P Q : Type 0} (r : Result A E) → OnOk r P → (P → Q) → OnOk r Q
on_ok (Ok x) h f = f h
on_ok (Err e) h f = tt

pub either_way : {A E : Type 0} {P Q R : Type 0} (r : Result A E) → OnOk r P → OnErr r Q → (P → R) → (Q → R) → R
either_way (Ok x) p q f g = f p
either_way (Err e) p q f g = g q
