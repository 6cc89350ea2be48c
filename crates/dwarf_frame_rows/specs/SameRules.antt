-- When two maps of rules are equal: each register has equal rules in both, or none in either.
use Rattle.std.specs.Prelude.{◌≡◌, ℕ, Bool, true, false, ◌&&◌, ◌||◌, List, [], ◌∷◌, ◌++◌, Option, Some, None, is_some, refl}
use Rattle.std.proofs.Common.{sym, ap, ◌∙◌}
use Rattle.std.specs.Bool.{Decides, one_answer}
use Rattle.std.specs.Cmp.{IsEquivalence, IsPartialEquivalence, partial_equiv_from_equiv, unsigned_tied}
use Rattle.std.specs.FinMap.{contains_key-keys, get, keys}
use Rattle.std.specs.List.{list_all, list_any}
use Rattle.std.specs.Ordering.{eq_by_cmp, nat_cmp}
use Rattle.std.proofs.lemmas.Bool.{eqb-true, false≢true}
use Rattle.std.proofs.lemmas.List.Folds.{list_all-append}
use Rattle.dwarf_frame_rows.specs.RuleMap.{RuleMap}

-- two equal rules, or none in either
abbrev pub same_rule : {V : Type 0} → (V → V → Bool) → Option V → Option V → Bool
same_rule eq None None = true
same_rule eq (Some a) (Some b) = eq a b
same_rule eq None (Some b) = false
same_rule eq (Some a) None = false

-- the registers that have a rule in either map have equal rules in both
unfoldable pub same_rules : {V : Type 0} → (V → V → Bool) → RuleMap V → RuleMap V → Bool
same_rules eq m n = list_all (λ register. same_rule eq (get m register) (get n register)) (keys m ++ keys n)

-- Each register has equal rules in both maps, or none in either.
abbrev pub AreSame : {V : Type 0} → (V → V → Bool) → RuleMap V → RuleMap V → Type 0
AreSame eq m n = (register : ℕ) → same_rule eq (get m register) (get n register) ≡ true

-- ---- what the test decides

all_of : (p : ℕ → Bool) (xs : List ℕ) → ((x : ℕ) → p x ≡ true) → list_all p xs ≡ true
all_of p [] h = refl
all_of p (x ∷ xs) h = ap (λ b. b && list_all p xs) (h x) ∙ all_of p xs h

pub first_of_both : (a b : Bool) → (a && b) ≡ true → a ≡ true
first_of_both true b h = refl
first_of_both false b h = h

pub second_of_both : (a b : Bool) → (a && b) ≡ true → b ≡ true
second_of_both true b h = h
second_of_both false b h = absurd (false≢true h)

all_at : (p : ℕ → Bool) (xs : List ℕ) (q : ℕ) → list_all p xs ≡ true → list_any (eq_by_cmp nat_cmp q) xs ≡ true → p q ≡ true
all_at p [] q all any = absurd (false≢true any)
all_at p (x ∷ xs) q all any = go (eq_by_cmp nat_cmp q x) refl any (all_at p xs q (second_of_both (p x) (list_all p xs) all))
  where
    go : (b : Bool) → eq_by_cmp nat_cmp q x ≡ b → (b || list_any (eq_by_cmp nat_cmp q) xs) ≡ true
        → (list_any (eq_by_cmp nat_cmp q) xs ≡ true → p q ≡ true) → p q ≡ true
    go true tied h later = ap p (eqb-true q x (sym (unsigned_tied q x) ∙ tied)) ∙ first_of_both (p x) (list_all p xs) all
    go false tied h later = later h

-- the test is true exactly if the maps are the same
pub same_rules-Decides : {V : Type 0} (eq : V → V → Bool) (m n : RuleMap V) → Decides (same_rules eq m n) (AreSame eq m n)
unfolding same_rules
same_rules-Decides {V} eq m n = (λ all q. at (get m q) (get n q) q refl refl all, λ same. all_of (λ q. same_rule eq (get m q) (get n q)) (keys m ++ keys n) same)
  where
    test : ℕ → Bool
    test q = same_rule eq (get m q) (get n q)

    at : (a b : Option V) (q : ℕ) → get m q ≡ a → get n q ≡ b
        → list_all (λ q. same_rule eq (get m q) (get n q)) (keys m ++ keys n) ≡ true → same_rule eq (get m q) (get n q) ≡ true
    at None None q is_m is_n all = ap (λ o. same_rule eq o (get n q)) is_m ∙ ap (same_rule eq None) is_n
    at (Some v) b q is_m is_n all =
        all_at (λ q. same_rule eq (get m q) (get n q)) (keys m) q
        (first_of_both (list_all (λ q. same_rule eq (get m q) (get n q)) (keys m)) (list_all (λ q. same_rule eq (get m q) (get n q)) (keys n)) (sym (list_all-append (λ q. same_rule eq (get m q) (get n q)) (keys m) (keys n)) ∙ all))
        (sym (contains_key-keys m q) ∙ ap is_some is_m)
    at None (Some w) q is_m is_n all =
        all_at (λ q. same_rule eq (get m q) (get n q)) (keys n) q
        (second_of_both (list_all (λ q. same_rule eq (get m q) (get n q)) (keys m)) (list_all (λ q. same_rule eq (get m q) (get n q)) (keys n)) (sym (list_all-append (λ q. same_rule eq (get m q) (get n q)) (keys m) (keys n)) ∙ all))
        (sym (contains_key-keys n q) ∙ ap is_some is_n)

-- ---- its laws

pub same_rule-symm : {V : Type 0} {eq : V → V → Bool} → IsPartialEquivalence eq → (a b : Option V) → same_rule eq a b ≡ true
    → same_rule eq b a ≡ true
same_rule-symm o None None h = h
same_rule-symm o None (Some b) h = h
same_rule-symm o (Some a) None h = h
same_rule-symm o (Some a) (Some b) h = o.symm b a ∙ h

same_rule-trans : {V : Type 0} {eq : V → V → Bool} → IsPartialEquivalence eq → (a b c : Option V) → same_rule eq a b ≡ true
    → same_rule eq b c ≡ true → same_rule eq a c ≡ true
same_rule-trans o None None c h g = g
same_rule-trans o None (Some b) c h g = absurd (false≢true h)
same_rule-trans o (Some a) None c h g = absurd (false≢true h)
same_rule-trans o (Some a) (Some b) None h g = g
same_rule-trans o (Some a) (Some b) (Some c) h g = o.trans a b c h g

same_rule-refl : {V : Type 0} {eq : V → V → Bool} → IsEquivalence eq → (a : Option V) → same_rule eq a a ≡ true
same_rule-refl o None = refl
same_rule-refl o (Some a) = o.refl a

-- equality of maps is symmetric and transitive if that of rules is
pub same_rules-partial : {V : Type 0} (eq : V → V → Bool) → IsPartialEquivalence eq → IsPartialEquivalence (same_rules eq)
same_rules-partial eq o = record {
  symm = λ m n. one_answer _ _ (same_rules-Decides eq m n)
      (λ t q. same_rule-symm o (get n q) (get m q) ((same_rules-Decides eq n m).0 t q), λ same. (same_rules-Decides eq n m).1 (λ q. same_rule-symm o (get m q) (get n q) (same q)));
  trans = λ l m n p r. (same_rules-Decides eq l n).1 (λ q. same_rule-trans o (get l q) (get m q) (get n q) ((same_rules-Decides eq l m).0 p q) ((same_rules-Decides eq m n).0 r q));
}

-- and an equivalence if that of rules is one
pub same_rules-equivalence : {V : Type 0} (eq : V → V → Bool) → IsEquivalence eq → IsEquivalence (same_rules eq)
same_rules-equivalence eq o =
    let partial = same_rules-partial eq (partial_equiv_from_equiv o) in
    record {
      refl = λ m. (same_rules-Decides eq m m).1 (λ q. same_rule-refl o (get m q));
      symm = partial.symm;
      congr = λ l m n p. one_answer _ _ (same_rules-Decides eq l n)
          (λ t. (same_rules-Decides eq l n).0 (partial.trans l m n p t), λ same. partial.trans m l n (partial.symm m l ∙ p) ((same_rules-Decides eq l n).1 same));
    }
