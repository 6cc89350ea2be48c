-- Two increasing lists of pairs are the same map exactly if they have the same registers and equal rules, pair by pair.
use Rattle.std.proofs.Common.{◌≡◌, ℕ, ◌<◌, Bool, true, false, cond, List, [], ◌∷◌, Option, Some, None, ◌==◌, refl, sym, ap, ◌∙◌, arith}
use Rattle.std.specs.Prelude.{◌&&◌, nat_lt}
use Rattle.std.specs.Bool.{one_answer}
use Rattle.std.specs.Cmp.Lexicographic.{pointwise}
use Rattle.std.proofs.lemmas.Bool.{eq-eqb, eqb-true, false≢true}
use Rattle.std.proofs.lemmas.Bool.Decides.{nat_tests}
use Rattle.list_laws.proofs.Laws.{by_case}
use Rattle.dwarf_frame_rows.specs.declared.rules.RuledRegister.{RuledRegister}
use Rattle.dwarf_frame_rows.specs.RuleList.{IsIncreasing}
use Rattle.dwarf_frame_rows.specs.RuleMap.{map_of, rule_in}
use Rattle.dwarf_frame_rows.specs.SameRules.{first_of_both, same_rule, same_rules, same_rules-Decides, second_of_both}
use Rattle.dwarf_frame_rows.proofs.RuleMaps.{below-less, below-none, get-map_of}

-- one register, and equal rules
abbrev pub same_pair : {V : Type 0} → (V → V → Bool) → RuledRegister V → RuledRegister V → Bool
same_pair eq x y = (x.register.0 == y.register.0) && eq x.rule y.rule

first-rule : {V : Type 0} (z : RuledRegister V) (zs : List (RuledRegister V)) → rule_in z.register.0 (z ∷ zs) ≡ Some z.rule
first-rule z zs = ap (λ b. cond b (Some z.rule) (rule_in z.register.0 zs)) (eq-eqb z.register.0 z.register.0 refl)

-- pairs that are the same have equal rules in both lists
module _ {V : Type 0} (eq : V → V → Bool) where
  forth : (xs ys : List (RuledRegister V)) → pointwise (same_pair eq) xs ys ≡ true → (q : ℕ) → same_rule eq (rule_in q xs) (rule_in q ys) ≡ true
  forth [] [] all q = refl
  forth [] (y ∷ ys) all q = absurd (false≢true all)
  forth (x ∷ xs) [] all q = absurd (false≢true all)
  forth (x ∷ xs) (y ∷ ys) all q =
      let here = first_of_both (same_pair eq x y) (pointwise (same_pair eq) xs ys) all in
      let one = eqb-true x.register.0 y.register.0 (first_of_both (x.register.0 == y.register.0) (eq x.rule y.rule) here) in
      ap (λ n. same_rule eq (cond (x.register.0 == q) (Some x.rule) (rule_in q xs)) (cond (n == q) (Some y.rule) (rule_in q ys))) (sym one)
      ∙ by (x.register.0 == q) (rule_in q xs) (rule_in q ys) (second_of_both (x.register.0 == y.register.0) (eq x.rule y.rule) here)
      (forth xs ys (second_of_both (same_pair eq x y) (pointwise (same_pair eq) xs ys) all) q)
    where
      by : (b : Bool) (o p : Option V) → eq x.rule y.rule ≡ true → same_rule eq o p ≡ true → same_rule eq (cond b (Some x.rule) o) (cond b (Some y.rule) p) ≡ true
      by true o p same others = same
      by false o p same others = others

  -- lists with equal rules have the same pairs
  back : (xs ys : List (RuledRegister V)) → IsIncreasing xs → IsIncreasing ys → ((q : ℕ) → same_rule eq (rule_in q xs) (rule_in q ys) ≡ true) → pointwise (same_pair eq) xs ys ≡ true
  back [] [] x_up y_up same = refl
  back [] (y ∷ ys) x_up y_up same = absurd (false≢true (ap (λ o. same_rule eq None o) (sym (first-rule y ys)) ∙ same y.register.0))
  back (x ∷ xs) [] x_up y_up same = absurd (false≢true (ap (λ o. same_rule eq o None) (sym (first-rule x xs)) ∙ same x.register.0))
  back (x ∷ xs) (y ∷ ys) x_up y_up same =
      by_case (nat_lt x.register.0 y.register.0)
      (λ is.
      let less : x.register.0 < y.register.0 = grind (arith, nat_tests) in
      let none = below-none x.register.0 (y ∷ ys) (less, below-less x.register.0 y.register.0 ys less y_up.0) in
      absurd (false≢true (ap (λ o. same_rule eq o None) (sym (first-rule x xs)) ∙ ap (λ o. same_rule eq (rule_in x.register.0 (x ∷ xs)) o) (sym none) ∙ same x.register.0)))
      (λ not_less. by_case (nat_lt y.register.0 x.register.0)
      (λ is.
      let less : y.register.0 < x.register.0 = grind (arith, nat_tests) in
      let none = below-none y.register.0 (x ∷ xs) (less, below-less y.register.0 x.register.0 xs less x_up.0) in
      absurd (false≢true (ap (λ o. same_rule eq None o) (sym (first-rule y ys)) ∙ ap (λ o. same_rule eq o (rule_in y.register.0 (y ∷ ys))) (sym none) ∙ same y.register.0)))
      (λ not_more.
      let one : x.register.0 ≡ y.register.0 = grind (arith, nat_tests) in
      let rules : eq x.rule y.rule ≡ true =
      ap (λ o. same_rule eq (Some x.rule) o) (sym (ap (λ n. rule_in n (y ∷ ys)) one ∙ first-rule y ys))
      ∙ ap (λ o. same_rule eq o (rule_in x.register.0 (y ∷ ys))) (sym (first-rule x xs)) ∙ same x.register.0 in
      both-true (same_pair eq x y) (pointwise (same_pair eq) xs ys)
      (both-true (x.register.0 == y.register.0) (eq x.rule y.rule) (eq-eqb x.register.0 y.register.0 one) rules)
      (back xs ys x_up.1 y_up.1 (λ q. others one q))))
    where
      both-true : (a b : Bool) → a ≡ true → b ≡ true → (a && b) ≡ true
      both-true a b h g = ap (λ c. c && b) h ∙ g

      past : (b : Bool) (o p : Option V) → b ≡ false → same_rule eq (cond b (Some x.rule) o) (cond b (Some y.rule) p) ≡ true → same_rule eq o p ≡ true
      past true o p h same = absurd (false≢true (sym h))
      past false o p h same = same

      others : x.register.0 ≡ y.register.0 → (q : ℕ) → same_rule eq (rule_in q xs) (rule_in q ys) ≡ true
      others one q =
          by_case (x.register.0 == q)
          (λ is.
          let at : x.register.0 ≡ q = eqb-true x.register.0 q is in
          let none-x : rule_in q xs ≡ None = ap (λ n. rule_in n xs) (sym at) ∙ below-none x.register.0 xs x_up.0 in
          let none-y : rule_in q ys ≡ None = ap (λ n. rule_in n ys) (sym at ∙ one) ∙ below-none y.register.0 ys y_up.0 in
          ap (λ o. same_rule eq o (rule_in q ys)) none-x ∙ ap (same_rule eq None) none-y)
          (λ not_it. past (x.register.0 == q) (rule_in q xs) (rule_in q ys) not_it
          (ap (λ n. same_rule eq (cond (x.register.0 == q) (Some x.rule) (rule_in q xs)) (cond (n == q) (Some y.rule) (rule_in q ys))) one ∙ same q))

-- equality of the lists is that of their maps
pub pair_by_pair : {V : Type 0} (eq : V → V → Bool) (xs ys : List (RuledRegister V)) → IsIncreasing xs → IsIncreasing ys → pointwise (same_pair eq) xs ys ≡ same_rules eq (map_of xs) (map_of ys)
pair_by_pair eq xs ys x_up y_up =
    one_answer _ _ (
      λ all q. rw (get-map_of xs q, get-map_of ys q) (forth eq xs ys all q),
      λ same. back eq xs ys x_up y_up (λ q. rw (← get-map_of xs q, ← get-map_of ys q) (same q)),
    )
    (same_rules-Decides eq (map_of xs) (map_of ys))
