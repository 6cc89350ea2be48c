-- The map of the rules that effects leave.
use Rattle.std.proofs.Common.{◌≡◌, ℕ, zero, suc, ◌+◌, ◌%◌, Bool, true, false, cond, List, [], ◌∷◌, Option, Some, None, is_some, ◌==◌, refl, sym, ap, subst, ◌∙◌, arith}
use Rattle.std.specs.Prelude.{◌||◌, unwrap_or}
use Rattle.std.specs.Option.{option_or}
use Rattle.std.specs.FinMap.{get, insert, remove, get-empty, get-insert, get-remove, nat_cmp-IsAntisymmetric, same_map}
use Rattle.std.specs.List.{filter_map, list_any}
use Rattle.std.specs.Ordering.{nat_cmp}
use Rattle.std.proofs.lemmas.Bool.{eqb-true, eq-eqb, false≢true}
use Rattle.std.proofs.lemmas.Cmp.{nat_cmp_total}
use Rattle.list_laws.specs.First.{first_value}
use Rattle.list_laws.proofs.Laws.{by_case}
use Rattle.dwarf_constants.specs.declared.common.Register.{Register}
use Rattle.dwarf_frame_rows.specs.declared.effect.Effect.{Effect}
use Rattle.dwarf_frame_rows.specs.declared.effect.Effect.TheVariants.{Move, Cfa, CfaRegister, CfaOffset, Rule, RestoreRule, NegateRaState, ArgsSize, Remember, Restore, Nothing}
use Rattle.dwarf_frame_rows.specs.declared.rules.RegisterRule.{RegisterRule}
use Rattle.dwarf_frame_rows.specs.declared.rules.RegisterRule.TheVariants.{Constant}
use Rattle.dwarf_frame_rows.specs.RuleMap.{RuleMap}
use Rattle.dwarf_frame_rows.proofs.Laws.{eqb_sym, ties}
use Rattle.dwarf_frame_instructions.specs.Parts.{rule_by, written_rule, sign_state, is_turn, turns, constant_of, turned, rule_of, ruled_register, with_rule, rules_at, surviving_rules}

-- ---- tests of numbers

-- a number is itself
pub same_number : (a : ℕ) → (a == a) ≡ true
same_number a = eq-eqb a a refl

-- ---- the rule of a register after one more effect

-- the effect writes these rules, each register's by a test of its own
module _ {T : Type 0} (initial : RuleMap (RegisterRule T)) (e : Effect T) (register : ℕ) (rule : Option (RegisterRule T)) where
  -- an effect that writes a rule of one register alone
  pub record WritesRule : Type 0 where
    pub by : (q : ℕ) → rule_by initial q e ≡ cond (register == q) (Some rule) None
    pub still : is_turn e ≡ false

  written_by : WritesRule → (q : ℕ) (executed : List (Effect T)) → written_rule initial q (e ∷ executed) ≡ cond (register == q) rule (written_rule initial q executed)
  written_by w q executed = ap (λ o. unwrap_or (option_or o (first_value (rule_by initial q) executed)) None) (w.by q) ∙ chosen (register == q)
    where
      chosen : (b : Bool) → unwrap_or (option_or (cond b (Some rule) None) (first_value (rule_by initial q) executed)) None ≡ cond b rule (written_rule initial q executed)
      chosen true = refl
      chosen false = refl

  turns_by : WritesRule → (executed : List (Effect T)) → turns initial (e ∷ executed) ≡ cond (register == sign_state) zero (turns initial executed)
  turns_by w executed =
      ap (λ o. cond (is_some o) zero (cond (is_turn e) (suc (turns initial executed)) (turns initial executed))) (w.by sign_state)
      ∙ ap (λ t. cond (is_some (cond (register == sign_state) (Some rule) None)) zero (cond t (suc (turns initial executed)) (turns initial executed))) w.still
      ∙ chosen (register == sign_state)
    where
      chosen : (b : Bool) → cond (is_some (cond b (Some rule) None)) zero (cond false (suc (turns initial executed)) (turns initial executed)) ≡ cond b zero (turns initial executed)
      chosen true = refl
      chosen false = refl

  -- that register has the rule, and every other what it had
  pub rule_of-written : WritesRule → (executed : List (Effect T)) (q : ℕ) → rule_of initial (e ∷ executed) q ≡ cond (register == q) rule (rule_of initial executed q)
  rule_of-written w executed q =
      by_case (q == sign_state)
      (λ is.
      let same : q ≡ sign_state = eqb-true q sign_state is in
      let P : ℕ → Type 0 = λ n. rule_of initial (e ∷ executed) n ≡ cond (register == n) rule (rule_of initial executed n) in
      subst P (sym same) (at_sign_state (register == sign_state) refl))
      (λ is. rw is (written_by w q executed))
    where
      at_sign_state : (b : Bool) → (register == sign_state) ≡ b → rule_of initial (e ∷ executed) sign_state ≡ cond (register == sign_state) rule (rule_of initial executed sign_state)
      at_sign_state true is =
          ap (λ n. turned n (written_rule initial sign_state (e ∷ executed))) (turns_by w executed ∙ ap (λ b. cond b zero (turns initial executed)) is)
          ∙ written_by w sign_state executed ∙ ap (λ b. cond b rule (written_rule initial sign_state executed)) is
          ∙ sym (ap (λ b. cond b rule (rule_of initial executed sign_state)) is)
      at_sign_state false is =
          ap (λ n. turned n (written_rule initial sign_state (e ∷ executed))) (turns_by w executed ∙ ap (λ b. cond b zero (turns initial executed)) is)
          ∙ ap (turned (turns initial executed)) (written_by w sign_state executed ∙ ap (λ b. cond b rule (written_rule initial sign_state executed)) is)
          ∙ sym (ap (λ b. cond b rule (rule_of initial executed sign_state)) is)

pub rule_writes : {T : Type 0} (initial : RuleMap (RegisterRule T)) (register : Register) (rule : RegisterRule T) → WritesRule initial (Rule register rule) register.0 (Some rule)
rule_writes initial register rule = record { by = λ q. refl; still = refl }

pub restore_writes : {T : Type 0} (initial : RuleMap (RegisterRule T)) (register : Register) → WritesRule initial (RestoreRule register) register.0 (get initial register.0)
restore_writes initial register = record { by = λ q. refl; still = refl }

-- ---- a turn of the sign state

-- a rule turned once more
abbrev pub turned_again : {T : Type 0} → Option (RegisterRule T) → Option (RegisterRule T)
turned_again rule = Some (Constant ((constant_of rule + 1) % 2))

turned-suc : {T : Type 0} (n : ℕ) (rule : Option (RegisterRule T)) → turned (suc n) rule ≡ turned_again (turned n rule)
turned-suc zero rule = refl
turned-suc (suc n) rule = let e : (constant_of rule + suc (suc n)) % 2 ≡ ((constant_of rule + suc n) % 2 + 1) % 2 = omega arith in ap (λ k. Some (Constant k)) e

pub rule_of-turned : {T : Type 0} (initial : RuleMap (RegisterRule T)) (executed : List (Effect T)) (q : ℕ)
    → rule_of initial (NegateRaState ∷ executed) q ≡ cond (sign_state == q) (turned_again (rule_of initial executed sign_state)) (rule_of initial executed q)
rule_of-turned initial executed q =
    by_case (q == sign_state)
    (λ is. let back : (sign_state == q) ≡ true = eqb_sym sign_state q ∙ is in rw (is, back) (turned-suc (turns initial executed) (written_rule initial sign_state executed)))
    (λ is. let back : (sign_state == q) ≡ false = eqb_sym sign_state q ∙ is in rw (is, back) refl)

-- ---- the map

module _ {V : Type 0} (rule : ℕ → Option V) (register : ℕ) (registers : List ℕ) (q : ℕ) where
  abbrev others : Bool
  others = list_any (λ r. r == q) registers

  set_here : (v : V) → rule register ≡ Some v → (b : Bool) → (register == q) ≡ b → cond b (Some v) (cond others (rule q) None) ≡ cond (b || others) (rule q) None
  set_here v is true same = sym is ∙ ap rule (eqb-true register q same)
  set_here v is false same = refl

  none : (b : Bool) → rule q ≡ None → cond b (rule q) None ≡ None
  none true h = h
  none false h = refl

  none_here : rule register ≡ None → (b : Bool) → (register == q) ≡ b → cond others (rule q) None ≡ cond (b || others) (rule q) None
  none_here is true same = let nothing : rule q ≡ None = ap rule (sym (eqb-true register q same)) ∙ is in none others nothing ∙ sym nothing
  none_here is false same = refl

  -- one more register
  with_rule-answers : (o : Option V) → rule register ≡ o → get (rules_at rule registers) q ≡ cond others (rule q) None
      → get (with_rule o register (rules_at rule registers)) q ≡ cond ((register == q) || others) (rule q) None
  with_rule-answers (Some v) is h =
      get-insert nat_cmp_total (rules_at rule registers) register v q
      ∙ ap (λ b. cond b (Some v) (get (rules_at rule registers) q)) (ties q register)
      ∙ ap (λ o. cond (register == q) (Some v) o) h
      ∙ set_here v is (register == q) refl
  with_rule-answers None is h = h ∙ none_here is (register == q) refl

-- it has the rules of these registers
get-rules_at : {V : Type 0} (rule : ℕ → Option V) (registers : List ℕ) (q : ℕ) → get (rules_at rule registers) q ≡ cond (list_any (λ r. r == q) registers) (rule q) None
get-rules_at rule [] q = get-empty nat_cmp q
get-rules_at {V} rule (register ∷ registers) q = with_rule-answers rule register registers q (rule register) refl (get-rules_at rule registers q)

either_false : (a b : Bool) → (a || b) ≡ false → (a ≡ false) × (b ≡ false)
either_false true b h = absurd (false≢true (sym h))
either_false false b h = (refl, h)

-- a register that no effect names has no rule
unnamed : {T : Type 0} (initial : RuleMap (RegisterRule T)) (executed : List (Effect T)) (q : ℕ) → list_any (λ r. r == q) (filter_map ruled_register executed) ≡ false → rule_of initial executed q ≡ None
unnamed initial [] q h = by_case (q == sign_state) (λ is. rw is refl) (λ is. rw is refl)
unnamed initial (Rule register rule ∷ executed) q h =
    let (apart, others) = either_false (register.0 == q) (list_any (λ r. r == q) (filter_map ruled_register executed)) h in
    rule_of-written initial (Rule register rule) register.0 (Some rule) (rule_writes initial register rule) executed q ∙ ap (λ b. cond b (Some rule) (rule_of initial executed q)) apart ∙ unnamed initial executed q others
unnamed initial (RestoreRule register ∷ executed) q h =
    let (apart, others) = either_false (register.0 == q) (list_any (λ r. r == q) (filter_map ruled_register executed)) h in
    rule_of-written initial (RestoreRule register) register.0 (get initial register.0) (restore_writes initial register) executed q ∙ ap (λ b. cond b (get initial register.0) (rule_of initial executed q)) apart ∙ unnamed initial executed q others
unnamed initial (NegateRaState ∷ executed) q h =
    let (apart, others) = either_false (sign_state == q) (list_any (λ r. r == q) (filter_map ruled_register executed)) h in
    rule_of-turned initial executed q ∙ ap (λ b. cond b (turned_again (rule_of initial executed sign_state)) (rule_of initial executed q)) apart ∙ unnamed initial executed q others
unnamed initial (Move location ∷ executed) q h = unnamed initial executed q h
unnamed initial (Cfa rule ∷ executed) q h = unnamed initial executed q h
unnamed initial (CfaRegister register ∷ executed) q h = unnamed initial executed q h
unnamed initial (CfaOffset offset ∷ executed) q h = unnamed initial executed q h
unnamed initial (ArgsSize size ∷ executed) q h = unnamed initial executed q h
unnamed initial (Remember ∷ executed) q h = unnamed initial executed q h
unnamed initial (Restore ∷ executed) q h = unnamed initial executed q h
unnamed initial (Nothing ∷ executed) q h = unnamed initial executed q h

-- the map answers each register's rule
pub get-rules_of : {T : Type 0} (initial : RuleMap (RegisterRule T)) (executed : List (Effect T)) (q : ℕ) → get (surviving_rules initial executed) q ≡ rule_of initial executed q
get-rules_of initial executed q =
    get-rules_at (rule_of initial executed) (filter_map ruled_register executed) q
    ∙ by_case (list_any (λ r. r == q) (filter_map ruled_register executed))
    (λ is. rw is refl)
    (λ is. rw is (sym (unnamed initial executed q is)))

-- a map that answers so is this map
pub map_of_rules : {T : Type 0} (initial : RuleMap (RegisterRule T)) (executed : List (Effect T)) (m : RuleMap (RegisterRule T)) → ((q : ℕ) → get m q ≡ rule_of initial executed q) → m ≡ surviving_rules initial executed
map_of_rules initial executed m is = same_map nat_cmp_total nat_cmp-IsAntisymmetric m (surviving_rules initial executed) (λ q. is q ∙ sym (get-rules_of initial executed q))

-- a rule that is set, or taken away
pub set_rules : {T : Type 0} (initial : RuleMap (RegisterRule T)) (e : Effect T) (executed : List (Effect T)) (m : RuleMap (RegisterRule T)) (register : ℕ) (rule : RegisterRule T)
    → m ≡ surviving_rules initial executed → ((q : ℕ) → rule_of initial (e ∷ executed) q ≡ cond (register == q) (Some rule) (rule_of initial executed q)) → insert m register rule ≡ surviving_rules initial (e ∷ executed)
set_rules initial e executed m register rule is written =
    map_of_rules initial (e ∷ executed) (insert m register rule)
    (λ q. get-insert nat_cmp_total m register rule q ∙ ap (λ b. cond b (Some rule) (get m q)) (ties q register)
    ∙ ap (λ o. cond (register == q) (Some rule) o) (ap (λ n. get n q) is ∙ get-rules_of initial executed q) ∙ sym (written q))

pub removed_rules : {T : Type 0} (initial : RuleMap (RegisterRule T)) (e : Effect T) (executed : List (Effect T)) (m : RuleMap (RegisterRule T)) (register : ℕ)
    → m ≡ surviving_rules initial executed → ((q : ℕ) → rule_of initial (e ∷ executed) q ≡ cond (register == q) None (rule_of initial executed q)) → remove m register ≡ surviving_rules initial (e ∷ executed)
removed_rules initial e executed m register is written =
    map_of_rules initial (e ∷ executed) (remove m register)
    (λ q. get-remove nat_cmp_total m register q ∙ ap (λ b. cond b None (get m q)) (ties q register)
    ∙ ap (λ o. cond (register == q) None o) (ap (λ n. get n q) is ∙ get-rules_of initial executed q) ∙ sym (written q))

pub ruleset get_rules = (get-rules_of)
