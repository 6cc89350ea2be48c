-- What is kept of rows while instructions are executed without a context.
use Rattle.std.proofs.Common.{◌≡◌, ℕ, suc, ◌+◌, ◌<◌, ◌≤◌, ℤ, Bool, true, false, cond, List, [], ◌∷◌, length, Option, Some, None, is_some, Ok, refl, sym, ap, subst, ◌∙◌, arith, eqb-true}
use Rattle.std.specs.Prelude.{◌||◌, ◌==◌, unwrap_or}
use Rattle.std.specs.FinMap.{get, insert, len, contains_key, get-empty, get-insert, len-empty, len-insert}
use Rattle.std.specs.List.{cons_option, filter_map, list_any}
use Rattle.std.specs.Option.{option_or}
use Rattle.std.specs.Ordering.{nat_cmp}
use Rattle.std.proofs.lemmas.Bool.Decides.{nat_tests}
use Rattle.std.proofs.lemmas.Cmp.{nat_cmp_total}
use Rattle.list_laws.specs.First.{first_value}
use Rattle.list_laws.proofs.Laws.{by_case}
use Rattle.dwarf_constants.specs.declared.common.Register.{Register}
use Rattle.dwarf_frame_rows.specs.declared.effect.Effect.{Effect}
use Rattle.dwarf_frame_rows.specs.declared.effect.Effect.TheVariants.{Move, Cfa, CfaRegister, CfaOffset, Rule, RestoreRule, NegateRaState, ArgsSize, Remember, Restore, Nothing}
use Rattle.dwarf_frame_rows.specs.declared.expression.UnwindExpression.{UnwindExpression}
use Rattle.dwarf_frame_rows.specs.declared.rules.CfaRule.TheVariants.{RegisterAndOffset}
use Rattle.dwarf_frame_rows.specs.declared.rules.RegisterRule.{RegisterRule}
use Rattle.dwarf_frame_rows.specs.Effects.{Limits, is_within}
use Rattle.dwarf_frame_rows.proofs.Laws.{ties}
use Rattle.dwarf_frame_instructions.specs.Parts.{cfa_expression, cfa_from, cfa_of, rule_by, rule_of, ruled_register, rules_at, sign_state, surviving_rules, with_rule, written_rule}
use Rattle.dwarf_frame_instructions.specs.Refusals.{needs_room_for_rule}
use Rattle.dwarf_frame_instructions.specs.Survivors.{open_states, survivors}
use Rattle.dwarf_frame_parts.specs.declared.parts_state.PartsState.{PartsState}
use Rattle.dwarf_frame_parts.specs.declared.simple_row.Columns.{Columns}
use Rattle.dwarf_frame_parts.specs.declared.simple_row.SimpleRow.{SimpleRow}
use Rattle.dwarf_frame_parts.specs.PartsStates.{Effects, Follows, HasRoomForParts, HasRulesOf, Keeps, KeepsMore, Remembers, Rules}
use Rattle.dwarf_frame_parts.specs.SimpleRows.{cfa_shown, rule_shown}

-- ---- the rules of a row

-- a row has no more rules than registers that were named
with-rule-len : (o : Option (RegisterRule ℕ)) (register : ℕ) (m : Rules) (n : ℕ) → len m ≤ n → len (with_rule o register m) ≤ suc n
with-rule-len None register m n few = omega arith
with-rule-len (Some v) register m n few =
    by_case (contains_key m register)
    (λ is. let made : len (insert m register v) ≡ len m = len-insert nat_cmp_total m register v ∙ ap (λ b. cond b (len m) (len m + 1)) is in omega (arith, made, few))
    (λ is. let made : len (insert m register v) ≡ len m + 1 = len-insert nat_cmp_total m register v ∙ ap (λ b. cond b (len m) (len m + 1)) is in omega (arith, made, few))

rules-len : (rule : ℕ → Option (RegisterRule ℕ)) (registers : List ℕ) → len (rules_at rule registers) ≤ length registers
rules-len rule [] = let none : len (rules_at rule []) ≡ 0 = len-empty nat_cmp (RegisterRule ℕ) in omega (arith, none)
rules-len rule (register ∷ registers) = with-rule-len (rule register) register (rules_at rule registers) (length registers) (rules-len rule registers)

-- the rule of a register is in the map if the register was named
module _ (rule : ℕ → Option (RegisterRule ℕ)) (register : ℕ) (registers : List ℕ) (q : ℕ) where
  abbrev named : Bool
  named = list_any (λ r. r == q) registers

  here : (o : Option (RegisterRule ℕ)) → rule register ≡ o → (b : Bool) → (register == q) ≡ b → cond b o (cond named (rule q) None) ≡ cond (b || named) (rule q) None
  here o is true same = sym is ∙ ap rule (eqb-true register q same)
  here o is false same = refl

  absent : (b : Bool) → rule q ≡ None → cond b (rule q) None ≡ None
  absent true is = is
  absent false is = refl

  none-here : rule register ≡ None → (b : Bool) → (register == q) ≡ b → cond named (rule q) None ≡ cond (b || named) (rule q) None
  none-here is true same = let nothing : rule q ≡ None = ap rule (sym (eqb-true register q same)) ∙ is in absent named nothing ∙ sym nothing
  none-here is false same = refl

  one-more : (o : Option (RegisterRule ℕ)) → rule register ≡ o → get (rules_at rule registers) q ≡ cond named (rule q) None
      → get (with_rule o register (rules_at rule registers)) q ≡ cond ((register == q) || named) (rule q) None
  one-more (Some v) is others =
      get-insert nat_cmp_total (rules_at rule registers) register v q
      ∙ ap (λ b. cond b (Some v) (get (rules_at rule registers) q)) (ties q register)
      ∙ ap (λ o. cond (register == q) (Some v) o) others
      ∙ here (Some v) is (register == q) refl
  one-more None is others = others ∙ none-here is (register == q) refl

get-rules-at : (rule : ℕ → Option (RegisterRule ℕ)) (registers : List ℕ) (q : ℕ) → get (rules_at rule registers) q ≡ cond (list_any (λ r. r == q) registers) (rule q) None
get-rules-at rule [] q = get-empty nat_cmp q
get-rules-at rule (register ∷ registers) q = one-more rule register registers q (rule register) refl (get-rules-at rule registers q)

-- a register that no effect names has no rule
either-false : (a b : Bool) → (a || b) ≡ false → (a ≡ false) × (b ≡ false)
either-false true b h = cc
either-false false b h = (refl, h)

module _ (initial : Rules) (q : ℕ) where
  unnamed : (left : Effects) → list_any (λ r. r == q) (filter_map ruled_register left) ≡ false → written_rule initial q left ≡ None
  unnamed [] h = refl
  unnamed (Rule register rule ∷ left) h = let both = either-false (register.0 == q) (list_any (λ r. r == q) (filter_map ruled_register left)) h in rw both.0 (unnamed left both.1)
  unnamed (RestoreRule register ∷ left) h = let both = either-false (register.0 == q) (list_any (λ r. r == q) (filter_map ruled_register left)) h in rw both.0 (unnamed left both.1)
  unnamed (NegateRaState ∷ left) h = let both = either-false (sign_state == q) (list_any (λ r. r == q) (filter_map ruled_register left)) h in unnamed left both.1
  unnamed (Move location ∷ left) h = unnamed left h
  unnamed (Cfa rule ∷ left) h = unnamed left h
  unnamed (CfaRegister register ∷ left) h = unnamed left h
  unnamed (CfaOffset offset ∷ left) h = unnamed left h
  unnamed (ArgsSize size ∷ left) h = unnamed left h
  unnamed (Remember ∷ left) h = unnamed left h
  unnamed (Restore ∷ left) h = unnamed left h
  unnamed (Nothing ∷ left) h = unnamed left h

  -- a row has the rule that was last written for a register other than the sign state
  pub get-written : (q == sign_state) ≡ false → (left : Effects) → get (surviving_rules initial left) q ≡ written_rule initial q left
  get-written apart left =
      get-rules-at (rule_of initial left) (filter_map ruled_register left) q
      ∙ by_case (list_any (λ r. r == q) (filter_map ruled_register left))
      (λ is. rw (is, apart) refl)
      (λ is. rw is (sym (unnamed left is)))

-- ---- limits

within-less : (limit : Option ℕ) (most n : ℕ) → n ≤ most → is_within limit most ≡ true → is_within limit n ≡ true
within-less None most n less is = refl
within-less (Some limit) most n less is = grind (arith, nat_tests)

module _ (columns : Columns) where
  -- there is room for the rules of a row that is kept
  pub rules-fit : (limits : Limits) → HasRoomForParts limits → (initial : Rules) (register : ℕ) (executed : Effects) (kept : SimpleRow)
      → Keeps columns initial kept (survivors 0 executed) → needs_room_for_rule limits initial register executed ≡ Ok tt
  rules-fit limits room initial register executed kept keeps =
      let left = survivors 0 executed in
      let few : len (surviving_rules initial left) ≤ 128 = omega (arith, rules-len (rule_of initial left) (filter_map ruled_register left), keeps.few, keeps.within) in
      let is : is_within limits.rules (len (surviving_rules initial left)) ≡ true = within-less limits.rules 128 (len (surviving_rules initial left)) few room.rules in
      by_case (is_some (rule_of initial left register)) (λ some. rw (some, is) refl) (λ none. rw none refl)

  -- ---- what is kept after one more effect

  -- the sign state is negated
  pub keeps-negated : (kept new : SimpleRow) → (kept.rules < 128) × (new ≡ record kept { rules = kept.rules + 1 }) → KeepsMore columns kept NegateRaState new
  keeps-negated kept new is initial left keeps =
      let count : new.rules ≡ kept.rules + 1 = ap (λ (k : SimpleRow). k.rules) is.1 in
      record {
        cfa = ap (λ (k : SimpleRow). cfa_shown k) is.1 ∙ keeps.cfa;
        frame = ap (λ (k : SimpleRow). rule_shown k.fp) is.1 ∙ keeps.frame;
        caller = ap (λ (k : SimpleRow). rule_shown k.ra) is.1 ∙ keeps.caller;
        sign = keeps.sign;
        few = let few = keeps.few in omega (arith, count, few);
        within = omega (arith, count, is.0);
      }

  -- an effect that names no register leaves all but the CFA
  pub keeps-cfa : (kept new : SimpleRow) (initial : Rules) (e : Effect ℕ) (left : Effects) → ((q : ℕ) → rule_by initial q e ≡ None) → ruled_register e ≡ None
      → cfa_shown new ≡ cfa_of (e ∷ left) → new.fp ≡ kept.fp → new.ra ≡ kept.ra → new.rules ≡ kept.rules
      → Keeps columns initial kept left → Keeps columns initial new (e ∷ left)
  keeps-cfa kept new initial e left none unnamed cfa fp ra count keeps =
      let same : (q : ℕ) → written_rule initial q (e ∷ left) ≡ written_rule initial q left = λ q. ap (λ o. unwrap_or (option_or o (first_value (rule_by initial q) left)) None) (none q) in
      let few : length (filter_map ruled_register (e ∷ left)) ≡ length (filter_map ruled_register left) = ap (λ o. length (cons_option o (filter_map ruled_register left))) unnamed in
      record {
        cfa = cfa;
        frame = ap rule_shown fp ∙ keeps.frame ∙ sym (same columns.fp.0);
        caller = ap rule_shown ra ∙ keeps.caller ∙ sym (same columns.ra.0);
        sign = same sign_state ∙ keeps.sign;
        few = omega (arith, few, count, keeps.few);
        within = omega (arith, count, keeps.within);
      }

  -- a CFA that is no expression was made none
  expression-seen : (register : Register) (offset : ℤ) (x : Option (UnwindExpression ℕ)) (s : Register) (p : ℤ) → RegisterAndOffset register offset ≡ cfa_from x s p → x ≡ None
  expression-seen register offset None s p is = refl
  expression-seen register offset (Some e) s p is = cc

  pub no-expression : (initial : Rules) (kept : SimpleRow) (left : Effects) → Keeps columns initial kept left → cfa_expression left ≡ None
  no-expression initial kept left keeps = expression-seen kept.cfa_register kept.cfa_offset (cfa_expression left) _ _ keeps.cfa

  -- ---- a state after one more effect

  -- the state after an effect that opens and closes nothing
  module _ (initial : Rules) (old new : PartsState) (executed : Effects) (follows : Follows columns initial old executed) (same : new.initial ≡ old.initial) (rest : new.remembered ≡ old.remembered) where
    restores-still : HasRulesOf columns initial new.initial
    restores-still = subst (HasRulesOf columns initial) (sym same) follows.restores

    remembers-still : (e : Effect ℕ) → open_states (e ∷ executed) ≡ open_states executed → survivors 1 (e ∷ executed) ≡ survivors 1 executed → Remembers columns initial new.remembered (e ∷ executed)
    remembers-still e depth left = subst (λ r. Remembers columns initial r (e ∷ executed)) (sym rest) (by old.remembered follows.remembers)
      where
        by : (r : Option SimpleRow) → Remembers columns initial r executed → Remembers columns initial r (e ∷ executed)
        by None none = depth ∙ none
        by (Some kept) one = (depth ∙ one.0, subst (Keeps columns initial kept) (sym left) one.1)

    pub follows-written : (e : Effect ℕ) → open_states (e ∷ executed) ≡ open_states executed → survivors 1 (e ∷ executed) ≡ survivors 1 executed
        → Keeps columns initial new.current (survivors 0 (e ∷ executed)) → Follows columns initial new (e ∷ executed)
    follows-written e depth left keeps = record { restores = restores-still; current = keeps; remembers = remembers-still e depth left }
