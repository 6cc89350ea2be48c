-- What instructions, effects and states do is the same if the offsets of expressions are seen as numbers.
use Rattle.std.proofs.Common.{◌≡◌, ℕ, ◌+◌, Bool, true, false, cond, List, [], ◌∷◌, map, length, Option, Some, None, option_map, Result, Ok, refl, sym, ap, subst, ◌∙◌}
use Rattle.std.specs.Prelude.{ℤ, T, nat_le, ◌&&◌, ◌-◌, ◌%◌}
use Rattle.std.specs.FinMap.{empty, entries, entries-from_sorted, entries_sorted, get, get-empty, get-entries, get-from_sorted, get-insert, get-remove, insert, is_sorted, len, len-entries, nat_cmp-IsAntisymmetric, remove, same_map}
use Rattle.std.specs.FinMap.Entries.{below_all, find}
use Rattle.std.specs.Ordering.{eq_by_cmp, is_lt, nat_cmp}
use Rattle.std.proofs.lemmas.Cmp.{nat_cmp_total}
use Rattle.std.proofs.lemmas.List.{length-map}
use Rattle.dwarf_constants.specs.declared.arch.TheConstants.AArch64.{RA_SIGN_STATE}
use Rattle.dwarf_constants.specs.declared.common.Register.{Register}
use Rattle.dwarf_constants.specs.declared.error.Error.{Error}
use Rattle.dwarf_constants.specs.declared.error.Error.TheVariants.{StackFull, TooManyRegisterRules}
use Rattle.dwarf_readers.specs.Stretch.{◌>>=◌, requirement}
use Rattle.dwarf_frame_rows.specs.declared.effect.Effect.{Effect}
use Rattle.dwarf_frame_rows.specs.declared.effect.Effect.TheVariants.{Move, Cfa, CfaRegister, CfaOffset, Rule, RestoreRule, NegateRaState, ArgsSize, Remember, Restore, Nothing}
use Rattle.dwarf_frame_rows.specs.declared.rules.CfaRule.{CfaRule}
use Rattle.dwarf_frame_rows.specs.declared.rules.CfaRule.TheVariants as cfa
use Rattle.dwarf_frame_rows.specs.declared.rules.RegisterRule.{RegisterRule}
use Rattle.dwarf_frame_rows.specs.declared.rules.RegisterRule.TheVariants as rule
use Rattle.dwarf_frame_rows.specs.CfaRules.{with_cfa_offset, with_cfa_register}
use Rattle.dwarf_frame_rows.specs.Effects.{Limits, ContextState, first_state, initial_rows, is_within, negated_rule, restored_state, ruled_state, state_after, state_by_rules, state_with_initial_rules, state_with_latest_of, with_cfa, with_rules}
use Rattle.dwarf_frame_rows.specs.Row.{Row, first_row}
use Rattle.dwarf_frame_rows.specs.RuleMap.{RuleMap}
use Rattle.dwarf_frame_instructions.specs.InstructionViews.{answer_as}
use Rattle.dwarf_frame_instructions.specs.StateViews.{cfa_as, effect_as, map_as, row_as, rule_as, state_as}

-- ---- maps

module _ {V W : Type 0} (view : V → W) where
  abbrev entry_as : (ℕ × V) → ℕ × W
  entry_as e = (e.0, view e.1)

  below_as : (x : ℕ) (es : List (ℕ × V)) → below_all nat_cmp x (map entry_as es) ≡ below_all nat_cmp x es
  below_as x [] = refl
  below_as x (e ∷ es) = ap (λ b. is_lt (nat_cmp x e.0) && b) (below_as x es)

  sorted_as : (es : List (ℕ × V)) → is_sorted nat_cmp (map entry_as es) ≡ is_sorted nat_cmp es
  sorted_as [] = refl
  sorted_as (e ∷ es) = λ i. below_as e.0 es i && sorted_as es i

  sorted : (m : RuleMap V) → T (is_sorted nat_cmp (map entry_as (entries m)))
  sorted m = subst T (sym (sorted_as (entries m))) (entries_sorted m)

  find_as : (q : ℕ) (es : List (ℕ × V)) → find nat_cmp q (map entry_as es) ≡ option_map view (find nat_cmp q es)
  find_as q [] = refl
  find_as q (e ∷ es) = ap (λ o. cond (eq_by_cmp nat_cmp q e.0) (Some (view e.1)) o) (find_as q es) ∙ chosen (eq_by_cmp nat_cmp q e.0) (find nat_cmp q es)
    where
      chosen : (b : Bool) (o : Option V) → cond b (Some (view e.1)) (option_map view o) ≡ option_map view (cond b (Some e.1) o)
      chosen true o = refl
      chosen false o = refl

  pub get_as : (m : RuleMap V) (q : ℕ) → get (map_as view m) q ≡ option_map view (get m q)
  get_as m q = get-from_sorted nat_cmp (map entry_as (entries m)) q (sorted m) ∙ find_as q (entries m) ∙ ap (option_map view) (sym (get-entries m q))

  pub len_as : (m : RuleMap V) → len (map_as view m) ≡ len m
  len_as m = len-entries (map_as view m) ∙ ap (λ es. length es) (entries-from_sorted nat_cmp (map entry_as (entries m)) (sorted m)) ∙ length-map (entries m) entry_as ∙ sym (len-entries m)

  option_cond : (b : Bool) (o p : Option V) → option_map view (cond b o p) ≡ cond b (option_map view o) (option_map view p)
  option_cond true o p = refl
  option_cond false o p = refl

  pub insert_as : (m : RuleMap V) (k : ℕ) (v : V) → map_as view (insert m k v) ≡ insert (map_as view m) k (view v)
  insert_as m k v =
      same_map nat_cmp_total nat_cmp-IsAntisymmetric (map_as view (insert m k v)) (insert (map_as view m) k (view v))
      (λ q. get_as (insert m k v) q ∙ ap (option_map view) (get-insert nat_cmp_total m k v q) ∙ option_cond (eq_by_cmp nat_cmp q k) (Some v) (get m q)
      ∙ ap (λ o. cond (eq_by_cmp nat_cmp q k) (Some (view v)) o) (sym (get_as m q)) ∙ sym (get-insert nat_cmp_total (map_as view m) k (view v) q))

  pub remove_as : (m : RuleMap V) (k : ℕ) → map_as view (remove m k) ≡ remove (map_as view m) k
  remove_as m k =
      same_map nat_cmp_total nat_cmp-IsAntisymmetric (map_as view (remove m k)) (remove (map_as view m) k)
      (λ q. get_as (remove m k) q ∙ ap (option_map view) (get-remove nat_cmp_total m k q) ∙ option_cond (eq_by_cmp nat_cmp q k) None (get m q)
      ∙ ap (λ o. cond (eq_by_cmp nat_cmp q k) None o) (sym (get_as m q)) ∙ sym (get-remove nat_cmp_total (map_as view m) k q))

pub empty_as : {V W : Type 0} (view : V → W) → map_as view empty ≡ empty
empty_as view = same_map nat_cmp_total nat_cmp-IsAntisymmetric (map_as view empty) empty (λ q. get_as view empty q ∙ ap (option_map view) (get-empty nat_cmp q) ∙ sym (get-empty nat_cmp q))

-- ---- states

-- before any instruction
pub first_as : {T U : Type 0} (number : T → U) → state_as number first_state ≡ first_state
first_as number = ap (λ m. record first_state { row = record first_row { rules = m } }) (empty_as (rule_as number))

module _ {T U : Type 0} (number : T → U) (limits : Limits) where
  abbrev views : Result (ContextState T) Error → Result (ContextState U) Error
  views = answer_as (state_as number)

  required_as : (b d : Bool) (e : Error) (s : ContextState T) (t : ContextState U) → d ≡ b → t ≡ state_as number s
      → (requirement d e >>= λ _. Ok t) ≡ views (requirement b e >>= λ _. Ok s)
  required_as true d e s t same is = ap (λ x. requirement x e >>= λ _. Ok t) same ∙ ap (λ x. Ok x) is
  required_as false d e s t same is = ap (λ x. requirement x e >>= λ _. Ok t) same

  ruled_as : (register : ℕ) (v : RegisterRule T) (s : ContextState T) → ruled_state limits register (rule_as number v) (state_as number s) ≡ views (ruled_state limits register v s)
  ruled_as register v s =
      let made = insert_as (rule_as number) s.row.rules register v in
      required_as (is_within limits.rules (len (insert s.row.rules register v))) (is_within limits.rules (len (insert (map_as (rule_as number) s.row.rules) register (rule_as number v)))) TooManyRegisterRules
      (with_rules (insert s.row.rules register v) s) (with_rules (insert (map_as (rule_as number) s.row.rules) register (rule_as number v)) (state_as number s))
      (ap (λ n. is_within limits.rules n) (ap (λ m. len m) (sym made) ∙ len_as (rule_as number) (insert s.row.rules register v)))
      (ap (λ m. with_rules m (state_as number s)) (sym made))

  restored_as : (register : ℕ) (o : Option (RegisterRule T)) (s : ContextState T) → restored_state limits register (option_map (rule_as number) o) (state_as number s) ≡ views (restored_state limits register o s)
  restored_as register (Some v) s = ruled_as register v s
  restored_as register None s = ap (λ m. Ok (with_rules m (state_as number s))) (sym (remove_as (rule_as number) s.row.rules register))

  by_rules_as : (o : Option (RuleMap (RegisterRule T))) (register : ℕ) (s : ContextState T)
      → state_by_rules (option_map (map_as (rule_as number)) o) limits register (state_as number s) ≡ views (state_by_rules o limits register s)
  by_rules_as (Some rules) register s = ap (λ o. restored_state limits register o (state_as number s)) (get_as (rule_as number) rules register) ∙ restored_as register (get rules register) s
  by_rules_as None register s = refl

  negated_as : (o : Option (RegisterRule T)) (s : ContextState T)
      → (negated_rule (option_map (rule_as number) o) >>= λ v. ruled_state limits RA_SIGN_STATE.0 v (state_as number s)) ≡ views (negated_rule o >>= λ v. ruled_state limits RA_SIGN_STATE.0 v s)
  negated_as None s = ruled_as RA_SIGN_STATE.0 (rule.Constant 1) s
  negated_as (Some (rule.Constant n)) s = ruled_as RA_SIGN_STATE.0 (rule.Constant (1 - n % 2)) s
  negated_as (Some rule.Undefined) s = refl
  negated_as (Some rule.SameValue) s = refl
  negated_as (Some (rule.Offset offset)) s = refl
  negated_as (Some (rule.ValOffset offset)) s = refl
  negated_as (Some (rule.Register register)) s = refl
  negated_as (Some (rule.Expression expression)) s = refl
  negated_as (Some (rule.ValExpression expression)) s = refl
  negated_as (Some rule.Architectural) s = refl

  cfa_register_as : (register : Register) (c : CfaRule T) (s : ContextState T)
      → (with_cfa_register register (cfa_as number c) >>= with_cfa (state_as number s)) ≡ views (with_cfa_register register c >>= with_cfa s)
  cfa_register_as register (cfa.RegisterAndOffset before offset) s = refl
  cfa_register_as register (cfa.Expression expression) s = refl

  cfa_offset_as : (offset : ℤ) (c : CfaRule T) (s : ContextState T)
      → (with_cfa_offset offset (cfa_as number c) >>= with_cfa (state_as number s)) ≡ views (with_cfa_offset offset c >>= with_cfa s)
  cfa_offset_as offset (cfa.RegisterAndOffset register before) s = refl
  cfa_offset_as offset (cfa.Expression expression) s = refl

  popped_as : (rows : List (Row T)) (s : ContextState T) → state_with_latest_of (map (row_as number) rows) (state_as number s) ≡ views (state_with_latest_of rows s)
  popped_as [] s = refl
  popped_as (row ∷ rows) s = refl

  initial_rows_as : (o : Option (RuleMap (RegisterRule T))) → initial_rows (option_map (map_as (rule_as number)) o) ≡ initial_rows o
  initial_rows_as (Some rules) = ap (λ n. cond (nat_le 2 n) 1 0) (len_as (rule_as number) rules)
  initial_rows_as None = refl

  rows_as : (s : ContextState T) → is_within limits.rows (1 + length (map (row_as number) s.remembered_rows) + initial_rows (option_map (map_as (rule_as number)) s.initial_rules) + 1)
      ≡ is_within limits.rows (1 + length s.remembered_rows + initial_rows s.initial_rules + 1)
  rows_as s = λ i. is_within limits.rows (1 + length-map s.remembered_rows (row_as number) i + initial_rows_as s.initial_rules i + 1)

  -- an effect
  pub effect_acts_as : (e : Effect T) (s : ContextState T) → state_after limits (effect_as number e) (state_as number s) ≡ views (state_after limits e s)
  effect_acts_as (Move location) s = refl
  effect_acts_as (Cfa c) s = refl
  effect_acts_as (CfaRegister register) s = cfa_register_as register s.row.cfa s
  effect_acts_as (CfaOffset offset) s = cfa_offset_as offset s.row.cfa s
  effect_acts_as (Rule register v) s = ruled_as register.0 v s
  effect_acts_as (RestoreRule register) s = by_rules_as s.initial_rules register.0 s
  effect_acts_as NegateRaState s =
      ap (λ o. negated_rule o >>= λ v. ruled_state limits RA_SIGN_STATE.0 v (state_as number s)) (get_as (rule_as number) s.row.rules RA_SIGN_STATE.0)
      ∙ negated_as (get s.row.rules RA_SIGN_STATE.0) s
  effect_acts_as (ArgsSize size) s = refl
  effect_acts_as Remember s =
      required_as (is_within limits.rows (1 + length s.remembered_rows + initial_rows s.initial_rules + 1))
      (is_within limits.rows (1 + length (map (row_as number) s.remembered_rows) + initial_rows (option_map (map_as (rule_as number)) s.initial_rules) + 1)) StackFull
      (record s { remembered_rows = s.row ∷ s.remembered_rows }) (record (state_as number s) { remembered_rows = row_as number s.row ∷ map (row_as number) s.remembered_rows }) (rows_as s) refl
  effect_acts_as Restore s = popped_as s.remembered_rows s
  effect_acts_as Nothing s = refl

  -- the end of the CIE's own instructions
  pub saving_as : (s : ContextState T) → state_with_initial_rules limits (state_as number s) ≡ views (state_with_initial_rules limits s)
  saving_as s =
      required_as (is_within limits.rows (1 + length s.remembered_rows + initial_rows (Some s.row.rules)))
      (is_within limits.rows (1 + length (map (row_as number) s.remembered_rows) + initial_rows (Some (map_as (rule_as number) s.row.rules)))) StackFull
      (record s { initial_rules = Some s.row.rules }) (record (state_as number s) { initial_rules = Some (map_as (rule_as number) s.row.rules) })
      (λ i. is_within limits.rows (1 + length-map s.remembered_rows (row_as number) i + initial_rows_as (Some s.row.rules) i)) refl

pub ruleset views_bridge = (effect_acts_as, saving_as)
