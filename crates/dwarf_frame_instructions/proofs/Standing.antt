-- An effect takes a state that the executed effects make to one that they make with it; or both fail alike.
use Rattle.std.proofs.Common.{◌≡◌, ℕ, suc, ◌+◌, ◌-◌, ◌%◌, Bool, true, false, cond, List, [], ◌∷◌, length, Option, Some, None, is_some, Result, Ok, Err, ◌==◌, refl, sym, ap, subst, ◌∙◌, arith}
use Rattle.std.specs.Prelude.{ℤ, pos, is_none, unwrap_or}
use Rattle.std.specs.FinMap.{empty, get, insert, len, remove}
use Rattle.list_laws.specs.First.{first_value}
use Rattle.dwarf_constants.specs.declared.common.Register.{Register}
use Rattle.dwarf_constants.specs.declared.error.Error.{Error}
use Rattle.dwarf_constants.specs.declared.error.Error.TheVariants.{CfiInstructionInInvalidContext, StackFull, TooManyRegisterRules}
use Rattle.dwarf_readers.specs.Stretch.{◌>>=◌, requirement}
use Rattle.dwarf_frame_rows.specs.declared.effect.Effect.{Effect}
use Rattle.dwarf_frame_rows.specs.declared.effect.Effect.TheVariants.{Move, Cfa, CfaRegister, CfaOffset, Rule, RestoreRule, NegateRaState, ArgsSize, Remember, Restore, Nothing}
use Rattle.dwarf_frame_rows.specs.declared.expression.UnwindExpression.{UnwindExpression}
use Rattle.dwarf_frame_rows.specs.declared.rules.CfaRule.{CfaRule}
use Rattle.dwarf_frame_rows.specs.declared.rules.CfaRule.TheVariants.{RegisterAndOffset, Expression}
use Rattle.dwarf_frame_rows.specs.declared.rules.RegisterRule.{RegisterRule}
use Rattle.dwarf_frame_rows.specs.declared.rules.RegisterRule.TheVariants as rule
use Rattle.dwarf_frame_rows.specs.CfaRules.{with_cfa_offset, with_cfa_register}
use Rattle.dwarf_frame_rows.specs.Effects.{Limits, ContextState, first_state, initial_rows, is_within, negated_rule, restored_state, ruled_state, state_after, state_by_rules, state_with_initial_rules, state_with_latest_of, with_cfa, with_row, with_rules}
use Rattle.dwarf_frame_rows.specs.Row.{Row}
use Rattle.dwarf_frame_rows.specs.RuleMap.{RuleMap}
use Rattle.dwarf_frame_instructions.specs.Parts.{RowParts, cfa_expression, cfa_from, cfa_of, cfa_offset_by, cfa_register_by, surviving_parts, rule_of, surviving_rules, sign_state, args_size}
use Rattle.dwarf_frame_instructions.specs.Programs.{destination_of, rules_left, with_room}
use Rattle.dwarf_frame_instructions.specs.Refusals.{InitialRules, is_turnable, needs, needs_open_state, needs_room_for_rule}
use Rattle.dwarf_frame_instructions.specs.Standing.{AgreesWith, HaveParts, Stands, parts_in}
use Rattle.dwarf_frame_instructions.specs.Survivors.{open_states, survivors}
use Rattle.dwarf_frame_instructions.proofs.Rules.{get-rules_of, removed_rules, restore_writes, rule_of-turned, rule_of-written, rule_writes, same_number, set_rules, turned_again}

-- what a step gives: a state that the executed effects make with this one, or the error
abbrev pub Comes : {T : Type 0} → InitialRules T → List (Effect T) → Effect T → Result (ContextState T) Error → Result (Unit {0}) Error → Type 0
Comes initial_rules executed e (Ok s) need = (need ≡ Ok tt) × (s.initial_rules ≡ initial_rules) × Stands s (e ∷ executed)
Comes initial_rules executed e (Err x) need = need ≡ Err x

-- a test that both make
tested : {T : Type 0} (initial_rules : InitialRules T) (executed : List (Effect T)) (e : Effect T) (b d : Bool) (x : Error) (s : ContextState T) → d ≡ b → s.initial_rules ≡ initial_rules → (b ≡ true → Stands s (e ∷ executed))
    → Comes initial_rules executed e (requirement b x >>= λ _. Ok s) (requirement d x)
tested initial_rules executed e true d x s same is stands = (ap (λ t. requirement t x) same, is, stands refl)
tested initial_rules executed e false d x s same is stands = ap (λ t. requirement t x) same

-- ---- effects that write to the row

module _ {T : Type 0} (s : ContextState T) (executed : List (Effect T)) (h : Stands s executed) where
  abbrev current : List (Effect T)
  current = survivors 0 executed

  -- the rules that the CIE left, or none yet
  abbrev initial_of : RuleMap (RegisterRule T)
  initial_of = unwrap_or s.initial_rules empty

  agrees : AgreesWith s.initial_rules initial_of
  agrees = go s.initial_rules
    where
      go : (o : InitialRules T) → AgreesWith o (unwrap_or o empty)
      go (Some rules) = refl
      go None = tt

  -- the row has the parts of what survives
  pub row_parts : parts_in s.row ≡ surviving_parts initial_of current
  row_parts = (h.parts initial_of agrees).0

  -- another row in its place
  wrote : (e : Effect T) (row : Row T) → survivors 0 (e ∷ executed) ≡ e ∷ current → ((n : ℕ) → survivors (suc n) (e ∷ executed) ≡ survivors (suc n) executed) → open_states (e ∷ executed) ≡ open_states executed
      → ((initial : RuleMap (RegisterRule T)) → AgreesWith s.initial_rules initial → parts_in s.row ≡ surviving_parts initial current → parts_in row ≡ surviving_parts initial (e ∷ current))
      → Stands (with_row row s) (e ∷ executed)
  wrote e row now before opens parts = record {
    count = h.count ∙ sym opens;
    parts = λ initial initial_rules.
        let held = h.parts initial initial_rules in
        let P : (ℕ → List (Effect T)) → Type 0 = λ lists. HaveParts initial lists s.remembered_rows in
        let earlier : (λ n. survivors (suc n) executed) ≡ (λ n. survivors (suc n) (e ∷ executed)) = λ i n. sym (before n) i in
        (parts initial initial_rules held.0 ∙ ap (surviving_parts initial) (sym now), subst P earlier held.1);
  }

-- parts that are equal one by one
same_parts : {T : Type 0} {size other_size : ℕ} {cfa other_cfa : CfaRule T} {rules other_rules : RuleMap (RegisterRule T)} → size ≡ other_size → cfa ≡ other_cfa → rules ≡ other_rules
    → ◌≡◌ {A = RowParts T} (record { saved_args_size = size; cfa = cfa; rules = rules }) (record { saved_args_size = other_size; cfa = other_cfa; rules = other_rules })
same_parts p q r = λ i. record { saved_args_size = p i; cfa = q i; rules = r i }

-- a CFA that is written whole
cfa_whole : {T : Type 0} (c : CfaRule T) (executed : List (Effect T)) → c ≡ cfa_of (Cfa c ∷ executed)
cfa_whole (RegisterAndOffset register offset) executed = refl
cfa_whole (Expression expression) executed = refl

-- room for a rule is needed if there is one
room_needed : {T : Type 0} (limits : Limits) (initial : RuleMap (RegisterRule T)) (register : ℕ) (executed : List (Effect T)) → is_some (rule_of initial (survivors 0 executed) register) ≡ true
    → needs_room_for_rule limits initial register executed ≡ requirement (is_within limits.rules (len (surviving_rules initial (survivors 0 executed)))) TooManyRegisterRules
room_needed limits initial register executed some = rw some refl

room_free : {T : Type 0} (limits : Limits) (initial : RuleMap (RegisterRule T)) (register : ℕ) (executed : List (Effect T)) → is_some (rule_of initial (survivors 0 executed) register) ≡ false
    → needs_room_for_rule limits initial register executed ≡ Ok tt
room_free limits initial register executed none = rw none refl

module _ {T : Type 0} (limits : Limits) (s : ContextState T) (executed : List (Effect T)) (h : Stands s executed) where
  cfa_held : s.row.cfa ≡ cfa_of (current s executed h)
  cfa_held = ap (λ (p : RowParts T). p.cfa) (row_parts s executed h)

  cfa_step : (c : CfaRule T) → Comes s.initial_rules executed (Cfa c) (state_after limits (Cfa c) s) (needs limits s.initial_rules executed (Cfa c))
  cfa_step c = (
    refl,
    refl,
    wrote s executed h (Cfa c) (record s.row { cfa = c }) refl (λ n. refl) refl
        (λ initial initial_rules held. same_parts (ap (λ (p : RowParts T). p.saved_args_size) held) (cfa_whole c (current s executed h)) (ap (λ (p : RowParts T). p.rules) held)),
  )

  size_step : (size : ℕ) → Comes s.initial_rules executed (ArgsSize size) (state_after limits (ArgsSize size) s) (needs limits s.initial_rules executed (ArgsSize size))
  size_step size = (
    refl,
    refl,
    wrote s executed h (ArgsSize size) (record s.row { saved_args_size = size }) refl (λ n. refl) refl
        (λ initial initial_rules held. same_parts refl (ap (λ (p : RowParts T). p.cfa) held) (ap (λ (p : RowParts T). p.rules) held)),
  )

  nothing_step : Comes s.initial_rules executed Nothing (state_after limits Nothing s) (needs limits s.initial_rules executed Nothing)
  nothing_step = (refl, refl, wrote s executed h Nothing s.row refl (λ n. refl) refl (λ initial initial_rules held. held))

  -- ---- one part of the CFA

  abbrev last_register : Register
  last_register = unwrap_or (first_value cfa_register_by (current s executed h)) (record { 0 = 0 })

  abbrev last_offset : ℤ
  last_offset = unwrap_or (first_value cfa_offset_by (current s executed h)) (pos 0)

  register_step : (register : Register) → Comes s.initial_rules executed (CfaRegister register) (state_after limits (CfaRegister register) s) (needs limits s.initial_rules executed (CfaRegister register))
  register_step register =
      let P : CfaRule T → Type 0 = λ c. Comes s.initial_rules executed (CfaRegister register) (with_cfa_register register c >>= with_cfa s) (needs limits s.initial_rules executed (CfaRegister register)) in
      subst P (sym cfa_held) (go (cfa_expression (current s executed h)) refl)
    where
      go : (x : Option (UnwindExpression T)) → cfa_expression (current s executed h) ≡ x
          → Comes s.initial_rules executed (CfaRegister register) (with_cfa_register register (cfa_from x last_register last_offset) >>= with_cfa s) (requirement (is_none x) CfiInstructionInInvalidContext)
      go (Some expression) is = refl
      go None is = (
        refl,
        refl,
        wrote s executed h (CfaRegister register) (record s.row { cfa = RegisterAndOffset register last_offset }) refl (λ n. refl) refl
            (λ initial initial_rules held. same_parts (ap (λ (p : RowParts T). p.saved_args_size) held) (ap (λ o. cfa_from o register last_offset) (sym is)) (ap (λ (p : RowParts T). p.rules) held)),
      )

  offset_step : (offset : ℤ) → Comes s.initial_rules executed (CfaOffset offset) (state_after limits (CfaOffset offset) s) (needs limits s.initial_rules executed (CfaOffset offset))
  offset_step offset =
      let P : CfaRule T → Type 0 = λ c. Comes s.initial_rules executed (CfaOffset offset) (with_cfa_offset offset c >>= with_cfa s) (needs limits s.initial_rules executed (CfaOffset offset)) in
      subst P (sym cfa_held) (go (cfa_expression (current s executed h)) refl)
    where
      go : (x : Option (UnwindExpression T)) → cfa_expression (current s executed h) ≡ x
          → Comes s.initial_rules executed (CfaOffset offset) (with_cfa_offset offset (cfa_from x last_register last_offset) >>= with_cfa s) (requirement (is_none x) CfiInstructionInInvalidContext)
      go (Some expression) is = refl
      go None is = (
        refl,
        refl,
        wrote s executed h (CfaOffset offset) (record s.row { cfa = RegisterAndOffset last_register offset }) refl (λ n. refl) refl
            (λ initial initial_rules held. same_parts (ap (λ (p : RowParts T). p.saved_args_size) held) (ap (λ o. cfa_from o last_register offset) (sym is)) (ap (λ (p : RowParts T). p.rules) held)),
      )

  -- ---- rules of registers

  -- the state with a rule set
  set_stands : (e : Effect T) (register : ℕ) (v : RegisterRule T) → survivors 0 (e ∷ executed) ≡ e ∷ current s executed h → ((n : ℕ) → survivors (suc n) (e ∷ executed) ≡ survivors (suc n) executed) → open_states (e ∷ executed) ≡ open_states executed
      → args_size (e ∷ current s executed h) ≡ args_size (current s executed h) → cfa_of (e ∷ current s executed h) ≡ cfa_of (current s executed h)
      → ((initial : RuleMap (RegisterRule T)) → AgreesWith s.initial_rules initial → (q : ℕ) → rule_of initial (e ∷ current s executed h) q ≡ cond (register == q) (Some v) (rule_of initial (current s executed h) q))
      → Stands (with_rules (insert s.row.rules register v) s) (e ∷ executed)
  set_stands e register v now before opens size cfa written =
      wrote s executed h e (record s.row { rules = insert s.row.rules register v }) now before opens
      (λ initial initial_rules held. same_parts (ap (λ (p : RowParts T). p.saved_args_size) held ∙ sym size) (ap (λ (p : RowParts T). p.cfa) held ∙ sym cfa)
      (set_rules initial e (current s executed h) s.row.rules register v (ap (λ (p : RowParts T). p.rules) held) (written initial initial_rules)))

  rules_held : s.row.rules ≡ surviving_rules (initial_of s executed h) (current s executed h)
  rules_held = ap (λ (p : RowParts T). p.rules) (row_parts s executed h)

  rule_step : (register : Register) (v : RegisterRule T) → Comes s.initial_rules executed (Rule register v) (state_after limits (Rule register v) s) (needs limits s.initial_rules executed (Rule register v))
  rule_step register v =
      let e : Effect T = Rule register v in
      let initial : RuleMap (RegisterRule T) = initial_of s executed h in
      let written = λ (i : RuleMap (RegisterRule T)) (q : ℕ). rule_of-written i e register.0 (Some v) (rule_writes i register v) (current s executed h) q in
      let some : is_some (rule_of initial (e ∷ current s executed h) register.0) ≡ true
      = ap (λ o. is_some o) (written initial register.0 ∙ ap (λ b. cond b (Some v) (rule_of initial (current s executed h) register.0)) (same_number register.0)) in
      let rules = set_rules initial e (current s executed h) s.row.rules register.0 v rules_held (written initial) in
      let P : Result (Unit {0}) Error → Type 0 = λ need. Comes s.initial_rules executed e (ruled_state limits register.0 v s) need in
      subst P (sym (room_needed limits initial register.0 (e ∷ executed) some))
      (tested s.initial_rules executed e (is_within limits.rules (len (insert s.row.rules register.0 v))) (is_within limits.rules (len (surviving_rules initial (e ∷ current s executed h)))) TooManyRegisterRules
      (with_rules (insert s.row.rules register.0 v) s) (ap (λ m. is_within limits.rules (len m)) (sym rules)) refl
      (λ _. set_stands e register.0 v refl (λ n. refl) refl refl refl (λ i initial_rules. written i)))

  -- ---- a rule that is restored

  module _ (register : Register) (rules : RuleMap (RegisterRule T)) (initial_rules : s.initial_rules ≡ Some rules) where
    abbrev restore : Effect T
    restore = RestoreRule register

    known_rules : (initial : RuleMap (RegisterRule T)) → AgreesWith s.initial_rules initial → initial ≡ rules
    known_rules initial agree = let P : InitialRules T → Type 0 = λ o. AgreesWith o initial in subst P initial_rules agree

    agreed : AgreesWith s.initial_rules rules
    agreed = let P : InitialRules T → Type 0 = λ o. AgreesWith o rules in subst P (sym initial_rules) refl

    restored_held : s.row.rules ≡ surviving_rules rules (current s executed h)
    restored_held = ap (λ (p : RowParts T). p.rules) ((h.parts rules agreed).0)

    restored_as : (o : Option (RegisterRule T)) → get rules register.0 ≡ o → (initial : RuleMap (RegisterRule T)) → initial ≡ rules → (q : ℕ)
        → rule_of initial (restore ∷ current s executed h) q ≡ cond (register.0 == q) o (rule_of initial (current s executed h) q)
    restored_as o is initial same q =
        rule_of-written initial restore register.0 (get initial register.0) (restore_writes initial register) (current s executed h) q
        ∙ ap (λ x. cond (register.0 == q) x (rule_of initial (current s executed h) q)) (ap (λ m. get m register.0) same ∙ is)

    restored_here : (o : Option (RegisterRule T)) → get rules register.0 ≡ o → is_some (rule_of rules (restore ∷ current s executed h) register.0) ≡ is_some o
    restored_here o is = ap (λ x. is_some x) (restored_as o is rules refl register.0 ∙ ap (λ b. cond b o (rule_of rules (current s executed h) register.0)) (same_number register.0))

    restore_some : (o : Option (RegisterRule T)) → get rules register.0 ≡ o → Comes s.initial_rules executed restore (restored_state limits register.0 o s) (needs_room_for_rule limits rules register.0 (restore ∷ executed))
    restore_some (Some v) is =
        let P : Result (Unit {0}) Error → Type 0 = λ need. Comes s.initial_rules executed restore (ruled_state limits register.0 v s) need in
        let made = set_rules rules restore (current s executed h) s.row.rules register.0 v restored_held (restored_as (Some v) is rules refl) in
        subst P (sym (room_needed limits rules register.0 (restore ∷ executed) (restored_here (Some v) is)))
        (tested s.initial_rules executed restore (is_within limits.rules (len (insert s.row.rules register.0 v))) (is_within limits.rules (len (surviving_rules rules (restore ∷ current s executed h)))) TooManyRegisterRules
        (with_rules (insert s.row.rules register.0 v) s) (ap (λ m. is_within limits.rules (len m)) (sym made)) refl
        (λ _. set_stands restore register.0 v refl (λ n. refl) refl refl refl (λ i agree. restored_as (Some v) is i (known_rules i agree))))
    restore_some None is = (
      room_free limits rules register.0 (restore ∷ executed) (restored_here None is),
      refl,
      wrote s executed h restore (record s.row { rules = remove s.row.rules register.0 }) refl (λ n. refl) refl
          (λ i agree held. same_parts (ap (λ (p : RowParts T). p.saved_args_size) held) (ap (λ (p : RowParts T). p.cfa) held)
          (removed_rules i restore (current s executed h) s.row.rules register.0 (ap (λ (p : RowParts T). p.rules) held) (restored_as None is i (known_rules i agree)))),
    )

  restore_step : (register : Register) → Comes s.initial_rules executed (RestoreRule register) (state_after limits (RestoreRule register) s) (needs limits s.initial_rules executed (RestoreRule register))
  restore_step register = go s.initial_rules refl
    where
      go : (o : InitialRules T) → s.initial_rules ≡ o → Comes s.initial_rules executed (RestoreRule register) (state_by_rules o limits register.0 s) (needs limits o executed (RestoreRule register))
      go None is = refl
      go (Some rules) is = restore_some register rules is (get rules register.0) refl

  -- ---- the sign state

  -- what its rule is, by the row and by what survives
  module _ (o : Option (RegisterRule T)) (is : get s.row.rules sign_state ≡ o) where
    sign_rule : (initial : RuleMap (RegisterRule T)) → AgreesWith s.initial_rules initial → rule_of initial (current s executed h) sign_state ≡ o
    sign_rule initial agree =
        let held = ap (λ (p : RowParts T). p.rules) ((h.parts initial agree).0) in
        sym (get-rules_of initial (current s executed h) sign_state) ∙ ap (λ m. get m sign_state) (sym held) ∙ is

    turned_as : (initial : RuleMap (RegisterRule T)) → AgreesWith s.initial_rules initial → (q : ℕ)
        → rule_of initial (NegateRaState ∷ current s executed h) q ≡ cond (sign_state == q) (turned_again o) (rule_of initial (current s executed h) q)
    turned_as initial agree q =
        rule_of-turned initial (current s executed h) q
        ∙ ap (λ x. cond (sign_state == q) (turned_again x) (rule_of initial (current s executed h) q)) (sign_rule initial agree)

    turn : (v : RegisterRule T) → turned_again o ≡ Some v → Comes s.initial_rules executed NegateRaState (ruled_state limits sign_state v s) (needs_room_for_rule limits (initial_of s executed h) sign_state (NegateRaState ∷ executed))
    turn v again =
        let e : Effect T = NegateRaState in
        let initial : RuleMap (RegisterRule T) = initial_of s executed h in
        let written = λ (i : RuleMap (RegisterRule T)) (agree : AgreesWith s.initial_rules i) (q : ℕ). turned_as i agree q ∙ ap (λ x. cond (sign_state == q) x (rule_of i (current s executed h) q)) again in
        let some : is_some (rule_of initial (e ∷ current s executed h) sign_state) ≡ true = ap (λ x. is_some x) (written initial (agrees s executed h) sign_state) in
        let made = set_rules initial e (current s executed h) s.row.rules sign_state v rules_held (written initial (agrees s executed h)) in
        let P : Result (Unit {0}) Error → Type 0 = λ need. Comes s.initial_rules executed e (ruled_state limits sign_state v s) need in
        subst P (sym (room_needed limits initial sign_state (e ∷ executed) some))
        (tested s.initial_rules executed e (is_within limits.rules (len (insert s.row.rules sign_state v))) (is_within limits.rules (len (surviving_rules initial (e ∷ current s executed h)))) TooManyRegisterRules
        (with_rules (insert s.row.rules sign_state v) s) (ap (λ m. is_within limits.rules (len m)) (sym made)) refl
        (λ _. set_stands e sign_state v refl (λ n. refl) refl refl refl written))

    -- the needs of a turn, by the rule
    turn_needs : needs limits s.initial_rules executed NegateRaState
        ≡ (requirement (is_turnable o) CfiInstructionInInvalidContext >>= λ _. needs_room_for_rule limits (initial_of s executed h) sign_state (NegateRaState ∷ executed))
    turn_needs = ap (λ x. requirement (is_turnable x) CfiInstructionInInvalidContext >>= λ _. needs_room_for_rule limits (initial_of s executed h) sign_state (NegateRaState ∷ executed)) (sign_rule (initial_of s executed h) (agrees s executed h))

  abbrev Turns : Option (RegisterRule T) → Type 0
  Turns o = Comes s.initial_rules executed NegateRaState (negated_rule o >>= λ v. ruled_state limits sign_state v s)
      (requirement (is_turnable o) CfiInstructionInInvalidContext >>= λ _. needs_room_for_rule limits (initial_of s executed h) sign_state (NegateRaState ∷ executed))

  turn_step : Comes s.initial_rules executed NegateRaState (state_after limits NegateRaState s) (needs limits s.initial_rules executed NegateRaState)
  turn_step =
      let P : Result (Unit {0}) Error → Type 0 = λ need. Comes s.initial_rules executed NegateRaState (state_after limits NegateRaState s) need in
      subst P (sym (turn_needs (get s.row.rules sign_state) refl)) (go (get s.row.rules sign_state) refl)
    where
      go : (o : Option (RegisterRule T)) → get s.row.rules sign_state ≡ o → Turns o
      go None is = turn None is (rule.Constant 1) refl
      go (Some (rule.Constant n)) is = let parity : (n + 1) % 2 ≡ 1 - n % 2 = omega arith in turn (Some (rule.Constant n)) is (rule.Constant (1 - n % 2)) (ap (λ k. Some (rule.Constant k)) parity)
      go (Some rule.Undefined) is = refl
      go (Some rule.SameValue) is = refl
      go (Some (rule.Offset offset)) is = refl
      go (Some (rule.ValOffset offset)) is = refl
      go (Some (rule.Register register)) is = refl
      go (Some (rule.Expression expression)) is = refl
      go (Some (rule.ValExpression expression)) is = refl
      go (Some rule.Architectural) is = refl

  -- ---- states that are remembered

  remember_step : Comes s.initial_rules executed Remember (state_after limits Remember s) (needs limits s.initial_rules executed Remember)
  remember_step =
      tested s.initial_rules executed Remember (is_within limits.rows (1 + length s.remembered_rows + initial_rows s.initial_rules + 1)) (is_within limits.rows (1 + open_states executed + initial_rows s.initial_rules + 1)) StackFull
      (record s { remembered_rows = s.row ∷ s.remembered_rows }) (ap (λ n. is_within limits.rows (1 + n + initial_rows s.initial_rules + 1)) (sym h.count)) refl
      (λ _. record {
        count = ap suc h.count;
        parts = λ initial initial_rules. let held = h.parts initial initial_rules in (held.0, held);
      })

  pop_step : Comes s.initial_rules executed Restore (state_after limits Restore s) (needs limits s.initial_rules executed Restore)
  pop_step = go s.remembered_rows refl
    where
      go : (rows : List (Row T)) → s.remembered_rows ≡ rows → Comes s.initial_rules executed Restore (state_with_latest_of rows s) (needs limits s.initial_rules executed Restore)
      go [] is =
          let none : open_states executed ≡ 0 = sym h.count ∙ ap length is in
          ap needs_open_state none
      go (row ∷ earlier) is =
          let some : open_states executed ≡ suc (length earlier) = sym h.count ∙ ap length is in (
            ap needs_open_state some,
            refl,
            record {
              count = let back : length earlier ≡ open_states executed - 1 = omega arith in back;
              parts = λ initial initial_rules.
                  let P : List (Row T) → Type 0 = λ rows. HaveParts initial (λ n. survivors n executed) (s.row ∷ rows) in
                  (subst P is (h.parts initial initial_rules)).1;
            },
          )

-- ---- any effect

-- an effect that doesn't move does to a state what it does to the executed effects
pub steps : {T : Type 0} (limits : Limits) (s : ContextState T) (executed : List (Effect T)) → Stands s executed → (e : Effect T) → destination_of e ≡ None
    → Comes s.initial_rules executed e (state_after limits e s) (needs limits s.initial_rules executed e)
steps limits s executed h (Move location) still = cc
steps limits s executed h (Cfa c) still = cfa_step limits s executed h c
steps limits s executed h (CfaRegister register) still = register_step limits s executed h register
steps limits s executed h (CfaOffset offset) still = offset_step limits s executed h offset
steps limits s executed h (Rule register v) still = rule_step limits s executed h register v
steps limits s executed h (RestoreRule register) still = restore_step limits s executed h register
steps limits s executed h NegateRaState still = turn_step limits s executed h
steps limits s executed h (ArgsSize size) still = size_step limits s executed h size
steps limits s executed h Remember still = remember_step limits s executed h
steps limits s executed h Restore still = pop_step limits s executed h
steps limits s executed h Nothing still = nothing_step limits s executed h

-- ---- before and after the CIE's own instructions

pub first_stands : {T : Type 0} → Stands {T = T} first_state []
first_stands = record { count = refl; parts = λ initial initial_rules. (refl, tt) }

-- what saving the CIE's rules comes to
abbrev pub Saves : {T : Type 0} → List (Effect T) → Result (ContextState T) Error → Result (List (Effect T)) Error → Type 0
Saves executed (Ok s) left = (left ≡ Ok executed) × (s.initial_rules ≡ Some (rules_left executed)) × Stands s executed
Saves executed (Err x) left = left ≡ Err x

pub saves : {T : Type 0} (limits : Limits) (s : ContextState T) (executed : List (Effect T)) → Stands s executed → s.initial_rules ≡ None → Saves executed (state_with_initial_rules limits (record s { initial_rules = None })) (with_room limits executed)
saves {T} limits s executed h none =
    let begun : AgreesWith s.initial_rules empty = agree empty in
    let rules : s.row.rules ≡ rules_left executed = ap (λ (p : RowParts T). p.rules) ((h.parts empty begun).0) in
    let same : is_within limits.rows (1 + open_states executed + initial_rows (Some (rules_left executed))) ≡ is_within limits.rows (1 + length s.remembered_rows + initial_rows (Some s.row.rules))
    = ap (λ n. is_within limits.rows (1 + n + initial_rows (Some (rules_left executed)))) (sym h.count) ∙ ap (λ m. is_within limits.rows (1 + length s.remembered_rows + initial_rows (Some m))) (sym rules) in
    saved (is_within limits.rows (1 + length s.remembered_rows + initial_rows (Some s.row.rules))) (is_within limits.rows (1 + open_states executed + initial_rows (Some (rules_left executed)))) same rules
  where
    agree : (initial : RuleMap (RegisterRule T)) → AgreesWith s.initial_rules initial
    agree initial = let P : InitialRules T → Type 0 = λ o. AgreesWith o initial in subst P (sym none) tt

    saved : (b d : Bool) → d ≡ b → s.row.rules ≡ rules_left executed
        → Saves executed (requirement b StackFull >>= λ _. Ok (record s { initial_rules = Some s.row.rules })) (requirement d StackFull >>= λ _. Ok executed)
    saved true d same rules = (ap (λ t. requirement t StackFull >>= λ _. Ok executed) same, ap (λ m. Some m) rules, record { count = h.count; parts = λ initial initial_rules. h.parts initial (agree initial) })
    saved false d same rules = ap (λ t. requirement t StackFull >>= λ _. Ok executed) same

pub ruleset bridge = (steps, saves, first_stands)
