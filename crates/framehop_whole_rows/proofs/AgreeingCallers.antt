-- A row that an unwind rule says has one caller, by the rule and as a whole row, on x86_64.
use Rattle.std.proofs.Common.{◌≡◌, ℕ, refl, sym, ap, ◌∙◌, Option, Some, None, Ok, Bool, true, false, arith}
use Rattle.std.specs.Prelude.{ℤ, pos, negsuc, option_and_then, option_map, unwrap_or, ◌==◌}
use Rattle.std.specs.FinMap.{get}
use Rattle.std.specs.Option.{ok_or}
use Rattle.std.specs.Ordering.{int_eq}
use Rattle.list_laws.proofs.Laws.{by_case}
use Rattle.dwarf_constants.specs.declared.common.Register.{Register}
use Rattle.dwarf_frame_rows.specs.declared.rules.CfaRule.{CfaRule}
use Rattle.dwarf_frame_rows.specs.declared.rules.CfaRule.TheVariants as cfa
use Rattle.dwarf_frame_rows.specs.declared.rules.RegisterRule.{RegisterRule}
use Rattle.dwarf_frame_rows.specs.declared.rules.RegisterRule.TheVariants as rule
use Rattle.dwarf_frame_parts.specs.RowParts.{parts_of}
use Rattle.dwarf_frame_parts.specs.declared.parts.Parts.{Parts}
use Rattle.framehop_registers.specs.Callback.{Words}
use Rattle.framehop_registers.specs.Registers.{ip_of, bp_of}
use Rattle.framehop_registers.specs.declared.x86_64.unwindregs.UnwindRegsX86_64.{UnwindRegsX86_64}
use Rattle.framehop_rules.specs.Outcome.{Ends, Answers, Caller}
use Rattle.framehop_rules.specs.RuleMeaning.{caller_registers, rule_meaning}
use Rattle.framehop_rules.specs.declared.x86_64.unwind_rule.UnwindRuleX86_64.{UnwindRuleX86_64}
use Rattle.framehop_rules.specs.declared.x86_64.unwind_rule.UnwindRuleX86_64.TheVariants.{EndOfStack}
use Rattle.framehop_rows.specs.Columns.{Sources, cfa_by, column_by}
use Rattle.framehop_rows.specs.RowAnswer.{register_value as carried_value, caller_at, caller_from, row_answer}
use Rattle.framehop_rows.specs.RowSources.{plus, whole_sources}
use Rattle.framehop_rows.specs.ScaledRow.{RBP, RA, from_bp, from_cfa, from_register, from_return_address, is_at, scaled_rule}
use Rattle.framehop_expressions.specs.Architectures.{sign_state}
use Rattle.framehop_expressions.specs.declared.unknown.Unknown.TheVariants as unknown
use Rattle.framehop_expressions.specs.Evaluation.{word_value}
use Rattle.framehop_whole_rows.specs.Callers.{WholeCaller, caller_by, caller_of, code_address, given, if_known, is_signed, register_after, returned_at, returned_by}
use Rattle.framehop_whole_rows.specs.Laws.{HasCallerAs, IsFrameOf}
use Rattle.framehop_whole_rows.specs.Rules.{RowFrame, cfa_value, given_by, known_then, return_by}
use Rattle.framehop_whole_rows.specs.declared.caller.Returned.{Returned}

-- what an optional value came from
came_from : {A B : Type 0} (f : A → Option B) (o : Option A) (y : B) → option_and_then f o ≡ Some y → (x : A) × (o ≡ Some x) × (f x ≡ Some y)
came_from f (Some x) y h = (x, refl, h)
came_from f None y h = cc

mapped_from : {A B : Type 0} (f : A → B) (o : Option A) (y : B) → option_map f o ≡ Some y → (x : A) × (o ≡ Some x) × (f x ≡ y)
mapped_from f (Some x) y h = (x, refl, cc)
mapped_from f None y h = cc

-- ---- the rows that rules say

-- RBP stays, is undefined or is stored
abbrev IsCommon : Option (RegisterRule ℕ) → Type 0
IsCommon None = Unit {0}
IsCommon (Some rule.Undefined) = Unit {0}
IsCommon (Some rule.SameValue) = Unit {0}
IsCommon (Some (rule.Offset stored)) = Unit {0}
IsCommon (Some _) = ⊥

-- no rule says a row with another rule of RBP
not-followed : (offset : ℤ) (stored : RegisterRule ℕ) (how : UnwindRuleX86_64) → is_at (negsuc 15) stored ≡ false → from_bp offset (Some stored) ≡ Some how → ⊥
not-followed offset stored how apart h =
    by_case (int_eq offset (pos 16))
    (λ is. let f : None ≡ Some how = sym (rw (is, apart) refl) ∙ h in cc)
    (λ is. let f : None ≡ Some how = sym (rw is refl) ∙ h in cc)

other-rule : (row : CfaRule ℕ) (stored : RegisterRule ℕ) (how : UnwindRuleX86_64) → is_at (negsuc 15) stored ≡ false
    → ((offset : ℤ) (register : Register) → (register.0 == 7) ≡ true → from_register register offset (Some stored) ≡ None) → from_cfa row (Some stored) ≡ Some how → ⊥
other-rule (cfa.RegisterAndOffset register offset) stored how apart none h =
    by_case (register.0 == 7)
    (λ is. let f : None ≡ Some how = sym (none offset register is) ∙ h in cc)
    (λ not_sp.
    by_case (register.0 == 6)
    (λ is. let f : from_bp offset (Some stored) ≡ Some how = sym (rw (not_sp, is) refl) ∙ h in not-followed offset stored how apart f)
    (λ is. let f : None ≡ Some how = sym (rw (not_sp, is) refl) ∙ h in cc))
other-rule (cfa.Expression expression) stored how apart none h = cc

common : (row : CfaRule ℕ) (bp : Option (RegisterRule ℕ)) (how : UnwindRuleX86_64) → from_cfa row bp ≡ Some how → IsCommon bp
common row None how h = tt
common row (Some rule.Undefined) how h = tt
common row (Some rule.SameValue) how h = tt
common row (Some (rule.Offset stored)) how h = tt
common row (Some (rule.ValOffset offset)) how h = other-rule row (rule.ValOffset offset) how refl (λ offset register is. rw is refl) h
common row (Some (rule.Register other)) how h = other-rule row (rule.Register other) how refl (λ offset register is. rw is refl) h
common row (Some (rule.Expression expression)) how h = other-rule row (rule.Expression expression) how refl (λ offset register is. rw is refl) h
common row (Some (rule.ValExpression expression)) how h = other-rule row (rule.ValExpression expression) how refl (λ offset register is. rw is refl) h
common row (Some rule.Architectural) how h = other-rule row rule.Architectural how refl (λ offset register is. rw is refl) h
common row (Some (rule.Constant n)) how h = other-rule row (rule.Constant n) how refl (λ offset register is. rw is refl) h

-- the return address is stored, if the rule gives a caller
abbrev IsStored : CfaRule ℕ → (bp ra : Option (RegisterRule ℕ)) → UnwindRuleX86_64 → Type 0
IsStored row bp ra how = (offset : ℤ) × (ra ≡ Some (rule.Offset offset)) × (from_cfa row bp ≡ Some how)

at-the-end : (how : UnwindRuleX86_64) (first : Bool) (registers : UnwindRegsX86_64) (words : Words) (caller : Caller UnwindRegsX86_64)
    → Some EndOfStack ≡ Some how → rule_meaning how first registers words ≡ Answers caller → ⊥
at-the-end how first registers words caller is h =
    let e : EndOfStack ≡ how = cc in
    let f : Ends ≡ Answers caller = ap (λ k. rule_meaning k first registers words) e ∙ h in
    cc

stored : (row : CfaRule ℕ) (bp ra : Option (RegisterRule ℕ)) (how : UnwindRuleX86_64) (first : Bool) (registers : UnwindRegsX86_64) (words : Words) (caller : Caller UnwindRegsX86_64)
    → from_return_address row bp ra ≡ Some how → rule_meaning how first registers words ≡ Answers caller → IsStored row bp ra how
stored row bp None how first registers words caller says h = absurd (at-the-end how first registers words caller says h)
stored row bp (Some rule.Undefined) how first registers words caller says h = absurd (at-the-end how first registers words caller says h)
stored row bp (Some (rule.Offset offset)) how first registers words caller says h =
    by_case (int_eq offset (negsuc 7))
    (λ is. (offset, refl, sym (rw is refl) ∙ says))
    (λ is. let f : None ≡ Some how = sym (rw is refl) ∙ says in absurd (let e : ⊥ = cc in e))
stored row bp (Some rule.SameValue) how first registers words caller says h = cc
stored row bp (Some (rule.ValOffset offset)) how first registers words caller says h = cc
stored row bp (Some (rule.Register other)) how first registers words caller says h = cc
stored row bp (Some (rule.Expression expression)) how first registers words caller says h = cc
stored row bp (Some (rule.ValExpression expression)) how first registers words caller says h = cc
stored row bp (Some rule.Architectural) how first registers words caller says h = cc
stored row bp (Some (rule.Constant n)) how first registers words caller says h = cc

-- ---- values

module _ (registers : UnwindRegsX86_64) (r : RowFrame) (is_frame : IsFrameOf registers r) where
  -- a register that a step carries is known
  carried : (register : Register) (value : ℕ) → carried_value registers register ≡ Some value → r.frame.registers register.0 ≡ Some value
  carried register value h =
      by_case (register.0 == 16)
      (λ is. let at : register.0 ≡ 16 = grind arith in rw at (is_frame.ip ∙ (sym (rw is refl) ∙ h)))
      (λ not_ip.
      by_case (register.0 == 7)
      (λ is. let at : register.0 ≡ 7 = grind arith in rw at (is_frame.sp ∙ (sym (rw (not_ip, is) refl) ∙ h)))
      (λ not_sp.
      by_case (register.0 == 6)
      (λ is. let at : register.0 ≡ 6 = grind arith in rw at (is_frame.bp ∙ (sym (rw (not_ip, not_sp, is) refl) ∙ h)))
      (λ is. let f : None ≡ Some value = sym (rw (not_ip, not_sp, is) refl) ∙ h in cc)))

  cfa-agrees : (row : CfaRule ℕ) (sp : ℕ) → cfa_by (whole_sources (carried_value registers)) row ≡ Some sp → cfa_value r row ≡ Ok sp
  cfa-agrees (cfa.RegisterAndOffset register offset) sp h =
      let (base, known, sum) = came_from (λ base. plus base offset) (carried_value registers register) sp h in
      rw (carried register base known, sum) refl
  cfa-agrees (cfa.Expression expression) sp h = cc

  -- the word at an address that may be none
  abbrev word_there : Option ℕ → Option ℕ
  word_there at =
      let sources : Sources = record { sum = λ base offset. at; registers = λ register. None; value = λ expression. None } in
      column_by sources r.frame.words 0 0 (rule.Offset (pos 0))

  word-agrees : (at : Option ℕ) (to : ℕ) → word_there at ≡ Some to → known_then (ok_or at unknown.OutOfRange) (word_value r.frame.words) ≡ Ok to
  word-agrees (Some at) to h = rw h refl
  word-agrees None to h = cc

  -- .. is known only if RBP is that word
  word-or-own : (at : Option ℕ) (own known : ℕ) → if_known (known_then (ok_or at unknown.OutOfRange) (word_value r.frame.words)) ≡ Some known
      → known ≡ unwrap_or (word_there at) own
  word-or-own (Some at) own known h = found (r.frame.words at) h
    where
      found : (there : Option ℕ) → if_known (ok_or there (unknown.Memory at)) ≡ Some known → known ≡ unwrap_or there own
      found (Some word) h = cc
      found None h = cc
  word-or-own None own known h = cc

  -- RBP, if it is known
  bp-agrees : (bp : Option (RegisterRule ℕ)) (sp known : ℕ) → IsCommon bp → if_known (given_by r sp 6 bp) ≡ Some known
      → known ≡ unwrap_or (option_and_then (column_by (whole_sources (carried_value registers)) r.frame.words sp (bp_of registers)) bp) (bp_of registers)
  bp-agrees None sp known is h =
      let f : Some (bp_of registers) ≡ Some known = sym (rw (is_frame.architecture, is_frame.bp) refl) ∙ h in
      cc
  bp-agrees (Some rule.Undefined) sp known is h = cc
  bp-agrees (Some rule.SameValue) sp known is h =
      let f : Some (bp_of registers) ≡ Some known = sym (rw is_frame.bp refl) ∙ h in
      cc
  bp-agrees (Some (rule.Offset offset)) sp known is h = word-or-own (plus sp offset) (bp_of registers) known h
  bp-agrees (Some (rule.ValOffset offset)) sp known is h = absurd is
  bp-agrees (Some (rule.Register other)) sp known is h = absurd is
  bp-agrees (Some (rule.Expression expression)) sp known is h = absurd is
  bp-agrees (Some (rule.ValExpression expression)) sp known is h = absurd is
  bp-agrees (Some rule.Architectural) sp known is h = absurd is
  bp-agrees (Some (rule.Constant n)) sp known is h = absurd is

  -- ---- the caller

  unsigned : (sp : ℕ) → is_signed (given r sp sign_state) ≡ false
  unsigned sp = rw (is_frame.no_sign_rule, is_frame.architecture) refl

  module _ (sp to : ℕ) where
    abbrev back : Returned
    back = record { cfa = sp; address = to }

    abbrev whole : WholeCaller
    whole = record { return_address = to; registers = register_after r back }

    sp-known : register_after r back 7 ≡ Some sp
    sp-known = rw (is_frame.architecture, is_frame.column, is_frame.no_sp_rule) refl

    bp-known : register_after r back 6 ≡ if_known (given_by r sp 6 (get r.row.rules 6))
    bp-known = rw (is_frame.architecture, is_frame.column) refl

    returns-to : return_by r sp (get r.row.rules r.column) ≡ Ok (Some to) → cfa_value r r.row.cfa ≡ Ok sp → caller_of r ≡ Ok (Some whole)
    returns-to address frame_address =
        ap (λ at. caller_by r (returned_at r at)) frame_address
        ∙ ap (λ found. caller_by r (returned_by r sp found)) address
        ∙ ap (λ signed. caller_by r (Ok (Some (let to : Returned = record { cfa = sp; address = code_address r.mask signed to } in to)))) (unsigned sp)

  address-agrees : (sp to : ℕ) (offset : ℤ) → get r.row.rules 16 ≡ Some (rule.Offset offset)
      → column_by (whole_sources (carried_value registers)) r.frame.words sp (ip_of registers) (rule.Offset offset) ≡ Some to
      → return_by r sp (get r.row.rules r.column) ≡ Ok (Some to)
  address-agrees sp to offset has h = rw (is_frame.column, has, word-agrees (plus sp offset) to h) refl

  -- the caller by the row in whole numbers is that by the whole row
  agrees : (offset : ℤ) (caller : Caller UnwindRegsX86_64) → get r.row.rules 16 ≡ Some (rule.Offset offset) → IsCommon (get r.row.rules 6)
      → row_answer registers r.frame.words (parts_of RBP RA r.row) ≡ Some caller → HasCallerAs registers r caller
  agrees offset caller has is h =
      let parts : Parts ℕ = parts_of RBP RA r.row in
      let sources = whole_sources (carried_value registers) in
      let (sp, placed, at_cfa) = came_from (caller_at registers r.frame.words parts) (cfa_by sources parts.cfa) caller h in
      let (to, column, made) = mapped_from (caller_from registers r.frame.words parts.fp sp) (option_and_then (column_by sources r.frame.words sp (ip_of registers)) parts.ra) caller at_cfa in
      let read : column_by sources r.frame.words sp (ip_of registers) (rule.Offset offset) ≡ Some to = sym (ap (option_and_then (column_by sources r.frame.words sp (ip_of registers))) has) ∙ column in
      let bp = unwrap_or (option_and_then (column_by sources r.frame.words sp (bp_of registers)) parts.fp) (bp_of registers) in
      let same : caller.return_address ≡ to = ap (λ (c : Caller UnwindRegsX86_64). c.return_address) (sym made) in (
        whole sp to,
        returns-to sp to (address-agrees sp to offset has read) (cfa-agrees r.row.cfa sp placed),
        record {
          sp = sp;
          bp = bp;
          caller_is =
              ap (λ (c : Caller UnwindRegsX86_64). c.registers) (sym made)
              ∙ ap (λ address. caller_registers registers address sp bp) (sym same);
          return_address_is = sym same;
          sp_is = sp-known sp to;
          bp_is = λ known known_is. bp-agrees (get r.row.rules 6) sp known is (sym (bp-known sp to) ∙ known_is);
        },
      )

-- .. as is that by a rule
pub law : ((parts : Parts ℕ) (how : UnwindRuleX86_64) (first : Bool) (registers : UnwindRegsX86_64) (words : Words) (caller : Caller UnwindRegsX86_64)
    → scaled_rule parts ≡ Some how → rule_meaning how first registers words ≡ Answers caller → row_answer registers words parts ≡ Some caller)
    → (registers : UnwindRegsX86_64) (r : RowFrame) (how : UnwindRuleX86_64) (first : Bool) (caller : Caller UnwindRegsX86_64)
    → IsFrameOf registers r → scaled_rule (parts_of RBP RA r.row) ≡ Some how → rule_meaning how first registers r.frame.words ≡ Answers caller → HasCallerAs registers r caller
law as_row registers r how first caller is_frame says h =
    let (offset, has, from) = stored r.row.cfa (get r.row.rules 6) (get r.row.rules 16) how first registers r.frame.words caller says h in
    agrees registers r is_frame offset caller has (common r.row.cfa (get r.row.rules 6) how from)
    (as_row (parts_of RBP RA r.row) how first registers r.frame.words caller says h)
