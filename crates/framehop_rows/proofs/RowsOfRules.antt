-- Where a rule says a row exactly, the numbers of its answer are the row's.
use Rattle.std.proofs.Common.{◌≡◌, ℕ, ◌+◌, ◌*◌, ◌<◌, ◌^◌, refl, sym, subst, arith, Option, Some, None, Bool, true, false}
use Rattle.std.specs.Prelude.{ℤ, pos, negsuc, ◌+ℤ◌, ◌-ℤ◌, ◌*ℤ◌, option_and_then, option_map, unwrap_or, nat_le, ◌==◌, ◌&&◌, if◌then◌else◌}
use Rattle.std.proofs.lemmas.Int.{ints}
use Rattle.std.specs.Ordering.{int_eq}
use Rattle.std.proofs.lemmas.Bool.{and_parts, eqb-true}
use Rattle.std.proofs.lemmas.Bool.Decides.{Decides-int_eq}
use Rattle.dwarf_constants.specs.declared.common.Register.{Register}
use Rattle.framehop_registers.specs.Callback.{Words}
use Rattle.framehop_rules.specs.Outcome.{Outcome, Ends, Refuses, Answers, Caller, and_then, address, word}
use Rattle.framehop_registers.specs.Registers.{ip_of, sp_of, bp_of}
use Rattle.framehop_rules.specs.RuleMeaning.{raised_frame, by_frame_pointer, stored_bp, restored_frame, return_address, StackFrame, caller_registers, returned_caller, rule_meaning}
use Rattle.framehop_registers.specs.declared.error.Error.TheVariants.{DidNotAdvance, FramepointerUnwindingMovedBackwards}
use Rattle.framehop_rules.specs.declared.x86_64.unwind_rule.UnwindRuleX86_64.{UnwindRuleX86_64}
use Rattle.framehop_rules.specs.declared.x86_64.unwind_rule.UnwindRuleX86_64.TheVariants.{EndOfStack, OffsetSp, OffsetSpAndRestoreBp, UseFramePointer}
use Rattle.framehop_registers.specs.declared.x86_64.unwindregs.UnwindRegsX86_64.{UnwindRegsX86_64}
use Rattle.dwarf_frame_rows.specs.declared.rules.CfaRule.{CfaRule}
use Rattle.dwarf_frame_rows.specs.declared.rules.CfaRule.TheVariants.{RegisterAndOffset, Expression}
use Rattle.dwarf_frame_rows.specs.declared.rules.RegisterRule.{RegisterRule}
use Rattle.dwarf_frame_rows.specs.declared.rules.RegisterRule.TheVariants as rule
use Rattle.framehop_rows.specs.Columns.{column_by}
use Rattle.framehop_rows.specs.RowAnswer.{register_value, caller_at, row_answer}
use Rattle.framehop_rows.specs.RowSources.{plus, whole_sources}
use Rattle.framehop_rows.specs.RuleFields.{as_words, as_signed_words}
use Rattle.framehop_rows.specs.ScaledRow.{scaled_rule, from_return_address, from_register, from_sp, from_bp, raised_sp}
use Rattle.dwarf_frame_parts.specs.declared.parts.Parts.{Parts}
use Rattle.framehop_rows.proofs.RuleParts.{and_then-gives, address-gives, in_range-is, in_range-fits, in_range-at, past-test, word-gives, option_map-some, and_then-some, by_test, words-is, signed_words-is}

-- ---- what a part of a rule gives

-- a word that is read as a return address
answered : (there : Option ℕ) (at : ℕ) (loops : ℕ → Bool) (to : ℕ)
    → and_then (word (λ _. there) at) (λ found. if found == 0 then Ends else if loops found then Refuses DidNotAdvance else Answers found) ≡ Answers to → there ≡ Some to
answered (Some found) at loops to h = grind arith
answered None at loops to h = cc

-- the return address that is given is what the column at the CFA less 8 gives
return-gives : (registers : UnwindRegsX86_64) (words : Words) (sp to : ℕ) → return_address registers words sp ≡ Answers to → column_by (whole_sources (register_value registers)) words sp (ip_of registers) (rule.Offset (negsuc 7)) ≡ Some to
return-gives registers words sp to h =
    let f : ℕ → Outcome ℕ = λ at. and_then (word words at) (λ found. if found == 0 then Ends else if (sp == sp_of registers) && (found == ip_of registers) then Refuses DidNotAdvance else Answers found) in
    let (at, placed, read) = and_then-gives (address (pos sp -ℤ pos 8)) f to h in
    let there = answered (words at) at (λ found. (sp == sp_of registers) && (found == ip_of registers)) to read in
    rw (address-gives (pos sp -ℤ pos 8) at placed) there

-- the caller that is given is the row's at its CFA, where the row has the frame pointer that the rule moved to
returned-gives : (registers : UnwindRegsX86_64) (words : Words) (cfa : CfaRule ℕ) (bp : Option (RegisterRule ℕ)) (sp new_bp : ℕ) (caller : Caller UnwindRegsX86_64)
    → unwrap_or (option_and_then (column_by (whole_sources (register_value registers)) words sp (bp_of registers)) bp) (bp_of registers) ≡ new_bp
    → returned_caller registers words (sp, new_bp) ≡ Answers caller
    → caller_at registers words (record { cfa = cfa; fp = bp; ra = Some (rule.Offset (negsuc 7)) }) sp ≡ Some caller
returned-gives registers words cfa bp sp new_bp caller column h =
    let f : ℕ → Outcome (Caller UnwindRegsX86_64) = λ to. Answers (record { return_address = to; registers = caller_registers registers to sp new_bp }) in
    let (to, read, given) = and_then-gives (return_address registers words sp) f caller h in
    rw (return-gives registers words sp to read, column) (let e : f to ≡ Answers caller = given in cc)

-- ---- the law, for each form of a row

-- a row whose CFA counts from a register of this value
pub row-gives : (registers : UnwindRegsX86_64) (words : Words) (register : Register) (offset : ℤ) (bp : Option (RegisterRule ℕ)) (base sp : ℕ) (caller : Caller UnwindRegsX86_64)
    → register_value registers register ≡ Some base → plus base offset ≡ Some sp
    → caller_at registers words (record { cfa = RegisterAndOffset register offset; fp = bp; ra = Some (rule.Offset (negsuc 7)) }) sp ≡ Some caller
    → row_answer registers words (record { cfa = RegisterAndOffset register offset; fp = bp; ra = Some (rule.Offset (negsuc 7)) }) ≡ Some caller
row-gives registers words register offset bp base sp caller known placed at_cfa = rw (known, placed) at_cfa

value-at-7 : (registers : UnwindRegsX86_64) (register : Register) → register.0 ≡ 7 → register_value registers register ≡ Some (sp_of registers)
value-at-7 registers register is = rw is

value-at-6 : (registers : UnwindRegsX86_64) (register : Register) → register.0 ≡ 6 → register_value registers register ≡ Some (bp_of registers)
value-at-6 registers register is = rw is

-- what a move gives is what is returned from
moved-back : (registers : UnwindRegsX86_64) (words : Words) (moved to : StackFrame) (caller : Caller UnwindRegsX86_64)
    → Answers to ≡ Answers moved → returned_caller registers words moved ≡ Answers caller → returned_caller registers words to ≡ Answers caller
moved-back registers words moved to caller moves_to h = let e : to ≡ moved = cc in let P : StackFrame → Type 0 = λ m. returned_caller registers words m ≡ Answers caller in subst P (sym e) h

-- the column of RBP says that it stays
abbrev Stays : UnwindRegsX86_64 → Words → Option (RegisterRule ℕ) → Type 0
Stays registers words bp = (sp : ℕ) → unwrap_or (option_and_then (column_by (whole_sources (register_value registers)) words sp (bp_of registers)) bp) (bp_of registers) ≡ bp_of registers

-- the stack pointer goes up, the frame pointer stays
raised-gives : (registers : UnwindRegsX86_64) (words : Words) (register : Register) (offset : ℤ) (bp : Option (RegisterRule ℕ)) (x : ℕ) (caller : Caller UnwindRegsX86_64)
    → register.0 ≡ 7 → offset ≡ pos (8 * x) → Stays registers words bp
    → and_then (raised_frame registers (8 * x)) (returned_caller registers words) ≡ Answers caller
    → row_answer registers words (record { cfa = RegisterAndOffset register offset; fp = bp; ra = Some (rule.Offset (negsuc 7)) }) ≡ Some caller
raised-gives registers words register offset bp x caller at_7 is stays h =
    let f : ℕ → Outcome StackFrame = λ sp. Answers (sp, bp_of registers) in
    let (moved, up, back) = and_then-gives (raised_frame registers (8 * x)) (returned_caller registers words) caller h in
    let (sp, placed, moves_to) = and_then-gives (address (pos (sp_of registers) +ℤ pos (8 * x))) f moved up in
    row-gives registers words register offset bp (sp_of registers) sp caller (value-at-7 registers register at_7)
    (rw is (address-gives (pos (sp_of registers) +ℤ pos (8 * x)) sp placed))
    (returned-gives registers words (RegisterAndOffset register offset) bp sp (bp_of registers) caller (stays sp) (moved-back registers words moved (sp, bp_of registers) caller moves_to back))

-- the frame pointer that is restored in a step is what its column gives, or the one that stays
stored-is : (first : Bool) (registers : UnwindRegsX86_64) (there : Option ℕ) (at bp : ℕ) → stored_bp first registers (λ _. there) at ≡ Answers bp → unwrap_or there (bp_of registers) ≡ bp
stored-is first registers (Some value) at bp h = cc
stored-is first registers None at bp h = grind arith

-- the stack pointer goes up, the frame pointer is restored
restored-gives : (first : Bool) (registers : UnwindRegsX86_64) (words : Words) (register : Register) (offset stored : ℤ) (x : ℕ) (y : ℤ) (caller : Caller UnwindRegsX86_64)
    → register.0 ≡ 7 → offset ≡ pos (8 * x) → offset +ℤ stored ≡ pos 8 *ℤ y
    → and_then (restored_frame first registers words (8 * x) (pos 8 *ℤ y)) (returned_caller registers words) ≡ Answers caller
    → row_answer registers words (record { cfa = RegisterAndOffset register offset; fp = Some (rule.Offset stored); ra = Some (rule.Offset (negsuc 7)) }) ≡ Some caller
restored-gives first registers words register offset stored x y caller at_7 is both h =
    let f : ℕ → ℕ → Outcome StackFrame = λ sp bp. Answers (sp, bp) in
    let k : ℕ → ℕ → Outcome StackFrame = λ sp at. and_then (stored_bp first registers words at) (f sp) in
    let j : ℕ → Outcome StackFrame = λ sp. and_then (address (pos (sp_of registers) +ℤ pos 8 *ℤ y)) (k sp) in
    let (moved, up, back) = and_then-gives (restored_frame first registers words (8 * x) (pos 8 *ℤ y)) (returned_caller registers words) caller h in
    let (sp, placed, on) = and_then-gives (address (pos (sp_of registers) +ℤ pos (8 * x))) j moved up in
    let (at, found, further) = and_then-gives (address (pos (sp_of registers) +ℤ pos 8 *ℤ y)) (k sp) moved on in
    let (bp, held, moves_to) = and_then-gives (stored_bp first registers words at) (f sp) moved further in
    let here = address-gives (pos (sp_of registers) +ℤ pos (8 * x)) sp placed in
    let same : pos sp +ℤ stored ≡ pos (sp_of registers) +ℤ pos 8 *ℤ y = omega (arith, ints, in_range-is (pos (sp_of registers) +ℤ pos (8 * x)) sp here) in
    row-gives registers words register offset (Some (rule.Offset stored)) (sp_of registers) sp caller (value-at-7 registers register at_7)
    (rw is here)
    (returned-gives registers words (RegisterAndOffset register offset) (Some (rule.Offset stored)) sp bp caller
    (rw (same, address-gives (pos (sp_of registers) +ℤ pos 8 *ℤ y) at found) (stored-is first registers (words at) at bp held))
    (moved-back registers words moved (sp, bp) caller moves_to back))

-- the frame pointer is followed
followed-gives : (registers : UnwindRegsX86_64) (words : Words) (register : Register) (caller : Caller UnwindRegsX86_64)
    → register.0 ≡ 6
    → and_then (by_frame_pointer registers words) (returned_caller registers words) ≡ Answers caller
    → row_answer registers words (record { cfa = RegisterAndOffset register (pos 16); fp = Some (rule.Offset (negsuc 15)); ra = Some (rule.Offset (negsuc 7)) }) ≡ Some caller
followed-gives registers words register caller at_6 h =
    let f : ℕ → ℕ → Outcome StackFrame = λ sp bp. Answers (sp, bp) in
    let k : ℕ → Outcome StackFrame = λ sp. if nat_le sp (sp_of registers) then Refuses FramepointerUnwindingMovedBackwards else and_then (word words (bp_of registers)) (f sp) in
    let (moved, up, back) = and_then-gives (by_frame_pointer registers words) (returned_caller registers words) caller h in
    let (sp, placed, on) = and_then-gives (address (pos (bp_of registers) +ℤ pos 16)) k moved up in
    let here = address-gives (pos (bp_of registers) +ℤ pos 16) sp placed in
    let (bp, held, moves_to) = and_then-gives (word words (bp_of registers)) (f sp) moved (past-test (nat_le sp (sp_of registers)) FramepointerUnwindingMovedBackwards (and_then (word words (bp_of registers)) (f sp)) moved on) in
    let fits : sp < 2 ^ 64 = in_range-fits (pos (bp_of registers) +ℤ pos 16) sp here in
    let high : sp ≡ bp_of registers + 16 = omega (arith, ints, in_range-is (pos (bp_of registers) +ℤ pos 16) sp here) in
    let low : bp_of registers < 2 ^ 64 = omega arith in
    let down : pos sp +ℤ negsuc 15 ≡ pos (bp_of registers) = omega (arith, ints) in
    row-gives registers words register (pos 16) (Some (rule.Offset (negsuc 15))) (bp_of registers) sp caller (value-at-6 registers register at_6)
    here
    (returned-gives registers words (RegisterAndOffset register (pos 16)) (Some (rule.Offset (negsuc 15))) sp bp caller
    (rw (down, in_range-at (bp_of registers) low, word-gives (words (bp_of registers)) (bp_of registers) bp held) refl)
    (moved-back registers words moved (sp, bp) caller moves_to back))

-- ---- the law

-- the row of a CFA at an offset from a register
abbrev row_at : Register → ℤ → Option (RegisterRule ℕ) → Parts ℕ
row_at register offset bp = record { cfa = RegisterAndOffset register offset; fp = bp; ra = Some (rule.Offset (negsuc 7)) }

-- for a CFA that counts from the stack pointer, where the frame pointer stays
law-raised : (first : Bool) (registers : UnwindRegsX86_64) (words : Words) (register : Register) (offset : ℤ) (bp : Option (RegisterRule ℕ)) (how : UnwindRuleX86_64) (caller : Caller UnwindRegsX86_64)
    → register.0 ≡ 7 → Stays registers words bp → raised_sp offset ≡ Some how → rule_meaning how first registers words ≡ Answers caller
    → row_answer registers words (row_at register offset bp) ≡ Some caller
law-raised first registers words register offset bp how caller at_7 stays says h =
    let (x, scaled, is) = option_map-some OffsetSp (as_words offset) how says in
    let P : UnwindRuleX86_64 → Type 0 = λ r. rule_meaning r first registers words ≡ Answers caller in
    raised-gives registers words register offset bp x caller at_7 (words-is offset x scaled) stays (subst P (sym is) h)

-- for a CFA that counts from the stack pointer
law-sp : (first : Bool) (registers : UnwindRegsX86_64) (words : Words) (register : Register) (offset : ℤ) (bp : Option (RegisterRule ℕ)) (how : UnwindRuleX86_64) (caller : Caller UnwindRegsX86_64)
    → register.0 ≡ 7 → from_sp offset bp ≡ Some how → rule_meaning how first registers words ≡ Answers caller
    → row_answer registers words (row_at register offset bp) ≡ Some caller
law-sp first registers words register offset None how caller at_7 says h = law-raised first registers words register offset None how caller at_7 (λ sp. refl) says h
law-sp first registers words register offset (Some rule.Undefined) how caller at_7 says h = law-raised first registers words register offset (Some rule.Undefined) how caller at_7 (λ sp. refl) says h
law-sp first registers words register offset (Some rule.SameValue) how caller at_7 says h = law-raised first registers words register offset (Some rule.SameValue) how caller at_7 (λ sp. refl) says h
law-sp first registers words register offset (Some (rule.ValOffset stored)) how caller at_7 says h = cc
law-sp first registers words register offset (Some (rule.Register source)) how caller at_7 says h = cc
law-sp first registers words register offset (Some (rule.Expression expression)) how caller at_7 says h = cc
law-sp first registers words register offset (Some (rule.ValExpression expression)) how caller at_7 says h = cc
law-sp first registers words register offset (Some rule.Architectural) how caller at_7 says h = cc
law-sp first registers words register offset (Some (rule.Constant n)) how caller at_7 says h = cc
law-sp first registers words register offset (Some (rule.Offset stored)) how caller at_7 says h =
    let f : ℕ → Option UnwindRuleX86_64 = λ x. option_map (OffsetSpAndRestoreBp x) (as_signed_words (offset +ℤ stored)) in
    let (x, scaled, on) = and_then-some f (as_words offset) how says in
    let (y, both, is) = option_map-some (OffsetSpAndRestoreBp x) (as_signed_words (offset +ℤ stored)) how on in
    let P : UnwindRuleX86_64 → Type 0 = λ r. rule_meaning r first registers words ≡ Answers caller in
    restored-gives first registers words register offset stored x y caller at_7 (words-is offset x scaled) (signed_words-is (offset +ℤ stored) y both) (subst P (sym is) h)

-- the one row from the frame pointer that a rule says
from_bp-is : (offset stored : ℤ) (how : UnwindRuleX86_64) → from_bp {T = ℕ} offset (Some (rule.Offset stored)) ≡ Some how → (offset ≡ pos 16) × (stored ≡ negsuc 15) × (how ≡ UseFramePointer)
from_bp-is offset stored how says =
    by_test (int_eq offset (pos 16) && int_eq stored (negsuc 15)) (Some UseFramePointer) None how
    (λ are is. let (high, low) = and_parts (int_eq offset (pos 16)) (int_eq stored (negsuc 15)) are in
    ((Decides-int_eq offset (pos 16)).0 high, (Decides-int_eq stored (negsuc 15)).0 low, cc))
    (λ _ is. cc)
    says

-- a step by the frame pointer that gives has followed it
follow-gives : (first : Bool) (registers : UnwindRegsX86_64) (words : Words) (caller : Caller UnwindRegsX86_64)
    → rule_meaning UseFramePointer first registers words ≡ Answers caller → and_then (by_frame_pointer registers words) (returned_caller registers words) ≡ Answers caller
follow-gives first registers words caller h = at_end (bp_of registers == 0) (by_frame_pointer registers words) (returned_caller registers words) caller h
  where
    at_end : {A B : Type 0} (b : Bool) (x : Outcome A) (f : A → Outcome B) (c : B) → and_then (if b then Ends else x) f ≡ Answers c → and_then x f ≡ Answers c
    at_end true x f c h = cc
    at_end false x f c h = h

-- a column that isn't stored gives no rule from the frame pointer
never : (b : Bool) (how : UnwindRuleX86_64) → (if b && false then Some UseFramePointer else None) ≡ Some how → ⊥
never true how says = cc
never false how says = cc

-- for a CFA that counts from the frame pointer
law-bp : (first : Bool) (registers : UnwindRegsX86_64) (words : Words) (register : Register) (offset : ℤ) (bp : Option (RegisterRule ℕ)) (how : UnwindRuleX86_64) (caller : Caller UnwindRegsX86_64)
    → register.0 ≡ 6 → from_bp offset bp ≡ Some how → rule_meaning how first registers words ≡ Answers caller
    → row_answer registers words (row_at register offset bp) ≡ Some caller
law-bp first registers words register offset None how caller at_6 says h = cc
law-bp first registers words register offset (Some rule.Undefined) how caller at_6 says h = absurd (never (int_eq offset (pos 16)) how says)
law-bp first registers words register offset (Some rule.SameValue) how caller at_6 says h = absurd (never (int_eq offset (pos 16)) how says)
law-bp first registers words register offset (Some (rule.ValOffset stored)) how caller at_6 says h = absurd (never (int_eq offset (pos 16)) how says)
law-bp first registers words register offset (Some (rule.Register source)) how caller at_6 says h = absurd (never (int_eq offset (pos 16)) how says)
law-bp first registers words register offset (Some (rule.Expression expression)) how caller at_6 says h = absurd (never (int_eq offset (pos 16)) how says)
law-bp first registers words register offset (Some (rule.ValExpression expression)) how caller at_6 says h = absurd (never (int_eq offset (pos 16)) how says)
law-bp first registers words register offset (Some rule.Architectural) how caller at_6 says h = absurd (never (int_eq offset (pos 16)) how says)
law-bp first registers words register offset (Some (rule.Constant n)) how caller at_6 says h = absurd (never (int_eq offset (pos 16)) how says)
law-bp first registers words register offset (Some (rule.Offset stored)) how caller at_6 says h =
    let (high, low, is) = from_bp-is offset stored how says in
    let P : UnwindRuleX86_64 → Type 0 = λ r. rule_meaning r first registers words ≡ Answers caller in
    rw (high, low) (followed-gives registers words register caller at_6 (follow-gives first registers words caller (subst P is h)))

-- at the end of the stack no caller is answered
law-end : (how : UnwindRuleX86_64) (first : Bool) (registers : UnwindRegsX86_64) (words : Words) (caller : Caller UnwindRegsX86_64)
    → ◌≡◌ {A = Option UnwindRuleX86_64} (Some EndOfStack) (Some how) → rule_meaning how first registers words ≡ Answers caller → ⊥
law-end how first registers words caller says h =
    let is : EndOfStack ≡ how = cc in
    let P : UnwindRuleX86_64 → Type 0 = λ r. rule_meaning r first registers words ≡ Answers caller in
    let ended : Ends ≡ Answers caller = subst P (sym is) h in cc

-- by the parts of the row
law-by_parts : (cfa : CfaRule ℕ) (bp ra : Option (RegisterRule ℕ)) (how : UnwindRuleX86_64) (first : Bool) (registers : UnwindRegsX86_64) (words : Words) (caller : Caller UnwindRegsX86_64)
    → from_return_address cfa bp ra ≡ Some how → rule_meaning how first registers words ≡ Answers caller
    → row_answer registers words (record { cfa = cfa; fp = bp; ra = ra }) ≡ Some caller
law-by_parts cfa bp None how first registers words caller says h = absurd (law-end how first registers words caller says h)
law-by_parts cfa bp (Some rule.Undefined) how first registers words caller says h = absurd (law-end how first registers words caller says h)
law-by_parts cfa bp (Some rule.SameValue) how first registers words caller says h = cc
law-by_parts cfa bp (Some (rule.ValOffset stored)) how first registers words caller says h = cc
law-by_parts cfa bp (Some (rule.Register source)) how first registers words caller says h = cc
law-by_parts cfa bp (Some (rule.Expression expression)) how first registers words caller says h = cc
law-by_parts cfa bp (Some (rule.ValExpression expression)) how first registers words caller says h = cc
law-by_parts cfa bp (Some rule.Architectural) how first registers words caller says h = cc
law-by_parts cfa bp (Some (rule.Constant n)) how first registers words caller says h = cc
law-by_parts (Expression expression) bp (Some (rule.Offset stored)) how first registers words caller says h =
    by_test (int_eq stored (negsuc 7)) None None how (λ _ none. cc) (λ _ none. cc) says
law-by_parts (RegisterAndOffset register offset) bp (Some (rule.Offset stored)) how first registers words caller says h =
    by_test (int_eq stored (negsuc 7)) (from_register register offset bp) None how
    (λ at row. rw ((Decides-int_eq stored (negsuc 7)).0 at)
    (by_test (register.0 == 7) (from_sp offset bp) (if register.0 == 6 then from_bp offset bp else None) how
    (λ at_7 by_sp. law-sp first registers words register offset bp how caller (eqb-true register.0 7 at_7) by_sp h)
    (λ _ other. by_test (register.0 == 6) (from_bp offset bp) None how
    (λ at_6 by_bp. law-bp first registers words register offset bp how caller (eqb-true register.0 6 at_6) by_bp h)
    (λ _ none. cc)
    other)
    row))
    (λ _ none. cc)
    says

-- where a rule says a row, and answers a caller, the row gives that caller
pub law : (parts : Parts ℕ) (how : UnwindRuleX86_64) (first : Bool) (registers : UnwindRegsX86_64) (words : Words) (caller : Caller UnwindRegsX86_64)
    → scaled_rule parts ≡ Some how → rule_meaning how first registers words ≡ Answers caller → row_answer registers words parts ≡ Some caller
law parts how first registers words caller says h = law-by_parts parts.cfa parts.fp parts.ra how first registers words caller says h
