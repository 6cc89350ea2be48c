-- Where a rule of aarch64 says a row exactly, the numbers of its answer are the row's.
use Rattle.std.proofs.Common.{◌≡◌, ℕ, ◌*◌, refl, sym, ap, subst, arith, Option, Some, None, Bool, true, false, ◌∙◌}
use Rattle.std.specs.Prelude.{ℤ, pos, negsuc, ◌+ℤ◌, ◌*ℤ◌, option_and_then, option_map, ◌==◌, ◌&&◌, ◌||◌, not, nat_le, if◌then◌else◌}
use Rattle.std.proofs.lemmas.Int.{ints}
use Rattle.std.specs.Ordering.{int_eq}
use Rattle.std.proofs.lemmas.Bool.{and_parts, eqb-true}
use Rattle.std.proofs.lemmas.Bool.Decides.{Decides-int_eq}
use Rattle.dwarf_constants.specs.declared.common.Register.{Register}
use Rattle.dwarf_frame_rows.specs.declared.rules.CfaRule.{CfaRule}
use Rattle.dwarf_frame_rows.specs.declared.rules.CfaRule.TheVariants.{RegisterAndOffset, Expression}
use Rattle.dwarf_frame_rows.specs.declared.rules.RegisterRule.{RegisterRule}
use Rattle.dwarf_frame_rows.specs.declared.rules.RegisterRule.TheVariants as rule
use Rattle.framehop_registers.specs.Callback.{Words}
use Rattle.framehop_registers.specs.RegistersAarch64.{stripped_address, mask_of, lr_of, sp_of, fp_of}
use Rattle.framehop_registers.specs.declared.aarch64.unwindregs.UnwindRegsAarch64.{UnwindRegsAarch64}
use Rattle.framehop_registers.specs.declared.error.Error.TheVariants.{DidNotAdvance, FramepointerUnwindingMovedBackwards}
use Rattle.framehop_rules.specs.Outcome.{Outcome, Ends, Refuses, Answers, Caller, and_then, address, word}
use Rattle.framehop_rules.specs.RuleMeaningAarch64.{CallerFrame, raised_frame, stored_word, frame_with_stored_lr, stored_frame, if_chained, return_address, caller_registers, returned_caller, rule_meaning}
use Rattle.framehop_rules.specs.declared.aarch64.unwind_rule.UnwindRuleAarch64.{UnwindRuleAarch64}
use Rattle.framehop_rules.specs.declared.aarch64.unwind_rule.UnwindRuleAarch64.TheVariants.{OffsetSp, OffsetSpIfFirstFrameOtherwiseStackEndsHere, OffsetSpAndRestoreLr, OffsetSpAndRestoreFpAndLr, UseFramePointer, UseFramepointerWithOffsets}
use Rattle.framehop_rows.specs.RowAnswerAarch64.{register_value, caller_with, given_or_kept, row_answer}
use Rattle.framehop_rows.specs.RowSources.{plus}
use Rattle.framehop_rows.specs.RuleFields.{as_words, as_signed_words, pairs_of}
use Rattle.framehop_rows.specs.ScaledRowAarch64.{saved_by, raised_sp, from_sp, followed_fp, from_fp, from_cfa, scaled_rule}
use Rattle.framehop_rows.specs.declared.aarch64.dwarf.Saved.{Saved}
use Rattle.framehop_rows.specs.declared.aarch64.dwarf.Saved.TheVariants.{InRegister, FromCfa}
use Rattle.dwarf_frame_parts.specs.declared.parts.Parts.{Parts}
use Rattle.framehop_rows.proofs.RuleParts.{and_then-gives, address-gives, in_range-is, word-gives, option_map-some, and_then-some, by_test, words-is, signed_words-is, pairs-is}

-- ---- what columns give

-- a register that a column leaves where it is stays
stays : (registers : UnwindRegsAarch64) (words : Words) (cfa own : ℕ) (column : Option (RegisterRule ℕ)) → saved_by column ≡ Some InRegister → given_or_kept registers words cfa own column ≡ own
stays registers words cfa own None is = refl
stays registers words cfa own (Some rule.Undefined) is = refl
stays registers words cfa own (Some rule.SameValue) is = refl
stays registers words cfa own (Some (rule.Offset offset)) is = cc
stays registers words cfa own (Some (rule.ValOffset offset)) is = cc
stays registers words cfa own (Some (rule.Register source)) is = cc
stays registers words cfa own (Some (rule.Expression expression)) is = cc
stays registers words cfa own (Some (rule.ValExpression expression)) is = cc
stays registers words cfa own (Some rule.Architectural) is = cc
stays registers words cfa own (Some (rule.Constant n)) is = cc

-- one that is stored has this rule
stored-at : (column : Option (RegisterRule ℕ)) (m : ℤ) → saved_by column ≡ Some (FromCfa m) → column ≡ Some (rule.Offset m)
stored-at None m is = cc
stored-at (Some rule.Undefined) m is = cc
stored-at (Some rule.SameValue) m is = cc
stored-at (Some (rule.Offset offset)) m is = cc
stored-at (Some (rule.ValOffset offset)) m is = cc
stored-at (Some (rule.Register source)) m is = cc
stored-at (Some (rule.Expression expression)) m is = cc
stored-at (Some (rule.ValExpression expression)) m is = cc
stored-at (Some rule.Architectural) m is = cc
stored-at (Some (rule.Constant n)) m is = cc

-- and is the word that the rule reads
restored-is : (registers : UnwindRegsAarch64) (words : Words) (base cfa own value : ℕ) (m y : ℤ) (column : Option (RegisterRule ℕ))
    → saved_by column ≡ Some (FromCfa m) → pos cfa +ℤ m ≡ pos base +ℤ pos 8 *ℤ y → stored_word words base y ≡ Answers value
    → given_or_kept registers words cfa own column ≡ value
restored-is registers words base cfa own value m y column saved same h =
    let (at, placed, read) = and_then-gives (address (pos base +ℤ pos 8 *ℤ y)) (word words) value h in
    rw (stored-at column m saved, same, address-gives (pos base +ℤ pos 8 *ℤ y) at placed, word-gives (words at) at value read) refl

-- ---- what is returned from

-- a return address that is given is the link register, stripped
stripped-is : (a b : Bool) (v to : ℕ) → (if a then Ends else if b then Refuses DidNotAdvance else Answers v) ≡ Answers to → v ≡ to
stripped-is true b v to h = cc
stripped-is false true v to h = cc
stripped-is false false v to h = cc

-- the caller that is given has these registers
returned-is : (registers : UnwindRegsAarch64) (first : Bool) (lr sp fp : ℕ) (caller : Caller UnwindRegsAarch64)
    → returned_caller registers first (lr, sp, fp) ≡ Answers caller → caller_with registers lr sp fp ≡ caller
returned-is registers first lr sp fp caller h =
    let made : ℕ → Caller UnwindRegsAarch64 = λ (to : ℕ). record { return_address = to; registers = caller_registers registers (lr, sp, fp) } in
    let f : ℕ → Outcome (Caller UnwindRegsAarch64) = λ to. Answers (made to) in
    let (to, read, given) = and_then-gives (return_address registers first (lr, sp, fp)) f caller h in
    let v = stripped_address (mask_of registers) lr in
    let is : v ≡ to = stripped-is (v == 0) (not first && (sp == sp_of registers)) v to read in
    let same : made to ≡ caller = cc in
    ap made is ∙ same

-- what a move gives is what is returned from
moved-back : (registers : UnwindRegsAarch64) (first : Bool) (moved to : CallerFrame) (caller : Caller UnwindRegsAarch64)
    → to ≡ moved → returned_caller registers first moved ≡ Answers caller → returned_caller registers first to ≡ Answers caller
moved-back registers first moved to caller same h = let P : CallerFrame → Type 0 = λ m. returned_caller registers first m ≡ Answers caller in subst P (sym same) h

-- ---- the law, for each form of a row

value-at-31 : (registers : UnwindRegsAarch64) (register : Register) → register.0 ≡ 31 → register_value registers register ≡ Some (sp_of registers)
value-at-31 registers register is = rw is

value-at-29 : (registers : UnwindRegsAarch64) (register : Register) → register.0 ≡ 29 → register_value registers register ≡ Some (fp_of registers)
value-at-29 registers register is = rw is

-- the row of a CFA at an offset from a register
abbrev row_at : Register → ℤ → (fp ra : Option (RegisterRule ℕ)) → Parts ℕ
row_at register offset fp ra = record { cfa = RegisterAndOffset register offset; fp = fp; ra = ra }

-- the caller of a row whose CFA counts from a register of this value
frame-gives : (registers : UnwindRegsAarch64) (words : Words) (register : Register) (offset : ℤ) (fp ra : Option (RegisterRule ℕ)) (base lr sp new_fp : ℕ) (first : Bool) (caller : Caller UnwindRegsAarch64)
    → register_value registers register ≡ Some base → plus base offset ≡ Some sp
    → given_or_kept registers words sp (lr_of registers) ra ≡ lr → given_or_kept registers words sp (fp_of registers) fp ≡ new_fp
    → returned_caller registers first (lr, sp, new_fp) ≡ Answers caller
    → row_answer registers words (row_at register offset fp ra) ≡ Some caller
frame-gives registers words register offset fp ra base lr sp new_fp first caller known placed lr_is fp_is h =
    rw (known, placed, lr_is, fp_is) (ap Some (returned-is registers first lr sp new_fp caller h))

-- the stack pointer goes up, the others stay
raised-gives : (registers : UnwindRegsAarch64) (words : Words) (register : Register) (offset : ℤ) (fp ra : Option (RegisterRule ℕ)) (x : ℕ) (first : Bool) (caller : Caller UnwindRegsAarch64)
    → register.0 ≡ 31 → offset ≡ pos (16 * x) → saved_by fp ≡ Some InRegister → saved_by ra ≡ Some InRegister
    → and_then (raised_frame registers (16 * x)) (returned_caller registers first) ≡ Answers caller
    → row_answer registers words (row_at register offset fp ra) ≡ Some caller
raised-gives registers words register offset fp ra x first caller at_31 is fp_in ra_in h =
    let f : ℕ → Outcome CallerFrame = λ sp. Answers (lr_of registers, sp, fp_of registers) in
    let (moved, up, back) = and_then-gives (raised_frame registers (16 * x)) (returned_caller registers first) caller h in
    let (sp, placed, moves_to) = and_then-gives (address (pos (sp_of registers) +ℤ pos (16 * x))) f moved up in
    let same : (lr_of registers, sp, fp_of registers) ≡ moved = cc in
    frame-gives registers words register offset fp ra (sp_of registers) (lr_of registers) sp (fp_of registers) first caller (value-at-31 registers register at_31)
    (rw is (address-gives (pos (sp_of registers) +ℤ pos (16 * x)) sp placed))
    (stays registers words sp (lr_of registers) ra ra_in)
    (stays registers words sp (fp_of registers) fp fp_in)
    (moved-back registers first moved (lr_of registers, sp, fp_of registers) caller same back)

-- the stack pointer goes up, the link register is restored
restored_lr-gives : (registers : UnwindRegsAarch64) (words : Words) (register : Register) (offset m : ℤ) (fp ra : Option (RegisterRule ℕ)) (x : ℕ) (y : ℤ) (first : Bool) (caller : Caller UnwindRegsAarch64)
    → register.0 ≡ 31 → offset ≡ pos (16 * x) → offset +ℤ m ≡ pos 8 *ℤ y → saved_by fp ≡ Some InRegister → saved_by ra ≡ Some (FromCfa m)
    → and_then (frame_with_stored_lr registers words (16 * x) y) (returned_caller registers first) ≡ Answers caller
    → row_answer registers words (row_at register offset fp ra) ≡ Some caller
restored_lr-gives registers words register offset m fp ra x y first caller at_31 is both fp_in ra_saved h =
    let f : ℕ → ℕ → Outcome CallerFrame = λ sp lr. Answers (lr, sp, fp_of registers) in
    let j : ℕ → Outcome CallerFrame = λ sp. and_then (stored_word words (sp_of registers) y) (f sp) in
    let (moved, up, back) = and_then-gives (frame_with_stored_lr registers words (16 * x) y) (returned_caller registers first) caller h in
    let (sp, placed, on) = and_then-gives (address (pos (sp_of registers) +ℤ pos (16 * x))) j moved up in
    let (lr, held, moves_to) = and_then-gives (stored_word words (sp_of registers) y) (f sp) moved on in
    let here = address-gives (pos (sp_of registers) +ℤ pos (16 * x)) sp placed in
    let at : pos sp +ℤ m ≡ pos (sp_of registers) +ℤ pos 8 *ℤ y = omega (arith, ints, in_range-is (pos (sp_of registers) +ℤ pos (16 * x)) sp here) in
    let same : (lr, sp, fp_of registers) ≡ moved = cc in
    frame-gives registers words register offset fp ra (sp_of registers) lr sp (fp_of registers) first caller (value-at-31 registers register at_31)
    (rw is here)
    (restored-is registers words (sp_of registers) sp (lr_of registers) lr m y ra ra_saved at held)
    (stays registers words sp (fp_of registers) fp fp_in)
    (moved-back registers first moved (lr, sp, fp_of registers) caller same back)

-- both are restored, from this value of a register on
stored-gives : (registers : UnwindRegsAarch64) (words : Words) (register : Register) (offset m n : ℤ) (fp ra : Option (RegisterRule ℕ)) (base bytes : ℕ) (y z : ℤ) (first : Bool) (frame : CallerFrame) (caller : Caller UnwindRegsAarch64)
    → register_value registers register ≡ Some base → offset ≡ pos bytes → offset +ℤ m ≡ pos 8 *ℤ y → offset +ℤ n ≡ pos 8 *ℤ z
    → saved_by fp ≡ Some (FromCfa m) → saved_by ra ≡ Some (FromCfa n)
    → stored_frame words base bytes y z ≡ Answers frame → returned_caller registers first frame ≡ Answers caller
    → row_answer registers words (row_at register offset fp ra) ≡ Some caller
stored-gives registers words register offset m n fp ra base bytes y z first frame caller known is fp_at ra_at fp_saved ra_saved stored back =
    let f : ℕ → ℕ → ℕ → Outcome CallerFrame = λ sp lr new_fp. Answers (lr, sp, new_fp) in
    let k : ℕ → ℕ → Outcome CallerFrame = λ sp lr. and_then (stored_word words base y) (f sp lr) in
    let j : ℕ → Outcome CallerFrame = λ sp. and_then (stored_word words base z) (k sp) in
    let (sp, placed, on) = and_then-gives (address (pos base +ℤ pos bytes)) j frame stored in
    let (lr, held, further) = and_then-gives (stored_word words base z) (k sp) frame on in
    let (new_fp, kept, moves_to) = and_then-gives (stored_word words base y) (f sp lr) frame further in
    let here = address-gives (pos base +ℤ pos bytes) sp placed in
    let fp_there : pos sp +ℤ m ≡ pos base +ℤ pos 8 *ℤ y = omega (arith, ints, in_range-is (pos base +ℤ pos bytes) sp here) in
    let lr_there : pos sp +ℤ n ≡ pos base +ℤ pos 8 *ℤ z = omega (arith, ints, in_range-is (pos base +ℤ pos bytes) sp here) in
    let same : (lr, sp, new_fp) ≡ frame = cc in
    frame-gives registers words register offset fp ra base lr sp new_fp first caller known
    (rw is here)
    (restored-is registers words base sp (lr_of registers) lr n z ra ra_saved lr_there held)
    (restored-is registers words base sp (fp_of registers) new_fp m y fp fp_saved fp_there kept)
    (moved-back registers first frame (lr, sp, new_fp) caller same back)

-- a frame of a chain is the one that was read
chained-is : (registers : UnwindRegsAarch64) (from frame : CallerFrame) → if_chained registers from ≡ Answers frame → from ≡ frame
chained-is registers (lr, sp, fp) frame h = by (fp == 0) (nat_le fp (fp_of registers) || nat_le sp (sp_of registers)) h
  where
    by : (a b : Bool) → (if a then Ends else if b then Refuses FramepointerUnwindingMovedBackwards else Answers (lr, sp, fp)) ≡ Answers frame → (lr, sp, fp) ≡ frame
    by true b h = cc
    by false true h = cc
    by false false h = cc

-- the frame pointer is followed
followed-gives : (registers : UnwindRegsAarch64) (words : Words) (register : Register) (offset m n : ℤ) (fp ra : Option (RegisterRule ℕ)) (bytes : ℕ) (y z : ℤ) (first : Bool) (caller : Caller UnwindRegsAarch64)
    → register.0 ≡ 29 → offset ≡ pos bytes → offset +ℤ m ≡ pos 8 *ℤ y → offset +ℤ n ≡ pos 8 *ℤ z
    → saved_by fp ≡ Some (FromCfa m) → saved_by ra ≡ Some (FromCfa n)
    → and_then (and_then (stored_frame words (fp_of registers) bytes y z) (if_chained registers)) (returned_caller registers first) ≡ Answers caller
    → row_answer registers words (row_at register offset fp ra) ≡ Some caller
followed-gives registers words register offset m n fp ra bytes y z first caller at_29 is fp_at ra_at fp_saved ra_saved h =
    let (moved, up, back) = and_then-gives (and_then (stored_frame words (fp_of registers) bytes y z) (if_chained registers)) (returned_caller registers first) caller h in
    let (frame, stored, chained) = and_then-gives (stored_frame words (fp_of registers) bytes y z) (if_chained registers) moved up in
    stored-gives registers words register offset m n fp ra (fp_of registers) bytes y z first frame caller (value-at-29 registers register at_29) is fp_at ra_at fp_saved ra_saved stored
    (moved-back registers first moved frame caller (chained-is registers frame moved chained) back)

-- ---- the law

module _ (registers : UnwindRegsAarch64) (words : Words) (first : Bool) (how : UnwindRuleAarch64) (caller : Caller UnwindRegsAarch64) where
  abbrev Means : UnwindRuleAarch64 → Type 0
  Means r = rule_meaning r first registers words ≡ Answers caller

  -- a rule that only raises the stack pointer answers in a first frame alone
  raised-first : (x : ℕ) → (f : Bool) → rule_meaning (OffsetSp x) f registers words ≡ Answers caller → and_then (raised_frame registers (16 * x)) (returned_caller registers f) ≡ Answers caller
  raised-first x true h = h
  raised-first x false h = cc

  ended-later : (x : ℕ) → (f : Bool) → rule_meaning (OffsetSpIfFirstFrameOtherwiseStackEndsHere x) f registers words ≡ Answers caller → and_then (raised_frame registers (16 * x)) (returned_caller registers f) ≡ Answers caller
  ended-later x true h = h
  ended-later x false h = cc

  law-raised : (register : Register) (offset : ℤ) (fp ra : Option (RegisterRule ℕ)) → register.0 ≡ 31 → saved_by fp ≡ Some InRegister → saved_by ra ≡ Some InRegister
      → option_map OffsetSp (pairs_of offset) ≡ Some how → Means how → row_answer registers words (row_at register offset fp ra) ≡ Some caller
  law-raised register offset fp ra at_31 fp_in ra_in says h =
      let (x, scaled, is) = option_map-some OffsetSp (pairs_of offset) how says in
      raised-gives registers words register offset fp ra x first caller at_31 (pairs-is offset x scaled) fp_in ra_in (raised-first x first (subst Means (sym is) h))

  law-ended : (register : Register) (offset : ℤ) (fp ra : Option (RegisterRule ℕ)) → register.0 ≡ 31 → saved_by fp ≡ Some InRegister → saved_by ra ≡ Some InRegister
      → option_map OffsetSpIfFirstFrameOtherwiseStackEndsHere (pairs_of offset) ≡ Some how → Means how → row_answer registers words (row_at register offset fp ra) ≡ Some caller
  law-ended register offset fp ra at_31 fp_in ra_in says h =
      let (x, scaled, is) = option_map-some OffsetSpIfFirstFrameOtherwiseStackEndsHere (pairs_of offset) how says in
      raised-gives registers words register offset fp ra x first caller at_31 (pairs-is offset x scaled) fp_in ra_in (ended-later x first (subst Means (sym is) h))

  -- for a CFA that counts from the stack pointer, where both stay
  law-in-registers : (register : Register) (offset : ℤ) (fp ra : Option (RegisterRule ℕ)) → register.0 ≡ 31 → saved_by fp ≡ Some InRegister → saved_by ra ≡ Some InRegister
      → raised_sp offset ra ≡ Some how → Means how → row_answer registers words (row_at register offset fp ra) ≡ Some caller
  law-in-registers register offset fp None at_31 fp_in ra_in says h = law-raised register offset fp None at_31 fp_in ra_in says h
  law-in-registers register offset fp (Some rule.Undefined) at_31 fp_in ra_in says h = law-ended register offset fp (Some rule.Undefined) at_31 fp_in ra_in says h
  law-in-registers register offset fp (Some rule.SameValue) at_31 fp_in ra_in says h = law-raised register offset fp (Some rule.SameValue) at_31 fp_in ra_in says h
  law-in-registers register offset fp (Some (rule.Offset m)) at_31 fp_in ra_in says h = cc
  law-in-registers register offset fp (Some (rule.ValOffset m)) at_31 fp_in ra_in says h = cc
  law-in-registers register offset fp (Some (rule.Register source)) at_31 fp_in ra_in says h = cc
  law-in-registers register offset fp (Some (rule.Expression expression)) at_31 fp_in ra_in says h = cc
  law-in-registers register offset fp (Some (rule.ValExpression expression)) at_31 fp_in ra_in says h = cc
  law-in-registers register offset fp (Some rule.Architectural) at_31 fp_in ra_in says h = cc
  law-in-registers register offset fp (Some (rule.Constant n)) at_31 fp_in ra_in says h = cc

  -- for a CFA that counts from the stack pointer
  law-sp : (register : Register) (offset : ℤ) (fp ra : Option (RegisterRule ℕ)) (where_fp where_ra : Saved) → register.0 ≡ 31 → saved_by fp ≡ Some where_fp → saved_by ra ≡ Some where_ra
      → from_sp offset ra where_fp where_ra ≡ Some how → Means how → row_answer registers words (row_at register offset fp ra) ≡ Some caller
  law-sp register offset fp ra InRegister InRegister at_31 fp_saved ra_saved says h = law-in-registers register offset fp ra at_31 fp_saved ra_saved says h
  law-sp register offset fp ra (FromCfa m) InRegister at_31 fp_saved ra_saved says h = cc
  law-sp register offset fp ra InRegister (FromCfa n) at_31 fp_saved ra_saved says h =
      let f : ℕ → Option UnwindRuleAarch64 = λ x. option_map (OffsetSpAndRestoreLr x) (as_signed_words (offset +ℤ n)) in
      let (x, scaled, on) = and_then-some f (pairs_of offset) how says in
      let (y, both, is) = option_map-some (OffsetSpAndRestoreLr x) (as_signed_words (offset +ℤ n)) how on in
      restored_lr-gives registers words register offset n fp ra x y first caller at_31 (pairs-is offset x scaled) (signed_words-is (offset +ℤ n) y both) fp_saved ra_saved (subst Means (sym is) h)
  law-sp register offset fp ra (FromCfa m) (FromCfa n) at_31 fp_saved ra_saved says h =
      let g : ℕ → ℤ → Option UnwindRuleAarch64 = λ x y. option_map (OffsetSpAndRestoreFpAndLr x y) (as_signed_words (offset +ℤ n)) in
      let f : ℕ → Option UnwindRuleAarch64 = λ x. option_and_then (g x) (as_signed_words (offset +ℤ m)) in
      let (x, scaled, on) = and_then-some f (pairs_of offset) how says in
      let (y, fp_at, further) = and_then-some (g x) (as_signed_words (offset +ℤ m)) how on in
      let (z, ra_at, is) = option_map-some (OffsetSpAndRestoreFpAndLr x y) (as_signed_words (offset +ℤ n)) how further in
      let (moved, up, back) = and_then-gives (stored_frame words (sp_of registers) (16 * x) y z) (returned_caller registers first) caller (subst Means (sym is) h) in
      stored-gives registers words register offset m n fp ra (sp_of registers) (16 * x) y z first moved caller (value-at-31 registers register at_31) (pairs-is offset x scaled)
      (signed_words-is (offset +ℤ m) y fp_at) (signed_words-is (offset +ℤ n) z ra_at) fp_saved ra_saved up back

  -- for a CFA that counts from the frame pointer
  law-followed : (register : Register) (offset m n : ℤ) (fp ra : Option (RegisterRule ℕ)) → register.0 ≡ 29 → saved_by fp ≡ Some (FromCfa m) → saved_by ra ≡ Some (FromCfa n)
      → followed_fp offset m n ≡ Some how → Means how → row_answer registers words (row_at register offset fp ra) ≡ Some caller
  law-followed register offset m n fp ra at_29 fp_saved ra_saved says h =
      let g : ℕ → ℤ → Option UnwindRuleAarch64 = λ x y. option_map (UseFramepointerWithOffsets x y) (as_signed_words (offset +ℤ n)) in
      let f : ℕ → Option UnwindRuleAarch64 = λ x. option_and_then (g x) (as_signed_words (offset +ℤ m)) in
      by_test (int_eq offset (pos 16) && (int_eq m (negsuc 15) && int_eq n (negsuc 7))) (Some UseFramePointer) (option_and_then f (as_words offset)) how
      (λ are chain.
      let (high, stored) = and_parts (int_eq offset (pos 16)) (int_eq m (negsuc 15) && int_eq n (negsuc 7)) are in
      let (low, last) = and_parts (int_eq m (negsuc 15)) (int_eq n (negsuc 7)) stored in
      let o : offset ≡ pos 16 = (Decides-int_eq offset (pos 16)).0 high in
      let p : m ≡ negsuc 15 = (Decides-int_eq m (negsuc 15)).0 low in
      let q : n ≡ negsuc 7 = (Decides-int_eq n (negsuc 7)).0 last in
      let is : UseFramePointer ≡ how = cc in
      followed-gives registers words register offset m n fp ra 16 (pos 0) (pos 1) first caller at_29 o (rw (o, p) refl) (rw (o, q) refl) fp_saved ra_saved (subst Means (sym is) h))
      (λ _ offsets.
      let (x, scaled, on) = and_then-some f (as_words offset) how offsets in
      let (y, fp_at, further) = and_then-some (g x) (as_signed_words (offset +ℤ m)) how on in
      let (z, ra_at, is) = option_map-some (UseFramepointerWithOffsets x y) (as_signed_words (offset +ℤ n)) how further in
      followed-gives registers words register offset m n fp ra (8 * x) y z first caller at_29 (words-is offset x scaled)
      (signed_words-is (offset +ℤ m) y fp_at) (signed_words-is (offset +ℤ n) z ra_at) fp_saved ra_saved (subst Means (sym is) h))
      says

  law-fp : (register : Register) (offset : ℤ) (fp ra : Option (RegisterRule ℕ)) (where_fp where_ra : Saved) → register.0 ≡ 29 → saved_by fp ≡ Some where_fp → saved_by ra ≡ Some where_ra
      → from_fp offset where_fp where_ra ≡ Some how → Means how → row_answer registers words (row_at register offset fp ra) ≡ Some caller
  law-fp register offset fp ra InRegister InRegister at_29 fp_saved ra_saved says h = cc
  law-fp register offset fp ra InRegister (FromCfa n) at_29 fp_saved ra_saved says h = cc
  law-fp register offset fp ra (FromCfa m) InRegister at_29 fp_saved ra_saved says h = cc
  law-fp register offset fp ra (FromCfa m) (FromCfa n) at_29 fp_saved ra_saved says h = law-followed register offset m n fp ra at_29 fp_saved ra_saved says h

  -- by the CFA
  law-cfa : (cfa : CfaRule ℕ) (fp ra : Option (RegisterRule ℕ)) (where_fp where_ra : Saved) → saved_by fp ≡ Some where_fp → saved_by ra ≡ Some where_ra
      → from_cfa cfa ra where_fp where_ra ≡ Some how → Means how → row_answer registers words (record { cfa = cfa; fp = fp; ra = ra }) ≡ Some caller
  law-cfa (Expression expression) fp ra where_fp where_ra fp_saved ra_saved says h = cc
  law-cfa (RegisterAndOffset register offset) fp ra where_fp where_ra fp_saved ra_saved says h =
      by_test (register.0 == 31) (from_sp offset ra where_fp where_ra) (if register.0 == 29 then from_fp offset where_fp where_ra else None) how
      (λ at_31 by_sp. law-sp register offset fp ra where_fp where_ra (eqb-true register.0 31 at_31) fp_saved ra_saved by_sp h)
      (λ _ other. by_test (register.0 == 29) (from_fp offset where_fp where_ra) None how
      (λ at_29 by_fp. law-fp register offset fp ra where_fp where_ra (eqb-true register.0 29 at_29) fp_saved ra_saved by_fp h)
      (λ _ none. cc)
      other)
      says

-- where a rule says a row, and answers a caller, the row gives that caller
pub law : (parts : Parts ℕ) (how : UnwindRuleAarch64) (first : Bool) (registers : UnwindRegsAarch64) (words : Words) (caller : Caller UnwindRegsAarch64)
    → scaled_rule parts ≡ Some how → rule_meaning how first registers words ≡ Answers caller → row_answer registers words parts ≡ Some caller
law parts how first registers words caller says h =
    let g : Saved → Saved → Option UnwindRuleAarch64 = λ fp ra. from_cfa parts.cfa parts.ra fp ra in
    let f : Saved → Option UnwindRuleAarch64 = λ fp. option_and_then (g fp) (saved_by parts.ra) in
    let (where_fp, fp_saved, on) = and_then-some f (saved_by parts.fp) how says in
    let (where_ra, ra_saved, by_cfa) = and_then-some (g where_fp) (saved_by parts.ra) how on in
    law-cfa registers words first how caller parts.cfa parts.fp parts.ra where_fp where_ra fp_saved ra_saved by_cfa h
