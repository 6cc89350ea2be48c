use Rattle.std.proofs.Common.{◌≡◌, ℕ, ◌*◌, ℤ, pos, ◌*ℤ◌, Bool, ap, sym, ◌∙◌, rules, SFits, w16, w64, to_z, of_z}
use Rattle.std.proofs.lemmas.Int.{to_z-of_z}
use Rattle.framehop_registers.specs.Callback.{Words}
use Rattle.framehop_rules.specs.Outcome.{Outcome, outcome_of}
use Rattle.framehop_rules.specs.RuleMeaning.{StackFrame, moves, restored_frame}
use Rattle.framehop_rules.specs.declared.x86_64.unwind_rule.UnwindRuleX86_64.{UnwindRuleX86_64}
use Rattle.framehop_rules.specs.declared.x86_64.unwind_rule.UnwindRuleX86_64.TheVariants.{OffsetSpAndRestoreBp}
use Rattle.framehop_registers.specs.declared.x86_64.unwindregs.UnwindRegsX86_64.{UnwindRegsX86_64}
use Rattle.framehop_registers.proofs.Laws.{over_weaker}
use Rattle.framehop_rules.proofs.x86_64.unwind_rule.UnwindRuleX86_64.caller_frame.Goals as goal

-- the moves that restore the frame pointer, at offsets in bytes
restoring : (rule : UnwindRuleX86_64) (is_first : Bool) (registers : UnwindRegsX86_64) (words : Words) (x : ℕ) (y : ℤ)
    (bytes : ℕ) (offset : ℤ) (outcome : Outcome StackFrame) → SFits w16 y → SFits w64 offset → rule ≡ OffsetSpAndRestoreBp x y
    → bytes ≡ 8 * x → offset ≡ pos 8 *ℤ to_z w16 (of_z w16 y)
    → outcome ≡ restored_frame is_first registers words bytes (to_z w64 (of_z w64 offset))
    → outcome ≡ moves rule is_first registers words
restoring rule is_first registers words x y bytes offset outcome fits wide rule_is bytes_is offset_is is =
    is
    ∙ ap (λ b. restored_frame is_first registers words b (to_z w64 (of_z w64 offset))) bytes_is
    ∙ ap (λ o. restored_frame is_first registers words (8 * x) o)
    (to_z-of_z w64 offset wide ∙ offset_is ∙ ap (λ z. pos 8 *ℤ z) (to_z-of_z w16 y fits))
    ∙ sym (ap (λ r. moves r is_first registers words) rule_is)

pub returns-in-OffsetSpAndRestoreBp-clause-moves :
    goal.returns-in-OffsetSpAndRestoreBp-clause-moves
returns-in-OffsetSpAndRestoreBp-clause-moves g c =
    let fits : SFits w16 c.in-OffsetSpAndRestoreBp.bp_storage_offset_from_sp_by_8 = search rules in
    let wide : SFits w64 c.signed_bytes_of.result = search rules in
    over_weaker c.raise_sp_and_restore_bp.ensures.moves (λ words is.
    let moved : outcome_of c.raise_sp_and_restore_bp.result ≡ moves c.args.self c.args.is_first_frame c.args.regs.now words =
    restoring c.args.self c.args.is_first_frame c.args.regs.now words _ _ _ _ (outcome_of c.raise_sp_and_restore_bp.result) fits wide
    c.in-OffsetSpAndRestoreBp.is c.bytes_of-in-OffsetSpAndRestoreBp.ensures c.signed_bytes_of.ensures is in
    search rules)
