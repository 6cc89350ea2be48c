use Rattle.std.proofs.Common.{rules, ◌≡◌, ap, ◌∙◌, ℕ, ℤ, pos, ◌+ℤ◌, SFits, w16, to_z, of_z}
use Rattle.std.proofs.lemmas.Int.{to_z-of_z}
use Rattle.std.proofs.lemmas.Result.{err_from_is_err_and}
use Rattle.framehop_registers.specs.Callback.{Words}
use Rattle.framehop_rules.specs.Outcome.{Outcome, Answers, Refuses, and_then, address}
use Rattle.framehop_rules.specs.RuleMeaningAarch64.{stored_word, stored_frame}
use Rattle.framehop_registers.proofs.Laws.{over_both}
use Rattle.framehop_rules.proofs.aarch64.unwind_rule.restore_fp_and_lr.Goals as goal

-- the frame, from its stack pointer and its two reads
from_parts : (words : Words) (base bytes sp lr : ℕ) (fp_offset lr_offset : ℤ) (fp : Outcome ℕ) → SFits w16 fp_offset → SFits w16 lr_offset
    → Answers sp ≡ address (pos base +ℤ pos bytes) → Answers lr ≡ stored_word words base (to_z w16 (of_z w16 lr_offset))
    → fp ≡ stored_word words base (to_z w16 (of_z w16 fp_offset))
    → and_then fp (λ fp. Answers (lr, sp, fp)) ≡ stored_frame words base bytes fp_offset lr_offset
from_parts words base bytes sp lr fp_offset lr_offset fp fp_fits lr_fits sp_is lr_is fp_is =
    let lr_there : Answers lr ≡ stored_word words base lr_offset = lr_is ∙ ap (stored_word words base) (to_z-of_z w16 lr_offset lr_fits) in
    let fp_there : fp ≡ stored_word words base fp_offset = fp_is ∙ ap (stored_word words base) (to_z-of_z w16 fp_offset fp_fits) in
    rw (← sp_is, ← lr_there, ← fp_there)

pub returns-in_err-fp-clause-moves : goal.returns-in_err-fp-clause-moves
returns-in_err-fp-clause-moves g c =
    let fp_fits : SFits w16 c.args.fp_offset = search rules in
    let lr_fits : SFits w16 c.args.lr_offset = search rules in
    let from = err_from_is_err_and c.from_residual-in_err-fp.result c.from_residual-in_err-fp.ensures.1 in
    over_both c.in_ok-lr.ensures.word c.in_err-fp.ensures.word (λ words lr_is fp_is.
    rw (from.1, from.2)
    (from_parts words c.args.base c.args.bytes c.in_ok-sp.sp c.in_ok-lr.lr c.args.fp_offset c.args.lr_offset
    (Refuses c.in_err-fp.field-0.0) fp_fits lr_fits c.in_ok-sp.ensures.sum lr_is fp_is))

pub returns-clause-moves : goal.returns-clause-moves
returns-clause-moves g c =
    let fp_fits : SFits w16 c.args.fp_offset = search rules in
    let lr_fits : SFits w16 c.args.lr_offset = search rules in
    over_both c.in_ok-lr.ensures.word c.in_ok-fp.ensures.word (λ words lr_is fp_is.
    from_parts words c.args.base c.args.bytes c.in_ok-sp.sp c.in_ok-lr.lr c.args.fp_offset c.args.lr_offset
    (Answers c.in_ok-fp.fp) fp_fits lr_fits c.in_ok-sp.ensures.sum lr_is fp_is)
