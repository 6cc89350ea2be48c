use Rattle.std.proofs.Common.{◌≡◌, ◌∙◌, sym, subst, List, ℕ, ap, take, true, false}
use Rattle.std.specs.Prelude.{◌||◌, nat_lt}
use Rattle.framehop_analysis.specs.Epilogue.{ends_like_pop}
use Rattle.framehop_analysis.specs.EpilogueViews.{IsPopRun, leaves_function}
use Rattle.framehop_analysis.proofs.EpilogueReading.{read_epilogue, no_epilogue}
use Rattle.framehop_analysis.proofs.x86_64.instruction_analysis.epilogue.unwind_rule_from_detected_epilogue.Goals as goal

pub returns-then-leaves_function : goal.returns-then-leaves_function
returns-then-leaves_function c =
    let pops = c.pops_of-pops.result in
    let (run, is_run, none) = c.pops_of-pops.ensures in
    let before = ap ends_like_pop c.split_at.ensures.front in
    let left : leaves_function (nat_lt 0 pops.count || ends_like_pop (take c.args.pc_offset c.args.text_bytes.now)) pops.suffix.now ≡ true =
    ap (λ test. leaves_function (nat_lt 0 pops.count || test) pops.suffix.now) (sym before) ∙ sym c.leaves_function.ensures ∙ c.if-leaves_function.true in
    read_epilogue c.args.text_bytes.now c.args.pc_offset run pops.count pops.bp_offset_by_8 pops.suffix.now c.rule_of_pops.result
    (subst (λ (bytes : List ℕ). IsPopRun bytes run pops.count pops.bp_offset_by_8 pops.suffix.now) c.split_at.ensures.back is_run) none left c.rule_of_pops.ensures

pub returns-else-leaves_function : goal.returns-else-leaves_function
returns-else-leaves_function c =
    let pops = c.pops_of-pops.result in
    let (run, is_run, none) = c.pops_of-pops.ensures in
    let before = ap ends_like_pop c.split_at.ensures.front in
    let not_left : leaves_function (nat_lt 0 pops.count || ends_like_pop (take c.args.pc_offset c.args.text_bytes.now)) pops.suffix.now ≡ false =
    ap (λ test. leaves_function (nat_lt 0 pops.count || test) pops.suffix.now) (sym before) ∙ sym c.leaves_function.ensures ∙ c.if-leaves_function.false in
    no_epilogue c.args.text_bytes.now c.args.pc_offset run pops.count pops.bp_offset_by_8 pops.suffix.now
    (subst (λ (bytes : List ℕ). IsPopRun bytes run pops.count pops.bp_offset_by_8 pops.suffix.now) c.split_at.ensures.back is_run) none not_left
