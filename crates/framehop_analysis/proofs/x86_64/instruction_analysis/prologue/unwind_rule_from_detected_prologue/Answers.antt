use Rattle.std.proofs.Common.{◌∙◌, ap, sym, subst, List, ℕ}
use Rattle.framehop_analysis.specs.Prologue.{IsLongestRun, rule_of_pushes}
use Rattle.framehop_analysis.specs.PrologueViews.{is_expected}
use Rattle.framehop_analysis.proofs.PrologueReading.{read_prologue, no_prologue}
use Rattle.framehop_analysis.proofs.x86_64.instruction_analysis.prologue.unwind_rule_from_detected_prologue.Goals as goal

pub returns-then-not-is_expected_in_prologue : goal.returns-then-not-is_expected_in_prologue
returns-then-not-is_expected_in_prologue c =
    no_prologue c.args.text_bytes.now c.args.pc_offset (sym (ap is_expected c.split_at.ensures.back) ∙ sym c.is_expected_in_prologue.ensures ∙ c.if-not-is_expected_in_prologue.true)

pub returns : goal.returns
returns c =
    let (found, run, counted) = c.pushes_at_end-pushes.ensures.run in
    let prefix = c.pushes_at_end-pushes.result.1.now in
    read_prologue c.args.text_bytes.now c.args.pc_offset prefix found c.ends_with_setup.result c.rule_of_pushes.result
    (sym (ap is_expected c.split_at.ensures.back) ∙ sym c.is_expected_in_prologue.ensures ∙ c.if-not-is_expected_in_prologue.false)
    (subst (λ (bytes : List ℕ). IsLongestRun bytes prefix found) c.split_at.ensures.front run) c.ends_with_setup.ensures
    (c.rule_of_pushes.ensures ∙ ap (λ n. rule_of_pushes c.ends_with_setup.result n) counted)
