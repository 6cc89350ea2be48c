use Rattle.std.proofs.Common.{List, map, ap}
use Rattle.std.specs.Prelude.{Ok}
use Rattle.framehop_pe.specs.PartViews.{code_parts_left}
use Rattle.framehop_pe.specs.RuleParts.{operation_part}
use Rattle.framehop_pe_codes.specs.Refusals.{PeResult, result_and_then}
use Rattle.framehop_pe_codes.specs.declared.operation.UnwindOperation.{UnwindOperation}
use Rattle.framehop_pe.proofs.Choices.{chosen, zip-same, rule-same, rule-valid}
use Rattle.framehop_pe.proofs.rules.rule_of_codes.Goals as goal

pub returns-clause-rule : goal.returns-clause-rule
returns-clause-rule c = λ operations left.
    let (items, taken, drains, zip, rule) = c.for_sequence_of_offset_or_pop.ensures in
    chosen code_parts_left c.for_sequence_of_offset_or_pop.result items (map operation_part operations) (record { left = c.args.left }) c.rules_of_sequences.ensures.none drains
    (ap (λ (r : PeResult (List UnwindOperation)). result_and_then r (λ l. Ok (map operation_part l))) left)
    (rule-same items taken c.for_sequence_of_offset_or_pop.result (zip-same items taken zip) rule)

pub returns-clause-valid : goal.returns-clause-valid
returns-clause-valid c =
    let (items, taken, drains, zip, rule) = c.for_sequence_of_offset_or_pop.ensures in
    rule-valid taken c.for_sequence_of_offset_or_pop.result c.rules_of_sequences.ensures.valid rule
