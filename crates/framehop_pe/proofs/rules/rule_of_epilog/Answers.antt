use Rattle.std.proofs.Common.{List, map, ap}
use Rattle.std.specs.Prelude.{Option, option_map}
use Rattle.framehop_registers.specs.declared.x86_64.unwindregs.Reg.{Reg}
use Rattle.framehop_errors.specs.declared.pe.PeUnwinderError.TheVariants.{UnwindInfoParseError}
use Rattle.framehop_rules.specs.declared.x86_64.offset_or_pop.OffsetOrPop.TheVariants as part
use Rattle.framehop_pe.specs.PartViews.{epilog_parts_left}
use Rattle.framehop_pe.specs.RuleParts.{adjustment_parts}
use Rattle.framehop_pe_codes.specs.Refusals.{or_refusal}
use Rattle.framehop_pe.proofs.Choices.{chosen, zip-same, rule-same, rule-valid}
use Rattle.framehop_pe.proofs.rules.rule_of_epilog.Goals as goal

pub returns-clause-rule : goal.returns-clause-rule
returns-clause-rule c = λ pops left.
    let (items, taken, drains, zip, rule) = c.for_sequence_of_offset_or_pop.ensures in
    let epilog = c.args.epilog in
    chosen epilog_parts_left c.for_sequence_of_offset_or_pop.result items (adjustment_parts epilog.adjustment (map part.Pop pops)) (record { epilog = epilog }) c.rules_of_sequences.ensures.none drains
    (ap (λ (o : Option (List Reg)). or_refusal UnwindInfoParseError (option_map (λ pops. adjustment_parts epilog.adjustment (map part.Pop pops)) o)) left)
    (rule-same items taken c.for_sequence_of_offset_or_pop.result (zip-same items taken zip) rule)

pub returns-clause-valid : goal.returns-clause-valid
returns-clause-valid c =
    let (items, taken, drains, zip, rule) = c.for_sequence_of_offset_or_pop.ensures in
    rule-valid taken c.for_sequence_of_offset_or_pop.result c.rules_of_sequences.ensures.valid rule
