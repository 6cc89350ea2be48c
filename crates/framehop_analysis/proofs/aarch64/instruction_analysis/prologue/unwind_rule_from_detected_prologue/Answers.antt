use Rattle.std.proofs.Common.{None}
use Rattle.framehop_analysis.specs.PrologueInstructionsAarch64.{lowering_of_all}
use Rattle.framehop_analysis.proofs.PrologueReadingAarch64.{ruled, unruled, unexpected, read_prologue}
use Rattle.framehop_analysis.proofs.aarch64.instruction_analysis.prologue.unwind_rule_from_detected_prologue.Goals as goal

pub returns-then-not-may_be_expected : goal.returns-then-not-may_be_expected
returns-then-not-may_be_expected c =
    read_prologue c.args.slice_from_start.now c.args.slice_to_end.now None tt (λ instructions rule there fits is.
    let expected = c.may_be_expected.ensures (lowering_of_all instructions) there.next in
    let none = c.if-not-may_be_expected.true in
    cc)

pub returns-then-not-is_expected : goal.returns-then-not-is_expected
returns-then-not-is_expected c =
    read_prologue c.args.slice_from_start.now c.args.slice_to_end.now None tt (λ instructions rule there fits is.
    let (prefix, found, run, raise_is) = c.restored_before_prologue-restored.ensures.raise in
    let expected = c.is_expected.ensures.1 (unexpected c.args.slice_from_start.now c.args.slice_to_end.now prefix found instructions c.restored_before_prologue-restored.result run raise_is there) in
    let none = c.if-not-is_expected.true in
    cc)

pub returns : goal.returns
returns c =
    let (prefix, found, run, raise_is) = c.restored_before_prologue-restored.ensures.raise in
    let restored = c.restored_before_prologue-restored in
    read_prologue c.args.slice_from_start.now c.args.slice_to_end.now c.rule_of.result
    (ruled c.args.slice_from_start.now c.args.slice_to_end.now prefix found restored.result c.rule_of.result run raise_is restored.ensures.fp restored.ensures.lr
    (c.is_expected.ensures.0 c.if-not-is_expected.false) c.rule_of.ensures.rule)
    (unruled c.args.slice_from_start.now c.args.slice_to_end.now prefix found restored.result c.rule_of.result run raise_is restored.ensures.fp restored.ensures.lr c.rule_of.ensures.none)
