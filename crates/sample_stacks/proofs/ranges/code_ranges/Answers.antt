use Rattle.std.proofs.Common.{◌≡◌}
use Rattle.std.proofs.lemmas.Result.{IfOk-weaker}
use Rattle.sample_stacks.specs.Merging.{ranges_of}
use Rattle.sample_stacks.specs.Ranges.{AreApart, AreOfLastMappings}
use Rattle.sample_stacks.proofs.Merging.{apart-ranges, of-last}
use Rattle.sample_stacks.proofs.ranges.code_ranges.Goals as goal

pub returns-clause-apart : goal.returns-clause-apart
returns-clause-apart c =
    IfOk-weaker c.merged_ranges.result (λ found. found.items ≡ ranges_of c.args.mappings.now) (λ found. AreApart 0 found.items)
    (λ found is. rw is (apart-ranges c.args.mappings.now)) c.merged_ranges.ensures

pub returns-clause-of_last : goal.returns-clause-of_last
returns-clause-of_last c =
    IfOk-weaker c.merged_ranges.result (λ found. found.items ≡ ranges_of c.args.mappings.now) (λ found. AreOfLastMappings found.items c.args.mappings.now)
    (λ found is. rw is (of-last c.args.mappings.now)) c.merged_ranges.ensures
