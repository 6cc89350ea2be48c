use Rattle.std.proofs.Common.{◌∙◌, ap, of_z, w32}
use Rattle.std.proofs.lemmas.Int.{to_z-of_z}
use Rattle.framehop_ways.specs.Values.{moved_by}
use Rattle.framehop_ways.proofs.HeldValues.{moved_is_raised}
use Rattle.framehop_ways.proofs.values.raised.Goals as goal

pub returns-else-by-eq0 : goal.returns-else-by-eq0
returns-else-by-eq0 c =
    c.moved.ensures ∙ ap (moved_by c.args.value) (to_z-of_z w32 c.args.by c.ranges.by)
    ∙ moved_is_raised c.args.value c.args.by (λ none. c.if-by-eq0.false (ap (of_z w32) none))
