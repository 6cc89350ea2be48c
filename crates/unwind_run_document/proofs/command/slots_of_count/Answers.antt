use Rattle.std.proofs.Common.{◌≡◌, Ok, ap, refl, true, false}
use Rattle.framehop_rules.specs.Slots.{IsSlotCount}
use Rattle.unwind_run_document.proofs.SlotCounts.{counted, uncounted}
use Rattle.unwind_run_document.proofs.command.slots_of_count.Goals as goal

pub returns-in-Some : goal.returns-in-Some
returns-in-Some c =
    let is : IsSlotCount c.args.count = c.in-Some.ensures.counted.0 refl in
    rw (counted c.args.count is) (ap (λ n. Ok n) c.in-Some.ensures.slots)

pub returns-in-None : goal.returns-in-None
returns-in-None c = rw (uncounted c.args.count (λ is. let e : false ≡ true = c.in-None.ensures.counted.1 is in cc)) refl
