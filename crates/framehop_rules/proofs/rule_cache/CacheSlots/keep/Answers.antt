use Rattle.std.proofs.Common.{arith, rules, ◌≡◌, ◌∙◌, ap, sym, length}
use Rattle.framehop_rules.specs.CacheViews.{layout_shown, sets_shown}
use Rattle.framehop_rules.specs.Slots.{Key, key_of, with_kept}
use Rattle.framehop_rules.proofs.CacheSlots.{single-kept, pair-kept}
use Rattle.framehop_rules.proofs.rule_cache.CacheSlots.keep.Goals as goal

pub returns-in-Singles-clause-sets : goal.returns-in-Singles-clause-sets
returns-in-Singles-clause-sets g c =
    let entry = c.args.entry in
    let key : Key = key_of entry.address c.args.is_first_frame entry.modules_generation in
    single-kept c.in-Singles.singles.items c.single_of.result c.with-slot.result key entry.unwind_rule c.single_of.ensures c.with-slot.ensures
    ∙ ap (λ slots. with_kept (layout_shown slots) (sets_shown slots) key entry.unwind_rule) (sym c.in-Singles.is)

pub returns-in-Pairs-clause-sets : goal.returns-in-Pairs-clause-sets
returns-in-Pairs-clause-sets g c =
    let entry = c.args.entry in
    let key : Key = key_of entry.address c.args.is_first_frame entry.modules_generation in
    let place = c.pair_of-place.ensures in
    let counted : c.len.result ≡ length c.in-Pairs.pairs.items = search rules in
    pair-kept c.in-Pairs.pairs.items c.pair_of-place.result c.index_mut-in-Pairs.result.now c.keep.new.self c.with-slot.result key entry.unwind_rule
    (rw counted at place.place) (rw counted at place.within) c.index_mut-in-Pairs.ensures.value c.with-slot.ensures c.keep.ensures
    ∙ ap (λ slots. with_kept (layout_shown slots) (sets_shown slots) key entry.unwind_rule) (sym c.in-Pairs.is)
