use Rattle.std.proofs.Common.{arith, ◌≡◌, ◌∙◌, ◌<◌, ap, sym, subst, length}
use Rattle.framehop_rules.specs.CacheViews.{IsLaidOut, layout_shown, sets_shown}
use Rattle.framehop_rules.specs.Slots.{Key, found_in, key_of}
use Rattle.framehop_rules.proofs.CacheSlots.{single-found}
use Rattle.framehop_rules.proofs.rule_cache.CacheSlots.find.Goals as goal

pub returns-in-Singles : goal.returns-in-Singles
returns-in-Singles g c =
    let items = c.in-Singles.singles.items in
    let key : Key = key_of c.args.address c.args.is_first_frame c.args.modules_generation in
    let laid_out : length items ≡ 509 = subst IsLaidOut c.in-Singles.is c.requires in
    let within : c.single_of.result < length items = let at = c.single_of.ensures in omega arith in
    c.find.ensures
    ∙ single-found items c.single_of.result c.index.result.now key c.single_of.ensures within c.index.ensures
    ∙ ap (λ slots. found_in (layout_shown slots) (sets_shown slots) key) (sym c.in-Singles.is)
