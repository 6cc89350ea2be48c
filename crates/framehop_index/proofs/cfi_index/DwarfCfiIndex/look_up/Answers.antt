-- The search by halves counts the starts at or below the address.
use Rattle.std.proofs.Common.{arith, ◌≡◌, ◌-◌, ◌<◌, suc, length, List, Some, get_or, ap, sym, ◌∙◌}
use Rattle.std.specs.Prelude.{nat_le, option_map}
use Rattle.std.proofs.lemmas.Bool.Decides.{nat_tests}
use Rattle.framehop_index.specs.declared.cfi_index.IndexedFde.{IndexedFde}
use Rattle.framehop_index.specs.CfiIndex.{offset_by_index}
use Rattle.framehop_index.proofs.CfiIndexOrder.{last-at, last-none}
use Rattle.framehop_index.proofs.cfi_index.DwarfCfiIndex.look_up.Goals as goal

pub returns-in-0-clause-found : goal.returns-in-0-clause-found
returns-in-0-clause-found c base listing is =
    let xs : List IndexedFde = c.deref.result.now in
    let none = last-none (λ m. nat_le m.start c.args.rel_lookup_address) xs
    (λ k d h. let above = c.halve_items-halved.ensures.partition.1 k d (omega (arith, c.in-0.is)) h in grind (arith, nat_tests)) in
    sym (ap (option_map (λ m. m.offset)) (rw c.deref.ensures.value at none)) ∙ is.finds c.args.rel_lookup_address

pub returns-in-0-clause-few : goal.returns-in-0-clause-few
returns-in-0-clause-few c base listing is k few =
    let reads = c.halve_items-halved.ensures.few k (rw (c.deref.ensures.value, is.count) few) in omega arith

pub returns-in_default-clause-found : goal.returns-in_default-clause-found
returns-in_default-clause-found c base listing is =
    let xs : List IndexedFde = c.deref.result.now in
    let i = c.halve_items-halved.result.at_or_below - 1 in
    let next : c.halve_items-halved.result.at_or_below ≡ suc i = omega arith in
    let within : i < length xs = omega (arith, c.halve_items-halved.ensures.bound) in
    let found = last-at (λ m. nat_le m.start c.args.rel_lookup_address) xs i c.index.result.now within
    (λ k d h. let below = c.halve_items-halved.ensures.partition.0 k d (omega arith) (omega arith) in grind (arith, nat_tests))
    (λ k d h l. let above = c.halve_items-halved.ensures.partition.1 k d (omega arith) l in grind (arith, nat_tests)) in
    let at : c.index.result.now ≡ get_or xs i c.index.result.now = rw c.deref.ensures.value c.index.ensures in
    let same : offset_by_index c.args.self.now.fdes.items c.args.rel_lookup_address ≡ Some c.index.result.now.offset
    = rw (← c.deref.ensures.value) (ap (option_map (λ m. m.offset)) (found ∙ ap (λ m. Some m) (sym at))) in
    sym same ∙ is.finds c.args.rel_lookup_address

pub returns-in_default-clause-few : goal.returns-in_default-clause-few
returns-in_default-clause-few c base listing is k few =
    let reads = c.halve_items-halved.ensures.few k (rw (c.deref.ensures.value, is.count) few) in omega arith

pub returns-in-0-clause-counted : goal.returns-in-0-clause-counted
returns-in-0-clause-counted c base listing is k many = c.halve_items-halved.ensures.enough k (rw (c.deref.ensures.value, is.count) (omega (arith, many)))

pub returns-in_default-clause-counted : goal.returns-in_default-clause-counted
returns-in_default-clause-counted c base listing is k many = c.halve_items-halved.ensures.enough k (rw (c.deref.ensures.value, is.count) (omega (arith, many)))
