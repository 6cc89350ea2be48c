use Rattle.std.proofs.Common.{rules, arith, ◌≡◌, ◌/◌, ◌<◌, ◌^◌, ap, sym, subst, ◌∙◌, length, replicate}
use Rattle.std.proofs.lemmas.List.{length-replicate}
use Rattle.framehop_rules.specs.Slots.{IsPowerOfTwo}
use Rattle.framehop_rules.specs.declared.rule_cache.CacheSlot.TheVariants.{Empty}
use Rattle.framehop_rules.proofs.CacheSlots.{halves, half_positive, singles-new, pairs-new}
use Rattle.framehop_rules.proofs.rule_cache.CacheSlots.new.Goals as goal

pub returns-then-slots-eq-CACHE_ENTRY_COUNT-clause-sets : goal.returns-then-slots-eq-CACHE_ENTRY_COUNT-clause-sets
returns-then-slots-eq-CACHE_ENTRY_COUNT-clause-sets g c =
    let empty : c.in_ok-vec.field-0.items ≡ replicate 509 Empty = c.in_ok-vec.ensures.items_if_clones_equal (λ y h. search rules) in
    singles-new c.args.slots c.in_ok-vec.field-0.items c.if-slots-eq-CACHE_ENTRY_COUNT.true empty

pub returns-clause-sets : goal.returns-clause-sets
returns-clause-sets g c =
    let empty : c.in_ok-vec-2.field-0.items ≡ replicate (c.args.slots / 2) (record { newer = Empty; older = Empty }) = c.in_ok-vec-2.ensures.items_if_clones_equal (λ y h. search rules) in
    pairs-new c.args.slots c.in_ok-vec-2.field-0.items c.if-slots-eq-CACHE_ENTRY_COUNT.false (half_positive c.args.slots c.if-slots-eq-CACHE_ENTRY_COUNT.false c.requires) empty

pub returns-clause-laid_out : goal.returns-clause-laid_out
returns-clause-laid_out g c =
    let empty : c.in_ok-vec-2.field-0.items ≡ replicate (c.args.slots / 2) (record { newer = Empty; older = Empty }) = c.in_ok-vec-2.ensures.items_if_clones_equal (λ y h. search rules) in
    subst IsPowerOfTwo (sym (ap length empty ∙ length-replicate (c.args.slots / 2) (record { newer = Empty; older = Empty })))
    (halves c.args.slots c.if-slots-eq-CACHE_ENTRY_COUNT.false c.requires)
