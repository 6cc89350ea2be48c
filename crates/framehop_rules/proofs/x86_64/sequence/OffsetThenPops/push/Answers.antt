use Rattle.std.proofs.Common.{◌≡◌, ◌∷◌, ◌++◌, [], List, length, take, sym, subst, arith, rules, length-take}
use Rattle.framehop_rules.specs.Sequences.{HasNoRule}
use Rattle.framehop_rules.specs.SequenceViews.{taken_operations}
use Rattle.framehop_rules.specs.declared.x86_64.offset_or_pop.OffsetOrPop.{OffsetOrPop}
use Rattle.framehop_rules.proofs.SequenceRules.{other_has_no_rule, second_offset_has_no_rule, ninth_pop_has_no_rule}
use Rattle.framehop_rules.proofs.x86_64.sequence.OffsetThenPops.push.Goals as goal

-- with the operation that it is
with-operation : (taken : List OffsetOrPop) (operation is : OffsetOrPop) → operation ≡ is → HasNoRule (taken ++ is ∷ []) → HasNoRule (taken ++ operation ∷ [])
with-operation taken operation is same none = subst (λ (o : OffsetOrPop). HasNoRule (taken ++ o ∷ [])) (sym same) none

pub returns-in_default-clause-none : goal.returns-in_default-clause-none
returns-in_default-clause-none c =
    let s = c.args.self.now in
    let size = length-take s.count s.registers in
    let eight : length s.registers ≡ 8 = search rules in
    with-operation (taken_operations s) c.args.operation _ c.in-OffsetBy8.is
    (second_offset_has_no_rule s.offset (take s.count s.registers) c.in-OffsetBy8.words (λ _. omega arith))

pub returns-in_default-2-clause-none : goal.returns-in_default-2-clause-none
returns-in_default-2-clause-none c =
    let s = c.args.self.now in
    with-operation (taken_operations s) c.args.operation _ c.in-OffsetBy8.is
    (second_offset_has_no_rule s.offset (take s.count s.registers) c.in-OffsetBy8.words (λ none. search rules))

pub returns-in_default-3-clause-none : goal.returns-in_default-3-clause-none
returns-in_default-3-clause-none c =
    let s = c.args.self.now in
    let size = length-take s.count s.registers in
    let eight : length s.registers ≡ 8 = search rules in
    with-operation (taken_operations s) c.args.operation _ c.in-Pop.is
    (ninth_pop_has_no_rule s.offset (take s.count s.registers) c.in-Pop.register (omega arith))

pub returns-in_default-4-clause-none : goal.returns-in_default-4-clause-none
returns-in_default-4-clause-none c =
    let s = c.args.self.now in
    with-operation (taken_operations s) c.args.operation _ c.in_default.is
    (other_has_no_rule s.offset (take s.count s.registers))
