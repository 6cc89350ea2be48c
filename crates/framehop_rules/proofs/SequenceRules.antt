-- Sequences of an offset and pops, and the rules for them.
use Rattle.std.proofs.Common.{◌≡◌, ℕ, zero, suc, ◌*◌, ◌<◌, ◌≤◌, ◌^◌, Bool, List, [], ◌∷◌, ◌++◌, length, length-append, length-take, map, take, option_map, unwrap_or, refl, sym, ap, ◌∙◌, subst, arith, lt-ltb, get_or-take}
use Rattle.std.specs.Prelude.{pos, ◌+ℤ◌, nat_lt, Option, Some, None, Contains}
use Rattle.std.specs.List.{AllZip}
use Rattle.std.proofs.lemmas.Bool.{cond-true}
use Rattle.std.proofs.lemmas.Int.{ints}
use Rattle.std.proofs.lemmas.List.{map_push, set-get_or}
use Rattle.std.proofs.lemmas.List.Elements.{All-take}
use Rattle.framehop_registers.specs.Callback.{Words}
use Rattle.framehop_rules.specs.Outcome.{Outcome, Refuses, Answers, Caller, and_then, address}
use Rattle.framehop_registers.specs.PopLists.{callee_saved, IsPopList, order_number, pop_list}
use Rattle.framehop_rules.specs.Pops.{raised_registers, registers_after_pop, registers_after_pops}
use Rattle.framehop_registers.specs.Registers.{sp_of, with_register}
use Rattle.framehop_rules.specs.RuleMeaning.{raised_frame, returned_caller, rule_meaning, IsValid}
use Rattle.framehop_rules.specs.Sequences.{registers_after_operations, sequence_meaning, offset_then_pops, pop_rule, IsRuleOf, HasNoRule}
use Rattle.framehop_registers.specs.declared.error.Error.TheVariants.{IntegerOverflow}
use Rattle.framehop_rules.specs.declared.x86_64.offset_or_pop.OffsetOrPop.{OffsetOrPop}
use Rattle.framehop_rules.specs.declared.x86_64.offset_or_pop.OffsetOrPop.TheVariants as operation
use Rattle.framehop_rules.specs.declared.x86_64.unwind_rule.UnwindRuleX86_64.{UnwindRuleX86_64}
use Rattle.framehop_registers.specs.declared.x86_64.unwindregs.Reg.{Reg}
use Rattle.framehop_registers.specs.declared.x86_64.unwindregs.Reg.TheVariants.{RSP}
use Rattle.framehop_registers.specs.declared.x86_64.unwindregs.UnwindRegsX86_64.{UnwindRegsX86_64}
use Rattle.framehop_registers.proofs.Laws.{pop_list-fits, pop_list-order_number}
use Rattle.framehop_rules.proofs.Parts.{and_then-same}

-- two lists that agree place by place, with one pair more
pub zip-push : {A B : Type 0} (R : A → B → Type 0) (xs : List A) (ys : List B) (x : A) (y : B) → AllZip R xs ys → R x y
    → AllZip R (xs ++ x ∷ []) (ys ++ y ∷ [])
zip-push R [] [] x y zip last = (last, tt)
zip-push R [] (z ∷ ys) x y zip last = absurd zip
zip-push R (w ∷ xs) [] x y zip last = absurd zip
zip-push R (w ∷ xs) (z ∷ ys) x y zip last = (zip.0, zip-push R xs ys x y zip.1 last)

-- ---- the parts of a sequence

abbrev popped_in : List OffsetOrPop → Option (List Reg)
popped_in [] = Some []
popped_in (operation.Pop register ∷ more) = option_map (λ registers. register ∷ registers) (popped_in more)
popped_in (operation.OffsetBy8 x ∷ more) = None
popped_in (operation.None ∷ more) = None

abbrev Parts : Type 0
Parts = Option ℕ × List Reg

abbrev with_offset : Option ℕ → Option (List Reg) → Option Parts
with_offset offset registers = option_map (λ r. (offset, r)) registers

abbrev parts_of : List OffsetOrPop → Option Parts
parts_of [] = Some (None, [])
parts_of (operation.OffsetBy8 x ∷ more) = with_offset (Some x) (popped_in more)
parts_of (operation.Pop register ∷ more) = with_offset None (popped_in (operation.Pop register ∷ more))
parts_of (operation.None ∷ more) = None

popped_in-pops : (registers : List Reg) → popped_in (map operation.Pop registers) ≡ Some registers
popped_in-pops [] = refl
popped_in-pops (register ∷ more) = ap (λ o. option_map (λ registers. register ∷ registers) o) (popped_in-pops more)

parts_of-sequence : (offset : Option ℕ) (registers : List Reg) → parts_of (offset_then_pops offset registers) ≡ Some (offset, registers)
parts_of-sequence None [] = refl
parts_of-sequence None (register ∷ more) = ap (with_offset None) (popped_in-pops (register ∷ more))
parts_of-sequence (Some x) registers = ap (with_offset (Some x)) (popped_in-pops registers)

-- a sequence has one offset and one list
pub same_parts : (offset other : Option ℕ) (registers others : List Reg) → offset_then_pops offset registers ≡ offset_then_pops other others
    → (offset ≡ other) × (registers ≡ others)
same_parts offset other registers others e =
    let both : Some (offset, registers) ≡ Some (other, others) = sym (parts_of-sequence offset registers) ∙ ap parts_of e ∙ parts_of-sequence other others in
    let pair : (offset, registers) ≡ (other, others) = cc in
    (ap (λ (p : Parts). p.0) pair, ap (λ (p : Parts). p.1) pair)

none-is-some : {A : Type 0} (value : A) → None ≡ Some value → ⊥
none-is-some value e = cc

-- what has no parts has no rule
no_parts : (operations : List OffsetOrPop) → parts_of operations ≡ None → HasNoRule operations
no_parts operations none = λ offset registers e pops.
    none-is-some (offset, registers) (sym none ∙ ap parts_of e ∙ parts_of-sequence offset registers)

popped_in-other : (registers : List Reg) (other : OffsetOrPop) → popped_in (other ∷ []) ≡ None → popped_in (map operation.Pop registers ++ other ∷ []) ≡ None
popped_in-other [] other none = none
popped_in-other (register ∷ more) other none = ap (λ o. option_map (λ registers. register ∷ registers) o) (popped_in-other more other none)

-- an operation that is neither an offset nor a pop
pub other_has_no_rule : (offset : Option ℕ) (registers : List Reg) → HasNoRule (offset_then_pops offset registers ++ operation.None ∷ [])
other_has_no_rule None [] = no_parts (operation.None ∷ []) refl
other_has_no_rule None (register ∷ more) = no_parts _ (ap (with_offset None) (popped_in-other (register ∷ more) operation.None refl))
other_has_no_rule (Some x) registers = no_parts _ (ap (with_offset (Some x)) (popped_in-other registers operation.None refl))

-- an offset behind an offset or behind a pop
pub second_offset_has_no_rule : (offset : Option ℕ) (registers : List Reg) (x : ℕ) → (offset ≡ None → 0 < length registers)
    → HasNoRule (offset_then_pops offset registers ++ operation.OffsetBy8 x ∷ [])
second_offset_has_no_rule None [] x some = absurd (let never : 0 < 0 = some refl in omega arith)
second_offset_has_no_rule None (register ∷ more) x some = no_parts _ (ap (with_offset None) (popped_in-other (register ∷ more) (operation.OffsetBy8 x) refl))
second_offset_has_no_rule (Some y) registers x some = no_parts _ (ap (with_offset (Some y)) (popped_in-other registers (operation.OffsetBy8 x) refl))

-- one pop more
pub pop-push : (offset : Option ℕ) (registers : List Reg) (register : Reg)
    → offset_then_pops offset registers ++ operation.Pop register ∷ [] ≡ offset_then_pops offset (registers ++ register ∷ [])
pop-push None registers register = sym (map_push operation.Pop registers register)
pop-push (Some x) registers register = ap (λ pops. operation.OffsetBy8 x ∷ pops) (sym (map_push operation.Pop registers register))

-- a ninth pop
pub ninth_pop_has_no_rule : (offset : Option ℕ) (registers : List Reg) (register : Reg) → 8 ≤ length registers
    → HasNoRule (offset_then_pops offset registers ++ operation.Pop register ∷ [])
ninth_pop_has_no_rule offset registers register full = λ other others e pops.
    let same = (same_parts offset other (registers ++ register ∷ []) others (sym (pop-push offset registers register) ∙ e)).1 in
    let size = ap length same in
    let longer = length-append registers (register ∷ []) in
    let (fits, _) = pop_list-fits others pops in
    absurd (omega arith)

-- ---- what a rule means

registers_after_operations-pops : (list : List Reg) (registers : UnwindRegsX86_64) (words : Words) → registers_after_operations (map operation.Pop list) registers words ≡ registers_after_pops list registers words
registers_after_operations-pops [] registers words = refl
registers_after_operations-pops (register ∷ more) registers words =
    and_then-same (registers_after_pop register registers words) (λ next. registers_after_operations (map operation.Pop more) next words) (λ next. registers_after_pops more next words)
    (λ next. registers_after_operations-pops more next words)

-- an offset of 0
raised-none : (registers : UnwindRegsX86_64) → sp_of registers < 2 ^ 64 → raised_registers registers 0 ≡ Answers registers
raised-none registers fits =
    let sum : pos (sp_of registers) +ℤ pos 0 ≡ pos (sp_of registers) = omega (arith, ints) in
    let there : address (pos (sp_of registers)) ≡ Answers (sp_of registers) =
    cond-true (nat_lt (sp_of registers) (2 ^ 64)) (Answers (sp_of registers)) (Refuses IntegerOverflow) (lt-ltb (sp_of registers) (2 ^ 64) fits) in
    ap (λ z. and_then (address z) (λ sp. Answers (with_register registers RSP sp))) sum
    ∙ ap (λ o. and_then o (λ sp. Answers (with_register registers RSP sp))) there
    ∙ ap (λ regs. Answers (record registers { regs = regs })) (set-get_or registers.regs 7 0)

module _ (is_first : Bool) (registers : UnwindRegsX86_64) (words : Words) where
  abbrev returned : UnwindRegsX86_64 → Outcome (Caller UnwindRegsX86_64)
  returned next = and_then (raised_frame next 8) (returned_caller next words)

  -- the pops behind an offset
  pops_mean : (x : ℕ) (list : List Reg) → IsPopList list
      → and_then (and_then (raised_registers registers (8 * x)) (λ from. registers_after_pops (pop_list (length list) (order_number list)) from words)) returned
      ≡ and_then (and_then (raised_registers registers (8 * x)) (λ next. registers_after_operations (map operation.Pop list) next words)) returned
  pops_mean x list pops =
      ap (λ o. and_then o returned)
      (ap (λ l. and_then (raised_registers registers (8 * x)) (λ from. registers_after_pops l from words)) (pop_list-order_number list pops)
      ∙ and_then-same (raised_registers registers (8 * x)) (λ next. registers_after_pops list next words) (λ next. registers_after_operations (map operation.Pop list) next words) (λ next. sym (registers_after_operations-pops list next words)))

  -- the same without an offset
  pops_mean_alone : (list : List Reg) → IsPopList list → sp_of registers < 2 ^ 64
      → and_then (and_then (raised_registers registers 0) (λ from. registers_after_pops (pop_list (length list) (order_number list)) from words)) returned
      ≡ and_then (registers_after_operations (map operation.Pop list) registers words) returned
  pops_mean_alone list pops fits =
      pops_mean 0 list pops
      ∙ ap (λ o. and_then (and_then o (λ next. registers_after_operations (map operation.Pop list) next words)) returned) (raised-none registers fits)

  pub rule_means : (offset : Option ℕ) (list : List Reg) → IsPopList list → sp_of registers < 2 ^ 64
      → rule_meaning (pop_rule (unwrap_or offset 0) list) is_first registers words ≡ sequence_meaning (offset_then_pops offset list) is_first registers words
  rule_means None [] pops fits = refl
  rule_means None (register ∷ more) pops fits = pops_mean_alone (register ∷ more) pops fits
  rule_means (Some zero) [] pops fits = ap (λ o. and_then (and_then o (λ next. Answers next)) returned) (sym (raised-none registers fits))
  rule_means (Some zero) (register ∷ more) pops fits = pops_mean 0 (register ∷ more) pops
  rule_means (Some (suc x)) list pops fits = pops_mean (suc x) list pops

-- ---- the laws

rule_valid : (offset : ℕ) (list : List Reg) → IsPopList list → IsValid (pop_rule offset list)
rule_valid zero [] pops = tt
rule_valid zero (register ∷ more) pops = pop_list-fits (register ∷ more) pops
rule_valid (suc x) list pops = pop_list-fits list pops

pub rule_of-valid : (operations : List OffsetOrPop) (rule : UnwindRuleX86_64) → IsRuleOf operations rule → IsValid rule
rule_of-valid operations rule of =
    let P : UnwindRuleX86_64 → Type 0 = λ r. IsValid r in
    subst P (sym of.is) (rule_valid (unwrap_or of.offset 0) of.registers of.pops)

pub rule_of-meaning : (operations : List OffsetOrPop) (rule : UnwindRuleX86_64) (is_first : Bool) (registers : UnwindRegsX86_64) (words : Words)
    → IsRuleOf operations rule → sp_of registers < 2 ^ 64
    → rule_meaning rule is_first registers words ≡ sequence_meaning operations is_first registers words
rule_of-meaning operations rule is_first registers words of fits =
    ap (λ r. rule_meaning r is_first registers words) of.is
    ∙ rule_means is_first registers words of.offset of.registers of.pops fits
    ∙ ap (λ s. sequence_meaning s is_first registers words) (sym of.sequence)

pub rule_of-one : (operations : List OffsetOrPop) (rule other : UnwindRuleX86_64) → IsRuleOf operations rule → IsRuleOf operations other → rule ≡ other
rule_of-one operations rule other one two =
    let (offset, registers) = same_parts one.offset two.offset one.registers two.registers (sym one.sequence ∙ two.sequence) in
    one.is ∙ ap (λ o. pop_rule (unwrap_or o 0) one.registers) offset ∙ ap (pop_rule (unwrap_or two.offset 0)) registers ∙ sym two.is

-- the first registers of a pop list
front-pops : (n : ℕ) (list : List Reg) → IsPopList list → IsPopList (take n list)
front-pops n list pops = record {
  saved = All-take (λ r. Contains callee_saved r) n list pops.saved;
  distinct = λ i j d below j_in e.
      let size = length-take n list in
      pops.distinct i j d below (omega arith) (sym (get_or-take n list i d (omega arith)) ∙ e ∙ get_or-take n list j d (omega arith));
}

front-of-pops : (front more : List OffsetOrPop) (list : List Reg) → front ++ more ≡ map operation.Pop list → front ≡ map operation.Pop (take (length front) list)
front-of-pops [] more list e = refl
front-of-pops (first ∷ front) more [] e = cc
front-of-pops (first ∷ front) more (register ∷ list) e =
    let head : first ≡ operation.Pop register = cc in
    let tail : front ++ more ≡ map operation.Pop list = cc in
    ap (λ o. o ∷ front) head ∙ ap (λ l. operation.Pop register ∷ l) (front-of-pops front more list tail)

pub none_of-more : (operations more : List OffsetOrPop) → HasNoRule operations → HasNoRule (operations ++ more)
none_of-more [] more none = λ offset registers e pops. none None [] refl (front-pops 0 registers pops)
none_of-more (first ∷ front) more none = λ offset registers e pops. by offset registers e pops
  where
    by : (offset : Option ℕ) (registers : List Reg) → (first ∷ front) ++ more ≡ offset_then_pops offset registers → IsPopList registers → ⊥
    by None registers e pops = none None _ (front-of-pops (first ∷ front) more registers e) (front-pops (length (first ∷ front)) registers pops)
    by (Some x) registers e pops =
        let head : first ≡ operation.OffsetBy8 x = cc in
        let tail : front ++ more ≡ map operation.Pop registers = cc in
        none (Some x) _ (ap (λ o. o ∷ front) head ∙ ap (λ l. operation.OffsetBy8 x ∷ l) (front-of-pops front more registers tail)) (front-pops (length front) registers pops)
