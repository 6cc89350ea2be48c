-- A rule's list undoes the prolog that is its reverse.
use Rattle.std.proofs.Common.{◌≡◌, ◌∙◌, ℕ, ◌-◌, ◌*◌, ◌<◌, ◌≤◌, ◌^◌, inr, Bool, List, [], ◌∷◌, get_or, ap, sym, subst, arith}
use Rattle.std.specs.Prelude.{pos, ◌+ℤ◌, Some}
use Rattle.framehop_registers.specs.Callback.{Words}
use Rattle.framehop_registers.specs.Registers.{HasAllRegisters, dwarf_number, sp_of, register_of, with_register}
use Rattle.framehop_registers.specs.declared.x86_64.unwindregs.Reg.TheVariants.{RSP}
use Rattle.framehop_registers.specs.declared.x86_64.unwindregs.UnwindRegsX86_64.{UnwindRegsX86_64}
use Rattle.framehop_rules.specs.Outcome.{Outcome, Answers, Caller, and_then, address, word}
use Rattle.framehop_rules.specs.RuleMeaning.{rule_meaning}
use Rattle.framehop_rules.specs.Sequences.{registers_after_operation, registers_after_operations, sequence_meaning}
use Rattle.framehop_rules.specs.declared.x86_64.offset_or_pop.OffsetOrPop.{OffsetOrPop}
use Rattle.framehop_rules.specs.declared.x86_64.offset_or_pop.OffsetOrPop.TheVariants as part
use Rattle.framehop_rules.specs.declared.x86_64.unwind_rule.UnwindRuleX86_64.TheVariants.{JustReturn}
use Rattle.framehop_pe.specs.Prologs.{AreDone, IsDone, IsPartOf, IsReturnFrom, State}
use Rattle.framehop_pe.proofs.RuleAnswers.{and_then-answers, sum-answers, word-answers, return-answers, sp-written, all-written, sp-back, push-back}
use Rattle.framehop_pe.proofs.Followed.{IsFollowed, AreFollowed}

-- each word that the map has from an address on stands in memory
abbrev IsPartFrom : ℕ → Words → Words → Type 0
IsPartFrom from words memory = (at value : ℕ) → from ≤ at → words at ≡ Some value → memory at ≡ Some value

-- a step back: the registers are those before, and the map is part of the memory there
record IsBack (before : State) (words : Words) (next : UnwindRegsX86_64) : Type 0 where
  registers : next ≡ before.registers
  part : IsPartFrom (sp_of before.registers) words before.memory

-- what is kept by what was done
record IsBelow (before after : State) : Type 0 where
  all : HasAllRegisters after.registers
  low : sp_of after.registers ≤ sp_of before.registers

done-below : (operation : OffsetOrPop) (before after : State) → HasAllRegisters before.registers → IsDone operation before after → IsBelow before after
done-below (part.OffsetBy8 x) before after all done = record {
  all = let P : UnwindRegsX86_64 → Type 0 = λ r. HasAllRegisters r in subst P (sym done.registers) (all-written before.registers RSP (sp_of before.registers - 8 * x) all);
  low = let at = ap sp_of done.registers ∙ sp-written before.registers (sp_of before.registers - 8 * x) all in omega (arith, at);
}
done-below (part.Pop register) before after all done = record {
  all = let P : UnwindRegsX86_64 → Type 0 = λ r. HasAllRegisters r in subst P (sym done.registers) (all-written before.registers RSP (sp_of before.registers - 8) all);
  low = let at = ap sp_of done.registers ∙ sp-written before.registers (sp_of before.registers - 8) all in omega (arith, at);
}
done-below part.None before after all done = absurd done

all-below : (operations : List OffsetOrPop) (before after : State) → HasAllRegisters before.registers → AreDone operations before after → IsBelow before after
all-below [] before after all same =
    let P : State → Type 0 = λ s. IsBelow before s in
    subst P same (record { all = all; low = omega arith })
all-below (operation ∷ operations) before after all (between, earlier, last) =
    let first = all-below operations before between all earlier in
    let second = done-below operation between after first.all last in
    record { all = second.all; low = omega (arith, first.low, second.low) }

-- one operation leads back over what was done last
back : (operation : OffsetOrPop) (before after : State) (words : Words) (next : UnwindRegsX86_64) → IsFollowed operation → HasAllRegisters before.registers
    → IsDone operation before after → IsPartFrom (sp_of after.registers) words after.memory
    → registers_after_operation operation after.registers words ≡ Answers next → IsBack before words next
back (part.OffsetBy8 x) before after words next followed all done part is =
    let b = before.registers in
    let low = ap sp_of done.registers ∙ sp-written b (sp_of b - 8 * x) all in
    let (s, s_is, made) = and_then-answers (address (pos (sp_of after.registers) +ℤ pos (8 * x))) (λ sp. Answers (with_register after.registers RSP sp)) next is in
    let (up, fits) = sum-answers (sp_of after.registers) (8 * x) s s_is in
    let top : s ≡ sp_of b = omega (arith, up, low, done.room) in
    let last : with_register after.registers RSP s ≡ next = cc in
    record {
      registers = sym last ∙ ap (λ (r : UnwindRegsX86_64). with_register r RSP s) done.registers
          ∙ ap (λ (k : ℕ). with_register (with_register b RSP (sp_of b - 8 * x)) RSP k) top ∙ sp-back b (sp_of b - 8 * x);
      part = λ at value from there. ap (λ (m : Words). m at) (sym done.memory) ∙ part at value (omega (arith, low)) there;
    }
back (part.Pop register) before after words next followed all done part is =
    let b = before.registers in
    let a = after.registers in
    let low = ap sp_of done.registers ∙ sp-written b (sp_of b - 8) all in
    let rest : ℕ → Outcome UnwindRegsX86_64 = λ value. and_then (address (pos (sp_of a) +ℤ pos 8)) (λ sp. Answers (with_register (with_register a register value) RSP sp)) in
    let (value, value_is, more) = and_then-answers (word words (sp_of a)) rest next is in
    let (s, s_is, made) = and_then-answers (address (pos (sp_of a) +ℤ pos 8)) (λ sp. Answers (with_register (with_register a register value) RSP sp)) next more in
    let (up, fits) = sum-answers (sp_of a) 8 s s_is in
    let top : s ≡ sp_of b = omega (arith, up, low, done.room) in
    let last : with_register (with_register a register value) RSP s ≡ next = cc in
    let stored = sym (part (sp_of a) value (omega arith) (word-answers words (sp_of a) value value_is)) ∙ ap after.memory low ∙ done.stored in
    let value_was : value ≡ register_of b register = cc in
    record {
      registers = sym last
          ∙ ap (λ (r : UnwindRegsX86_64). with_register (with_register r register value) RSP s) done.registers
          ∙ ap (λ (v : ℕ). with_register (with_register (with_register b RSP (sp_of b - 8)) register v) RSP s) value_was
          ∙ ap (λ (k : ℕ). with_register (with_register (with_register b RSP (sp_of b - 8)) register (register_of b register)) RSP k) top
          ∙ push-back b register (sp_of b - 8) followed;
      part = λ at value from there. sym (done.kept at (inr from)) ∙ part at value (omega (arith, low)) there;
    }
back part.None before after words next followed all done part is = absurd followed

-- and all of them over all that was done
all-back : (operations : List OffsetOrPop) (before after : State) (words : Words) (next : UnwindRegsX86_64) → AreFollowed operations → HasAllRegisters before.registers
    → AreDone operations before after → IsPartFrom (sp_of after.registers) words after.memory
    → registers_after_operations operations after.registers words ≡ Answers next → IsBack before words next
all-back [] before after words next followed all same part is =
    let last : after.registers ≡ next = cc in
    let P : State → Type 0 = λ s. IsPartFrom (sp_of s.registers) words s.memory in
    record { registers = sym last ∙ sym (ap (λ (s : State). s.registers) same); part = subst P (sym same) part }
all-back (operation ∷ operations) before after words next followed all (between, earlier, last) part is =
    let (mid, mid_is, rest) = and_then-answers (registers_after_operation operation after.registers words) (λ r. registers_after_operations operations r words) next is in
    let there = all-below operations before between all earlier in
    let one = back operation between after words mid followed.0 there.all last part mid_is in
    all-back operations before between words next followed.1 all earlier one.part
    (ap (λ (r : UnwindRegsX86_64). registers_after_operations operations r words) (sym one.registers) ∙ rest)

pub undoes : (operations : List OffsetOrPop) (is_first : Bool) (before after : State) (words : Words) (caller : Caller UnwindRegsX86_64) → AreFollowed operations → HasAllRegisters before.registers
    → AreDone operations before after → IsPartOf words after.memory → sequence_meaning operations is_first after.registers words ≡ Answers caller → IsReturnFrom before caller
undoes operations is_first before after words caller followed all done part is =
    let (next, next_is, rest) = and_then-answers (registers_after_operations operations after.registers words) (λ r. rule_meaning JustReturn is_first r words) caller is in
    let first = all-back operations before after words next followed all done (λ at value from there. part at value there) next_is in
    let left = return-answers is_first before.registers words caller (ap (λ (r : UnwindRegsX86_64). rule_meaning JustReturn is_first r words) (sym first.registers) ∙ rest) in
    record {
      address = first.part (sp_of before.registers) caller.return_address (omega arith) left.there;
      same = λ register. ap (λ (l : List ℕ). get_or l (dwarf_number register) 0) left.regs;
    }

-- the present stack pointer is an address
pub after-fits : (operations : List OffsetOrPop) (before after : State) → HasAllRegisters before.registers → AreDone operations before after → sp_of before.registers < 2 ^ 64 → sp_of after.registers < 2 ^ 64
after-fits operations before after all done fits = let down = (all-below operations before after all done).low in omega arith
