-- What is known where parts of a rule answer.
use Rattle.std.proofs.Common.{◌≡◌, ◌≢◌, ◌∙◌, ℕ, zero, suc, ◌+◌, ◌<◌, ◌^◌, Bool, true, false, List, [], ◌∷◌, set, Contains, ap, sym, refl, arith, eq-eqb}
use Rattle.std.specs.Prelude.{ℤ, pos, negsuc, ◌+ℤ◌, ◌-ℤ◌, ◌==◌, ◌&&◌, if◌then◌else◌, Option, Some, None, slice_index_or}
use Rattle.std.proofs.lemmas.Bool.{agree_below_at, false≢true}
use Rattle.std.proofs.lemmas.Int.{ints}
use Rattle.std.proofs.lemmas.List.{get_or_default, get_or-set_same, get_or-set_other, set-set, set-get_or, length-set}
use Rattle.framehop_registers.specs.Callback.{Words}
use Rattle.framehop_registers.specs.PopLists.{callee_saved}
use Rattle.framehop_registers.specs.Registers.{HasAllRegisters, dwarf_number, sp_of, bp_of, ip_of, register_of, with_register}
use Rattle.framehop_registers.specs.declared.x86_64.unwindregs.Reg.{Reg}
use Rattle.framehop_registers.specs.declared.x86_64.unwindregs.Reg.TheVariants.{RAX, RSP}
use Rattle.framehop_registers.specs.declared.x86_64.unwindregs.UnwindRegsX86_64.{UnwindRegsX86_64}
use Rattle.framehop_registers.specs.declared.error.Error.{Error}
use Rattle.framehop_registers.specs.declared.error.Error.TheVariants.{DidNotAdvance}
use Rattle.framehop_rules.specs.Outcome.{Outcome, Ends, Refuses, Answers, Caller, and_then, address, word}
use Rattle.framehop_rules.specs.RuleMeaning.{raised_frame, returned_caller, caller_registers, return_address, rule_meaning}
use Rattle.framehop_rules.specs.declared.x86_64.unwind_rule.UnwindRuleX86_64.TheVariants.{JustReturn}

-- the first part answers, and then the second
pub and_then-answers : {A B : Type 0} (first : Outcome A) (next : A → Outcome B) (answer : B) → and_then first next ≡ Answers answer
    → (value : A) × (first ≡ Answers value) × (next value ≡ Answers answer)
and_then-answers Ends next answer is = cc
and_then-answers (Refuses error) next answer is = cc
and_then-answers (Answers value) next answer is = (value, refl, is)

address-answers : (z : ℤ) (a : ℕ) → address z ≡ Answers a → (z ≡ pos a) × (a < 2 ^ 64)
address-answers (pos n) a is = grind arith
address-answers (negsuc n) a is = cc

-- a sum that is an address
pub sum-answers : (base bytes a : ℕ) → address (pos base +ℤ pos bytes) ≡ Answers a → (a ≡ base + bytes) × (a < 2 ^ 64)
sum-answers base bytes a is = let (z, fits) = address-answers (pos base +ℤ pos bytes) a is in (omega (arith, ints, z), fits)

-- the address below one
pub below-answers : (base a : ℕ) → address (pos (base + 8) -ℤ pos 8) ≡ Answers a → a ≡ base
below-answers base a is = let (z, fits) = address-answers (pos (base + 8) -ℤ pos 8) a is in omega (arith, ints, z)

-- a word that is there
pub word-answers : (words : Words) (at value : ℕ) → word words at ≡ Answers value → words at ≡ Some value
word-answers words at value is = by (words at) is
  where
    by : (there : Option ℕ) → word (λ _. there) at ≡ Answers value → there ≡ Some value
    by (Some found) is = let e : found ≡ value = cc in ap (λ (v : ℕ). Some v) e
    by None is = cc

-- ---- registers

saved_at : (k : ℕ) → k < 8 → dwarf_number (slice_index_or callee_saved k RAX) ≢ 7
saved_at k inside same =
    let never = agree_below_at (λ i. dwarf_number (slice_index_or callee_saved i RAX) == 7) (λ _. false) 8 k refl inside in
    absurd (false≢true (sym never ∙ eq-eqb _ _ same))

pub saved_not_sp : (register : Reg) → Contains callee_saved register → dwarf_number register ≢ 7
saved_not_sp register (k, inside, is) same =
    saved_at k inside (ap dwarf_number (get_or_default callee_saved k RAX register inside ∙ is) ∙ same)

set-commute : (l : List ℕ) (i j a b : ℕ) → (i ≡ j → ⊥) → set (set l i a) j b ≡ set (set l j b) i a
set-commute [] i j a b other = refl
set-commute (x ∷ xs) zero zero a b other = absurd (other refl)
set-commute (x ∷ xs) zero (suc j) a b other = refl
set-commute (x ∷ xs) (suc i) zero a b other = refl
set-commute (x ∷ xs) (suc i) (suc j) a b other = ap (λ l. x ∷ l) (set-commute xs i j a b (λ same. other (ap suc same)))

module _ (registers : UnwindRegsX86_64) where
  -- the stack pointer that was written
  pub sp-written : (at : ℕ) → HasAllRegisters registers → sp_of (with_register registers RSP at) ≡ at
  sp-written at all = get_or-set_same registers.regs 7 at 0 (omega (arith, all))

  pub all-written : (register : Reg) (value : ℕ) → HasAllRegisters registers → HasAllRegisters (with_register registers register value)
  all-written register value all = length-set registers.regs (dwarf_number register) value ∙ all

  -- written over with what was there
  pub sp-back : (at : ℕ) → with_register (with_register registers RSP at) RSP (sp_of registers) ≡ registers
  sp-back at =
      ap (λ l. record registers { regs = l }) (set-set registers.regs 7 at (sp_of registers) ∙ set-get_or registers.regs 7 0)

  pub push-back : (register : Reg) (at : ℕ) → dwarf_number register ≢ 7
      → with_register (with_register (with_register registers RSP at) register (register_of registers register)) RSP (sp_of registers) ≡ registers
  push-back register at other =
      let k = dwarf_number register in
      ap (λ l. record registers { regs = l })
      (ap (λ l. set l 7 (sp_of registers)) (set-commute registers.regs 7 k at (register_of registers register) (λ same. other (sym same)))
      ∙ set-set (set registers.regs k (register_of registers register)) 7 at (sp_of registers)
      ∙ ap (λ l. set l 7 (sp_of registers)) (set-get_or registers.regs k 0)
      ∙ set-get_or registers.regs 7 0)

  -- what a return leaves
  pub caller-made : (sp to : ℕ) → (caller_registers registers to sp (bp_of registers)).regs ≡ (with_register registers RSP sp).regs
  caller-made sp to =
      ap (λ b. set (set registers.regs 7 sp) 6 b) (sym (get_or-set_other registers.regs 7 6 sp 0 (λ same. absurd (omega arith))))
      ∙ set-get_or (set registers.regs 7 sp) 6 0

-- ---- a return

pub record Returned (registers : UnwindRegsX86_64) (words : Words) (caller : Caller UnwindRegsX86_64) : Type 0 where
  pub fits : sp_of registers + 8 < 2 ^ 64
  pub there : words (sp_of registers) ≡ Some caller.return_address
  pub regs : caller.registers.regs ≡ (with_register registers RSP (sp_of registers + 8)).regs

tested : (null loops : Bool) (to found : ℕ) (e : Error) → (if null then Ends else if loops then Refuses e else Answers to) ≡ Answers found → to ≡ found
tested true loops to found e is = cc
tested false true to found e is = cc
tested false false to found e is = cc

pub return-answers : (is_first : Bool) (registers : UnwindRegsX86_64) (words : Words) (caller : Caller UnwindRegsX86_64)
    → rule_meaning JustReturn is_first registers words ≡ Answers caller → Returned registers words caller
return-answers is_first registers words caller is =
    let (frame, frame_is, rest) = and_then-answers (raised_frame registers 8) (returned_caller registers words) caller is in
    let (s, s_is, pair) = and_then-answers (address (pos (sp_of registers) +ℤ pos 8)) (λ sp. Answers (sp, bp_of registers)) frame frame_is in
    let (up, fits) = sum-answers (sp_of registers) 8 s s_is in
    let frame_at : (s, bp_of registers) ≡ frame = cc in
    by s up fits (ap (λ (f : ℕ × ℕ). returned_caller registers words f) frame_at ∙ rest)
  where
    by : (s : ℕ) → s ≡ sp_of registers + 8 → s < 2 ^ 64 → returned_caller registers words (s, bp_of registers) ≡ Answers caller → Returned registers words caller
    by s up fits rest =
        let made : ℕ → Outcome (Caller UnwindRegsX86_64) = λ to. Answers (record { return_address = to; registers = caller_registers registers to s (bp_of registers) }) in
        let (to, to_is, caller_is) = and_then-answers (return_address registers words s) made caller rest in
        let test : ℕ → Outcome ℕ = λ to. if to == 0 then Ends else if (s == sp_of registers) && (to == ip_of registers) then Refuses DidNotAdvance else Answers to in
        let (at, at_is, read) = and_then-answers (address (pos s -ℤ pos 8)) (λ at. and_then (word words at) test) to to_is in
        let down = below-answers (sp_of registers) at (ap (λ (k : ℕ). address (pos k -ℤ pos 8)) (sym up) ∙ at_is) in
        let (there, there_is, passed) = and_then-answers (word words at) test to read in
        let same = tested (there == 0) ((s == sp_of registers) && (there == ip_of registers)) there to DidNotAdvance passed in
        let whole : (let c : Caller UnwindRegsX86_64 = record { return_address = to; registers = caller_registers registers to s (bp_of registers) } in c) ≡ caller = cc in
        let to_caller : to ≡ caller.return_address = ap (λ (c : Caller UnwindRegsX86_64). c.return_address) whole in
        record {
          fits = omega (arith, up, fits);
          there = ap words (sym down) ∙ word-answers words at there there_is ∙ ap (λ (v : ℕ). Some v) (same ∙ to_caller);
          regs = sym (ap (λ (c : Caller UnwindRegsX86_64). c.registers.regs) whole) ∙ caller-made registers s to ∙ ap (λ (k : ℕ). (with_register registers RSP k).regs) up;
        }
