-- The rule that is computed of a sequence is the sequence's.
use Rattle.std.proofs.Common.{◌≡◌, ◌≢◌, ◌∙◌, ℕ, zero, suc, ◌<◌, Bool, true, false, List, [], ◌∷◌, length, map, get_or, Contains, ap, sym, refl, arith, eq-eqb}
use Rattle.std.specs.Prelude.{◌==◌, ◌&&◌, ◌||◌, not, if◌then◌else◌, Option, Some, None, option_map, unwrap_or}
use Rattle.std.proofs.lemmas.List.{get_or_default}
use Rattle.std.proofs.lemmas.List.Elements.{All-cons, All-nil}
use Rattle.std.proofs.lemmas.List.Kept.{AllPairs-cons}
use Rattle.framehop_registers.specs.PopLists.{IsPopList, callee_saved}
use Rattle.framehop_registers.specs.Registers.{dwarf_number}
use Rattle.framehop_registers.specs.declared.x86_64.unwindregs.Reg.{Reg}
use Rattle.framehop_registers.specs.declared.x86_64.unwindregs.Reg.TheVariants.{RAX, RDX, RCX, RBX, RSI, RDI, RBP, RSP, R8, R9, R10, R11, R12, R13, R14, R15}
use Rattle.framehop_rules.specs.Sequences.{IsRuleFor, IsRuleOf, offset_then_pops, pop_rule}
use Rattle.framehop_rules.specs.declared.x86_64.offset_or_pop.OffsetOrPop.{OffsetOrPop}
use Rattle.framehop_rules.specs.declared.x86_64.offset_or_pop.OffsetOrPop.TheVariants as part
use Rattle.framehop_rules.specs.declared.x86_64.unwind_rule.UnwindRuleX86_64.{UnwindRuleX86_64}
use Rattle.framehop_pe.specs.PartRules.{is_among, is_pop_list, popped_in, popping_rule, rule_of_parts}

-- ---- registers by their numbers

numbered : List Reg
numbered = RAX ∷ RDX ∷ RCX ∷ RBX ∷ RSI ∷ RDI ∷ RBP ∷ RSP ∷ R8 ∷ R9 ∷ R10 ∷ R11 ∷ R12 ∷ R13 ∷ R14 ∷ R15 ∷ []

register-back : (register : Reg) → get_or numbered (dwarf_number register) RAX ≡ register
unfolding numbered
register-back RAX = refl
register-back RDX = refl
register-back RCX = refl
register-back RBX = refl
register-back RSI = refl
register-back RDI = refl
register-back RBP = refl
register-back RSP = refl
register-back R8 = refl
register-back R9 = refl
register-back R10 = refl
register-back R11 = refl
register-back R12 = refl
register-back R13 = refl
register-back R14 = refl
register-back R15 = refl

same-register : (one other : Reg) → (dwarf_number one == dwarf_number other) ≡ true → one ≡ other
same-register one other same =
    let e : dwarf_number one ≡ dwarf_number other = grind (arith, same) in
    sym (register-back one) ∙ ap (λ n. get_or numbered n RAX) e ∙ register-back other

-- ---- lists of registers

found : (register : Reg) (registers : List Reg) → is_among registers register ≡ true → Contains registers register
found register [] is = cc
found register (x ∷ xs) is = by (dwarf_number x == dwarf_number register) refl is (λ later. found register xs later)
  where
    by : (b : Bool) → (dwarf_number x == dwarf_number register) ≡ b → (b || is_among xs register) ≡ true → (is_among xs register ≡ true → Contains xs register) → Contains (x ∷ xs) register
    by true same is more = (0, omega arith, same-register x register same)
    by false other is more = let (k, inside, at) = more is in (suc k, omega (arith, inside), at)

or-true : (b c : Bool) → c ≡ true → (b || c) ≡ true
or-true true c is = refl
or-true false c is = is

there : (register : Reg) (registers : List Reg) (k : ℕ) → k < length registers → get_or registers k register ≡ register → is_among registers register ≡ true
there register [] k inside at = absurd (omega (arith, inside))
there register (x ∷ xs) zero inside at = ap (λ b. b || is_among xs register) (eq-eqb _ _ (ap dwarf_number at))
there register (x ∷ xs) (suc k) inside at = or-true _ _ (there register xs k (omega (arith, inside)) at)

both : (a b : Bool) → (a && b) ≡ true → (a ≡ true) × (b ≡ true)
both true b is = (refl, is)
both false b is = cc

neither : (b : Bool) → not b ≡ true → b ≡ false
neither true is = cc
neither false is = refl

differs : Reg → Reg → Type 0
differs earlier later = earlier ≢ later

pub pops-made : (registers : List Reg) → is_pop_list registers ≡ true → IsPopList registers
unfolding differs
pops-made [] is = record { saved = All-nil (Contains callee_saved); distinct = λ i j d below inside. absurd (omega (arith, inside)) }
pops-made (register ∷ more) is =
    let (saved, others) = both _ _ is in
    let (new, rest) = both _ _ others in
    let pops = pops-made more rest in
    record {
      saved = All-cons (Contains callee_saved) register more (found register callee_saved saved) pops.saved;
      distinct = AllPairs-cons differs register more
          (λ k d inside same. absurd (let again = there register more k inside (get_or_default more k register d inside ∙ sym same) in let never = neither _ new in cc))
          pops.distinct;
    }

pub pops-tested : (registers : List Reg) → IsPopList registers → is_pop_list registers ≡ true
pops-tested [] pops = refl
pops-tested (register ∷ more) pops =
    let (k, inside, at) = pops.saved 0 register (omega arith) in
    let rest = pops-tested more (record {
      saved = λ k d inside. pops.saved (suc k) d (omega (arith, inside));
      distinct = λ i j d below inside. pops.distinct (suc i) (suc j) d (omega (arith, below)) (omega (arith, inside));
    }) in
    all (there register callee_saved k inside at) (new (is_among more register) refl) rest
  where
    all : {a b c : Bool} → a ≡ true → b ≡ false → c ≡ true → (a && (not b && c)) ≡ true
    all x y z = rw (x, y, z) refl

    new : (b : Bool) → is_among more register ≡ b → b ≡ false
    new true is = let (k, inside, at) = found register more is in absurd (pops.distinct 0 (suc k) register (omega arith) (omega (arith, inside)) (sym at))
    new false is = refl

-- ---- sequences

popped-pops : (registers : List Reg) → popped_in (map part.Pop registers) ≡ Some registers
popped-pops [] = refl
popped-pops (register ∷ more) = ap (option_map (λ more. register ∷ more)) (popped-pops more)

only-pops : (parts : List OffsetOrPop) (registers : List Reg) → popped_in parts ≡ Some registers → parts ≡ map part.Pop registers
only-pops [] registers is = let e : [] ≡ registers = cc in ap (map part.Pop) e
only-pops (part.OffsetBy8 words ∷ parts) registers is = cc
only-pops (part.None ∷ parts) registers is = cc
only-pops (part.Pop register ∷ parts) registers is = by (popped_in parts) (λ more before. only-pops parts more before) is
  where
    by : (o : Option (List Reg)) → ((more : List Reg) → o ≡ Some more → parts ≡ map part.Pop more) → option_map (λ more. register ∷ more) o ≡ Some registers
        → (part.Pop register ∷ parts) ≡ map part.Pop registers
    by (Some more) before is = let e : (register ∷ more) ≡ registers = cc in ap (λ l. part.Pop register ∷ l) (before more refl) ∙ ap (map part.Pop) e
    by None before is = cc

-- what was popped where there is a rule
record Popping (offset : ℕ) (popped : Option (List Reg)) (rule : UnwindRuleX86_64) : Type 0 where
  registers : List Reg
  is_popped : popped ≡ Some registers
  pops : IsPopList registers
  is : rule ≡ pop_rule offset registers

popping : (offset : ℕ) (popped : Option (List Reg)) (rule : UnwindRuleX86_64) → popping_rule offset popped ≡ Some rule → Popping offset popped rule
popping offset None rule is = cc
popping offset (Some registers) rule is = by (is_pop_list registers) refl is
  where
    by : (b : Bool) → is_pop_list registers ≡ b → (if b then Some (pop_rule offset registers) else None) ≡ Some rule → Popping offset (Some registers) rule
    by true tested is = record { registers = registers; is_popped = refl; pops = pops-made registers tested; is = let e : pop_rule offset registers ≡ rule = cc in sym e }
    by false other is = cc

-- a rule that is computed
rule-made : (parts : List OffsetOrPop) (rule : UnwindRuleX86_64) → rule_of_parts parts ≡ Some rule → IsRuleOf parts rule
unfolding rule_of_parts
rule-made [] rule is = let p = popping 0 (Some []) rule is in record {
  offset = None;
  registers = p.registers;
  sequence = only-pops [] p.registers p.is_popped;
  pops = p.pops;
  is = p.is;
}
rule-made (part.OffsetBy8 words ∷ parts) rule is = let p = popping words (popped_in parts) rule is in record {
  offset = Some words;
  registers = p.registers;
  sequence = ap (λ l. part.OffsetBy8 words ∷ l) (only-pops parts p.registers p.is_popped);
  pops = p.pops;
  is = p.is;
}
rule-made (part.Pop register ∷ parts) rule is = let p = popping 0 (popped_in (part.Pop register ∷ parts)) rule is in record {
  offset = None;
  registers = p.registers;
  sequence = only-pops (part.Pop register ∷ parts) p.registers p.is_popped;
  pops = p.pops;
  is = p.is;
}
rule-made (part.None ∷ parts) rule is = cc

popping-tested : (offset : ℕ) (registers : List Reg) (popped : Option (List Reg)) → popped ≡ Some registers → is_pop_list registers ≡ true → popping_rule offset popped ≡ Some (pop_rule offset registers)
popping-tested offset registers popped is tested = rw (is, tested) refl

-- each sequence of an offset and pops has its rule
rule-found : (offset : Option ℕ) (registers : List Reg) → IsPopList registers → rule_of_parts (offset_then_pops offset registers) ≡ Some (pop_rule (unwrap_or offset 0) registers)
unfolding rule_of_parts
rule-found (Some words) registers pops = popping-tested words registers _ (popped-pops registers) (pops-tested registers pops)
rule-found None [] pops = refl
rule-found None (register ∷ more) pops = popping-tested 0 (register ∷ more) _ (popped-pops (register ∷ more)) (pops-tested (register ∷ more) pops)

-- the rule that a sequence has is the one that is computed
pub one-rule : (parts : List OffsetOrPop) (rule : Option UnwindRuleX86_64) → IsRuleFor parts rule → rule ≡ rule_of_parts parts
one-rule parts (Some rule) of =
    ap (λ (r : UnwindRuleX86_64). let o : Option UnwindRuleX86_64 = Some r in o) of.is ∙ sym (ap rule_of_parts of.sequence ∙ rule-found of.offset of.registers of.pops)
one-rule parts None none = by (rule_of_parts parts) refl
  where
    by : (o : Option UnwindRuleX86_64) → rule_of_parts parts ≡ o → None ≡ o
    by (Some rule) is = let of = rule-made parts rule is in absurd (none of.offset of.registers of.sequence of.pops)
    by None is = refl

-- the rule that is computed is the sequence's
pub rule-computed : (parts : List OffsetOrPop) → IsRuleFor parts (rule_of_parts parts)
rule-computed parts = by (rule_of_parts parts) refl
  where
    by : (o : Option UnwindRuleX86_64) → rule_of_parts parts ≡ o → IsRuleFor parts o
    by (Some rule) is = rule-made parts rule is
    by None is = λ offset registers sequence pops. absurd (let never = sym is ∙ ap rule_of_parts sequence ∙ rule-found offset registers pops in cc)
