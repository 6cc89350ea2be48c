-- Pops from words that were read before any register was written are those that a rule means.
use Rattle.std.proofs.Common.{◌≡◌, ◌≢◌, ◌∙◌, ℕ, zero, suc, ◌+◌, ◌*◌, ◌^◌, ◌<◌, ◌≤◌, ◌==◌, nat_lt, lt-ltb, Bool, true, false, List, [], ◌∷◌, length, get_or, set, length-take, All, Contains, ap, sym, refl, subst, arith, eq-eqb}
use Rattle.std.specs.Prelude.{pos, ◌+ℤ◌, ◌-ℤ◌, ◌&&◌, if◌then◌else◌, slice_index_or}
use Rattle.std.proofs.lemmas.Bool.{agree_below_at, false≢true}
use Rattle.std.proofs.lemmas.Bool.{cond-true}
use Rattle.std.proofs.lemmas.Int.{ints}
use Rattle.std.proofs.lemmas.List.{get_or_default, get_or-set_same, get_or-set_other, length-set, set-set, set-get_or}
use Rattle.std.proofs.lemmas.List.Elements.{All-take}
use Rattle.framehop_registers.specs.Callback.{Words}
use Rattle.framehop_registers.specs.PopLists.{callee_saved, pop_list, order_count}
use Rattle.framehop_registers.specs.Registers.{HasAllRegisters, dwarf_number, ip_of, sp_of, bp_of, with_ip, with_register, with_values}
use Rattle.framehop_registers.specs.declared.error.Error.TheVariants.{DidNotAdvance, IntegerOverflow}
use Rattle.framehop_registers.specs.declared.x86_64.unwindregs.Reg.{Reg}
use Rattle.framehop_registers.specs.declared.x86_64.unwindregs.Reg.TheVariants.{RAX, RSP}
use Rattle.framehop_registers.specs.declared.x86_64.unwindregs.UnwindRegsX86_64.{UnwindRegsX86_64}
use Rattle.framehop_registers.proofs.Laws.{pop_list-begins}
use Rattle.framehop_rules.specs.Outcome.{Outcome, Ends, Refuses, Answers, Caller, and_then, address, word}
use Rattle.framehop_rules.specs.CodeViews.{words_from}
use Rattle.framehop_rules.specs.Pops.{registers_after_pops}
use Rattle.framehop_rules.specs.RuleMeaning.{raised_frame, returned_caller, caller_registers, rule_meaning}
use Rattle.framehop_rules.specs.declared.x86_64.unwind_rule.UnwindRuleX86_64.TheVariants.{OffsetSpAndPopRegisters}
use Rattle.framehop_rules.proofs.Parts.{and_then-assoc, and_then-same, above-answers, above, unequal}

-- ---- lists of which no register is the stack pointer

abbrev NotSp : Reg → Type 0
NotSp register = dwarf_number register ≢ 7

saved_at : (k : ℕ) → k < 8 → NotSp (slice_index_or callee_saved k RAX)
saved_at k inside same =
    let never = agree_below_at (λ i. dwarf_number (slice_index_or callee_saved i RAX) == 7) (λ _. false) 8 k refl inside in
    absurd (false≢true (sym never ∙ eq-eqb _ _ same))

saved_not_sp : (register : Reg) → Contains callee_saved register → NotSp register
saved_not_sp register (k, inside, is) same =
    saved_at k inside (ap dwarf_number (get_or_default callee_saved k RAX register inside ∙ is) ∙ same)

pub list_not_sp : (count number : ℕ) → count ≤ 8 → number < order_count → All NotSp (pop_list count number)
list_not_sp count number within below =
    let begins = pop_list-begins count number within below in
    let P : List Reg → Type 0 = λ list. All NotSp list in
    subst P (sym begins.begins)
    (All-take NotSp count begins.order (λ k d inside. saved_not_sp _ (begins.is_order.pops.saved k d inside)))

pub list-length : (count number : ℕ) → count ≤ 8 → number < order_count → length (pop_list count number) ≡ count
list-length count number within below =
    let begins = pop_list-begins count number within below in
    let size = length-take count begins.order in
    let all = begins.is_order.all in
    ap length begins.begins ∙ omega arith

-- ---- writes of registers

set-commute : (l : List ℕ) (i j a b : ℕ) → (i ≡ j → ⊥) → set (set l i a) j b ≡ set (set l j b) i a
set-commute [] i j a b other = refl
set-commute (x ∷ xs) zero zero a b other = absurd (other refl)
set-commute (x ∷ xs) zero (suc j) a b other = refl
set-commute (x ∷ xs) (suc i) zero a b other = refl
set-commute (x ∷ xs) (suc i) (suc j) a b other = ap (λ l. x ∷ l) (set-commute xs i j a b (λ same. other (ap suc same)))

-- a stack pointer that is written over
over-sp : (registers : UnwindRegsX86_64) (register : Reg) (at value next : ℕ) → NotSp register
    → with_register (with_register (with_register registers RSP at) register value) RSP next ≡ with_register (with_register registers register value) RSP next
over-sp registers register at value next other =
    let k = dwarf_number register in
    ap (λ regs. record registers { regs = regs })
    (ap (λ l. set l 7 next) (set-commute registers.regs 7 k at value (λ same. other (sym same))) ∙ set-set (set registers.regs k value) 7 at next)

pub all-with_values : (registers : UnwindRegsX86_64) (list : List Reg) (values : List ℕ) → HasAllRegisters registers → HasAllRegisters (with_values registers list values)
all-with_values registers [] values all = all
all-with_values registers (register ∷ more) [] all = all
all-with_values registers (register ∷ more) (value ∷ values) all =
    all-with_values (with_register registers register value) more values (length-set registers.regs (dwarf_number register) value ∙ all)

-- ---- the pops

-- a pop, and what comes behind it
pop-parts : {A B : Type 0} (first second : Outcome ℕ) (one : ℕ → ℕ → A) (rest : A → Outcome B) (third : ℕ → Outcome (List ℕ × ℕ)) (last : List ℕ × ℕ → Outcome B)
    → ((value next : ℕ) → rest (one value next) ≡ and_then (third next) (λ read. last (value ∷ read.0, read.1)))
    → and_then (and_then first (λ value. and_then second (λ next. Answers (one value next)))) rest
    ≡ and_then (and_then first (λ value. and_then second (λ next. and_then (third next) (λ read. Answers (value ∷ read.0, read.1))))) last
pop-parts Ends second one rest third last same = refl
pop-parts (Refuses error) second one rest third last same = refl
pop-parts (Answers value) Ends one rest third last same = refl
pop-parts (Answers value) (Refuses error) one rest third last same = refl
pop-parts (Answers value) (Answers next) one rest third last same =
    same value next ∙ sym (and_then-assoc (third next) (λ read. Answers (value ∷ read.0, read.1)) last)

pub pops-by-words : (list : List Reg) (registers : UnwindRegsX86_64) (words : Words) (at : ℕ) → HasAllRegisters registers → All NotSp list
    → registers_after_pops list (with_register registers RSP at) words
    ≡ and_then (words_from words (length list) at) (λ read. Answers (with_register (with_values registers list read.0) RSP read.1))
unfolding words_from
pops-by-words [] registers words at all others = refl
pops-by-words (register ∷ more) registers words at all others =
    let from = with_register registers RSP at in
    let there : sp_of from ≡ at = get_or-set_same registers.regs 7 at 0 (omega (arith, all)) in
    let popped : ℕ → ℕ → UnwindRegsX86_64 = λ value next. with_register (with_register from register value) RSP next in
    let last : List ℕ × ℕ → Outcome UnwindRegsX86_64 = λ read. Answers (with_register (with_values registers (register ∷ more) read.0) RSP read.1) in
    ap (λ s. and_then (and_then (word words s) (λ value. and_then (address (pos s +ℤ pos 8)) (λ next. Answers (popped value next)))) (λ next. registers_after_pops more next words)) there
    ∙ pop-parts (word words at) (address (pos at +ℤ pos 8)) popped (λ next. registers_after_pops more next words) (words_from words (length more)) last
    (λ value next.
    ap (λ r. registers_after_pops more r words) (over-sp registers register at value next (others 0 RAX (omega arith)))
    ∙ pops-by-words more (with_register registers register value) words next (length-set registers.regs (dwarf_number register) value ∙ all) (λ k d inside. others (suc k) d (omega arith)))

-- ---- the return

module _ (registers : UnwindRegsX86_64) (words : Words) (behind : ℕ) (all : HasAllRegisters registers) where
  abbrev popped : UnwindRegsX86_64
  popped = with_register registers RSP behind

  abbrev made : ℕ → ℕ → Outcome (Caller UnwindRegsX86_64)
  made sp to = Answers (record { return_address = to; registers = with_register (with_ip registers to) RSP sp })

  popped-sp : sp_of popped ≡ behind
  popped-sp = get_or-set_same registers.regs 7 behind 0 (omega (arith, all))

  -- the caller's registers, where the frame pointer stays
  caller-made : (sp to : ℕ) → caller_registers popped to sp (bp_of popped) ≡ with_register (with_ip registers to) RSP sp
  caller-made sp to =
      let other : (k : ℕ) → get_or (set registers.regs 7 k) 6 0 ≡ get_or registers.regs 6 0 =
      λ k. get_or-set_other registers.regs 7 6 k 0 (λ same. absurd (omega arith)) in
      ap (λ regs. record registers { ip = to; regs = regs })
      (ap (λ l. set l 6 (bp_of popped)) (set-set registers.regs 7 behind sp)
      ∙ ap (λ b. set (set registers.regs 7 sp) 6 b) (other behind ∙ sym (other sp))
      ∙ set-get_or (set registers.regs 7 sp) 6 0)

  -- what is made of the return address that was read
  returned-to : (sp to : ℕ) (null loops : Bool) → loops ≡ false
      → and_then (if null then Ends else if loops then Refuses DidNotAdvance else Answers to)
      (λ found. Answers (record { return_address = found; registers = caller_registers popped found sp (bp_of popped) }))
      ≡ (if null then Ends else made sp to)
  returned-to sp to true loops never = refl
  returned-to sp to false true never = cc
  returned-to sp to false false never = ap (λ r. Answers (record { return_address = to; registers = r })) (caller-made sp to)

  -- the stack pointer is 8 above the last word that was popped
  returned-above : (sp : ℕ) → sp ≡ behind + 8 → sp < 2 ^ 64 → returned_caller popped words (sp, bp_of popped)
      ≡ and_then (word words behind) (λ to. if to == 0 then Ends else made sp to)
  returned-above sp up fits =
      let down : pos sp -ℤ pos 8 ≡ pos behind = omega (arith, ints) in
      let there : address (pos behind) ≡ Answers behind =
      cond-true (nat_lt behind (2 ^ 64)) (Answers behind) (Refuses IntegerOverflow) (lt-ltb behind (2 ^ 64) (omega arith)) in
      let differs : (sp == sp_of popped) ≡ false = unequal sp (sp_of popped) (λ same. absurd (omega (arith, popped-sp))) in
      let tested : ℕ → Outcome ℕ = λ to. if to == 0 then Ends else if (sp == sp_of popped) && (to == ip_of popped) then Refuses DidNotAdvance else Answers to in
      let answered : ℕ → Outcome (Caller UnwindRegsX86_64) = λ found. Answers (record { return_address = found; registers = caller_registers popped found sp (bp_of popped) }) in
      ap (λ o. and_then (and_then o (λ at. and_then (word words at) tested)) answered) (ap address down ∙ there)
      ∙ and_then-assoc (word words behind) tested answered
      ∙ and_then-same (word words behind) (λ to. and_then (tested to) answered) (λ to. if to == 0 then Ends else made sp to)
      (λ to. returned-to sp to (to == 0) ((sp == sp_of popped) && (to == ip_of popped)) (ap (λ b. b && (to == ip_of popped)) differs))

  returned-by : (raised : Outcome ℕ) → ((sp : ℕ) → raised ≡ Answers sp → (sp ≡ behind + 8) × (sp < 2 ^ 64))
      → and_then (and_then raised (λ sp. Answers (sp, bp_of popped))) (returned_caller popped words)
      ≡ and_then raised (λ sp. and_then (word words behind) (λ to. if to == 0 then Ends else made sp to))
  returned-by Ends placed = refl
  returned-by (Refuses error) placed = refl
  returned-by (Answers sp) placed = let (up, fits) = placed sp refl in returned-above sp up fits

  -- a return from popped registers
  pub returned : and_then (raised_frame popped 8) (returned_caller popped words)
      ≡ and_then (address (pos behind +ℤ pos 8)) (λ sp. and_then (word words behind) (λ to. if to == 0 then Ends else made sp to))
  returned =
      ap (λ s. and_then (and_then (address (pos s +ℤ pos 8)) (λ sp. Answers (sp, bp_of popped))) (returned_caller popped words)) popped-sp
      ∙ returned-by (address (pos behind +ℤ pos 8)) (λ sp is. (above-answers behind 8 sp is, (above behind 8 sp sp refl is).fits))

-- ---- the step

-- what the step comes to where no register is written before all words are read
abbrev pub step_by_words : ℕ → ℕ → ℕ → UnwindRegsX86_64 → Words → Outcome (Caller UnwindRegsX86_64)
step_by_words x count number registers words =
    and_then (address (pos (sp_of registers) +ℤ pos (8 * x))) (λ from.
    and_then (words_from words count from) (λ read.
    and_then (address (pos read.1 +ℤ pos 8)) (λ sp.
    and_then (word words read.1) (λ to.
    if to == 0 then Ends else
    Answers (record {
      return_address = to;
      registers = with_register (with_ip (with_values registers (pop_list count number) read.0) to) RSP sp;
    })))))

module _ (x count number : ℕ) (is_first : Bool) (registers : UnwindRegsX86_64) (words : Words)
    (all : HasAllRegisters registers) (within : count ≤ 8) (below : number < order_count) where
  abbrev list : List Reg
  list = pop_list count number

  abbrev returning : UnwindRegsX86_64 → Outcome (Caller UnwindRegsX86_64)
  returning next = and_then (raised_frame next 8) (returned_caller next words)

  abbrev by_words : ℕ → Outcome (Caller UnwindRegsX86_64)
  by_words from =
      and_then (words_from words count from) (λ read.
      and_then (address (pos read.1 +ℤ pos 8)) (λ sp.
      and_then (word words read.1) (λ to.
      if to == 0 then Ends else
      Answers (record { return_address = to; registers = with_register (with_ip (with_values registers list read.0) to) RSP sp }))))

  from-address : (from : ℕ) → and_then (registers_after_pops list (with_register registers RSP from) words) returning ≡ by_words from
  from-address from =
      let last : List ℕ × ℕ → Outcome UnwindRegsX86_64 = λ read. Answers (with_register (with_values registers list read.0) RSP read.1) in
      ap (λ o. and_then o returning)
      (pops-by-words list registers words from all (list_not_sp count number within below)
      ∙ ap (λ n. and_then (words_from words n from) last) (list-length count number within below))
      ∙ and_then-assoc (words_from words count from) last returning
      ∙ and_then-same (words_from words count from) (λ read. and_then (last read) returning) _
      (λ read. returned (with_values registers list read.0) words read.1 (all-with_values registers list read.0 all))

  by-parts : (raised : Outcome ℕ)
      → and_then (and_then (and_then raised (λ sp. Answers (with_register registers RSP sp))) (λ from. registers_after_pops list from words)) returning
      ≡ and_then raised by_words
  by-parts Ends = refl
  by-parts (Refuses error) = refl
  by-parts (Answers from) = from-address from

  pub pops-mean : step_by_words x count number registers words ≡ rule_meaning (OffsetSpAndPopRegisters x count number) is_first registers words
  pops-mean = sym (by-parts (address (pos (sp_of registers) +ℤ pos (8 * x))))
