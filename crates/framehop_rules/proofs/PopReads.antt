-- The addresses that are read by a rule that pops registers.
use Rattle.std.proofs.Common.{◌≡◌, ◌∙◌, ℕ, suc, ◌+◌, ◌-◌, ◌*◌, ◌^◌, ◌<◌, ◌≤◌, nat_lt, lt-ltb, Bool, List, [], ◌∷◌, ◌++◌, ap, sym, refl, subst, arith}
use Rattle.std.specs.Prelude.{pos, ◌+ℤ◌, ◌-ℤ◌, Result}
use Rattle.std.proofs.lemmas.Bool.{cond-true}
use Rattle.std.proofs.lemmas.Int.{ints}
use Rattle.std.proofs.lemmas.List.{get_or-set_same}
use Rattle.framehop_registers.specs.Callback.{Words, Leads, AnswersBy}
use Rattle.framehop_registers.specs.PopLists.{pop_list, order_count}
use Rattle.framehop_registers.specs.Registers.{HasAllRegisters, sp_of, bp_of, with_register, with_values}
use Rattle.framehop_registers.specs.declared.error.Error.{Error}
use Rattle.framehop_registers.specs.declared.error.Error.TheVariants.{IntegerOverflow}
use Rattle.framehop_registers.specs.declared.x86_64.unwindregs.Reg.{Reg}
use Rattle.framehop_registers.specs.declared.x86_64.unwindregs.Reg.TheVariants.{RSP}
use Rattle.framehop_registers.specs.declared.x86_64.unwindregs.UnwindRegsX86_64.{UnwindRegsX86_64}
use Rattle.framehop_registers.proofs.Laws.{leads_both}
use Rattle.framehop_rules.specs.Outcome.{Outcome, Ends, Refuses, Answers, and_then, if_answered, address, word}
use Rattle.framehop_rules.specs.CodeViews.{words_from}
use Rattle.framehop_rules.specs.Pops.{registers_after_pops}
use Rattle.framehop_rules.specs.RuleMeaning.{raised_frame}
use Rattle.framehop_rules.specs.RuleReads.{reads_of_pops, reads_of_return, rule_reads}
use Rattle.framehop_rules.specs.declared.x86_64.unwind_rule.UnwindRuleX86_64.TheVariants.{OffsetSpAndPopRegisters}
use Rattle.framehop_rules.proofs.Parts.{above-answers, above}
use Rattle.framehop_rules.proofs.PopSteps.{list_not_sp, list-length, pops-by-words, all-with_values}

-- ---- the words that registers take

-- what is still to be read, after which all was read
abbrev pub ReadsLeft : {S : Type 0} → (S → ℕ → Result ℕ (Unit {0}) → S → Type 0) → S → S → (Words → List ℕ) → (Words → List ℕ) → Type 0
ReadsLeft {S} step old now left whole = (words : Words) → AnswersBy step old words → (last : S) → Leads step now (left words) last → Leads step old (whole words) last

module _ (stack : Words) (n k at : ℕ) where
  -- one word more
  pub reads_more : (value next : ℕ) → k < n → Answers value ≡ word stack at → Answers next ≡ address (pos at +ℤ pos 8)
      → at ∷ reads_of_pops stack (n - (k + 1)) next ≡ reads_of_pops stack (n - k) at
  unfolding reads_of_pops
  reads_more value next inside reads goes =
      let m = n - (k + 1) in
      let one : suc m ≡ n - k = omega arith in
      ap (λ o. at ∷ if_answered o (reads_of_pops stack m)) goes
      ∙ ap (λ o. at ∷ if_answered o (λ v. if_answered (address (pos at +ℤ pos 8)) (reads_of_pops stack m))) reads
      ∙ ap (λ c. reads_of_pops stack c at) one

  -- a word that can't be read is the last
  pub reads_refused : (error : Error) → k < n → Refuses error ≡ word stack at → at ∷ [] ≡ reads_of_pops stack (n - k) at
  unfolding reads_of_pops
  reads_refused error inside fails =
      let m = n - (k + 1) in
      let one : suc m ≡ n - k = omega arith in
      ap (λ o. at ∷ if_answered o (λ v. if_answered (address (pos at +ℤ pos 8)) (reads_of_pops stack m))) fails
      ∙ ap (λ c. reads_of_pops stack c at) one

  -- so is one with no address after it
  pub reads_at_the_end : (value : ℕ) (error : Error) → k < n → Answers value ≡ word stack at → Refuses error ≡ address (pos at +ℤ pos 8)
      → at ∷ [] ≡ reads_of_pops stack (n - k) at
  unfolding reads_of_pops
  reads_at_the_end value error inside reads fails =
      let m = n - (k + 1) in
      let one : suc m ≡ n - k = omega arith in
      ap (λ o. at ∷ if_answered o (reads_of_pops stack m)) fails
      ∙ ap (λ o. at ∷ if_answered o (λ v. if_answered (address (pos at +ℤ pos 8)) (reads_of_pops stack m))) reads
      ∙ ap (λ c. reads_of_pops stack c at) one

  -- after all of them nothing is read
  pub reads_done : n ≤ k → [] ≡ reads_of_pops stack (n - k) at
  unfolding reads_of_pops
  reads_done past =
      let none : 0 ≡ n - k = omega arith in
      ap (λ c. reads_of_pops stack c at) none

-- ---- the whole rule

-- the read after the registers' words
abbrev pub read_last : List ℕ × ℕ → List ℕ
read_last found = if_answered (address (pos found.1 +ℤ pos 8)) (λ sp. found.1 ∷ [])

-- what is read after popped registers
abbrev after : UnwindRegsX86_64 → List ℕ
after popped = if_answered (raised_frame popped 8) (λ frame. reads_of_return frame.0)

if_answered-both : {A B : Type 0} (first : Outcome A) (next : A → B) (reads : B → List ℕ) (same : A → List ℕ) → ((value : A) → reads (next value) ≡ same value)
    → if_answered (and_then first (λ value. Answers (next value))) reads ≡ if_answered first same
if_answered-both Ends next reads same is = refl
if_answered-both (Refuses error) next reads same is = refl
if_answered-both (Answers value) next reads same is = is value

-- the word below a stack pointer that went up by 8
below-raised : (behind sp : ℕ) → address (pos behind +ℤ pos 8) ≡ Answers sp → reads_of_return sp ≡ behind ∷ []
below-raised behind sp is =
    let up = above-answers behind 8 sp is in
    let fits = (above behind 8 sp sp refl is).fits in
    let down : pos sp -ℤ pos 8 ≡ pos behind = omega (arith, ints) in
    let there : address (pos behind) ≡ Answers behind =
    cond-true (nat_lt behind (2 ^ 64)) (Answers behind) (Refuses IntegerOverflow) (lt-ltb behind (2 ^ 64) (omega arith)) in
    ap (λ o. if_answered o (λ at. at ∷ [])) (ap address down ∙ there)

by-raised : (behind bp : ℕ) (raised : Outcome ℕ) → address (pos behind +ℤ pos 8) ≡ raised
    → if_answered {A = ℕ × ℕ} (and_then raised (λ sp. Answers (sp, bp))) (λ frame. reads_of_return frame.0) ≡ if_answered raised (λ sp. behind ∷ [])
by-raised behind bp Ends is = refl
by-raised behind bp (Refuses error) is = refl
by-raised behind bp (Answers sp) is = below-raised behind sp is

after-popped : (registers : UnwindRegsX86_64) (behind : ℕ) → HasAllRegisters registers
    → after (with_register registers RSP behind) ≡ if_answered (address (pos behind +ℤ pos 8)) (λ sp. behind ∷ [])
after-popped registers behind all =
    let popped = with_register registers RSP behind in
    let there : sp_of popped ≡ behind = get_or-set_same registers.regs 7 behind 0 (omega (arith, all)) in
    ap (λ s. if_answered {A = ℕ × ℕ} (and_then (address (pos s +ℤ pos 8)) (λ sp. Answers (sp, bp_of popped))) (λ frame. reads_of_return frame.0)) there
    ∙ by-raised behind (bp_of popped) (address (pos behind +ℤ pos 8)) refl

module _ (x count number : ℕ) (is_first : Bool) (registers : UnwindRegsX86_64) (words : Words)
    (all : HasAllRegisters registers) (within : count ≤ 8) (below : number < order_count) where
  abbrev list : List Reg
  list = pop_list count number

  from-address : (from : ℕ) → if_answered (registers_after_pops list (with_register registers RSP from) words) after ≡ if_answered (words_from words count from) read_last
  from-address from =
      let made : List ℕ × ℕ → UnwindRegsX86_64 = λ read. with_register (with_values registers list read.0) RSP read.1 in
      ap (λ o. if_answered o after)
      (pops-by-words list registers words from all (list_not_sp count number within below)
      ∙ ap (λ n. and_then (words_from words n from) (λ read. Answers (made read))) (list-length count number within below))
      ∙ if_answered-both (words_from words count from) made after read_last
      (λ read. after-popped (with_values registers list read.0) read.1 (all-with_values registers list read.0 all))

  by-parts : (raised : Outcome ℕ)
      → if_answered raised (reads_of_pops words count)
      ++ if_answered (and_then (and_then raised (λ sp. Answers (with_register registers RSP sp))) (λ from. registers_after_pops list from words)) after
      ≡ if_answered raised (λ from. reads_of_pops words count from ++ if_answered (words_from words count from) read_last)
  by-parts Ends = refl
  by-parts (Refuses error) = refl
  by-parts (Answers from) = ap (λ l. reads_of_pops words count from ++ l) (from-address from)

  -- the reads of a rule, from what the reads of the words gave
  pub pop-reads : (s bytes from n : ℕ) (found : Outcome (List ℕ × ℕ))
      → s ≡ sp_of registers → bytes ≡ 8 * x → Answers from ≡ address (pos s +ℤ pos bytes) → n ≡ count → found ≡ words_from words n from
      → reads_of_pops words n from ++ if_answered found read_last ≡ rule_reads (OffsetSpAndPopRegisters x count number) is_first registers words
  pop-reads s bytes from n found s_is bytes_is from_is n_is found_is =
      ap (λ o. reads_of_pops words n from ++ if_answered o read_last) found_is
      ∙ ap (λ m. reads_of_pops words m from ++ if_answered (words_from words m from) read_last) n_is
      ∙ ap (λ o. if_answered o (λ at. reads_of_pops words count at ++ if_answered (words_from words count at) read_last))
      (from_is ∙ ap (λ b. address (pos s +ℤ pos b)) bytes_is ∙ ap (λ a. address (pos a +ℤ pos (8 * x))) s_is)
      ∙ sym (by-parts (address (pos (sp_of registers) +ℤ pos (8 * x))))

  pub pop-leads : {S : Type 0} (step : S → ℕ → Result ℕ (Unit {0}) → S → Type 0) (old mid new : S) (s bytes from n : ℕ) (found : Outcome (List ℕ × ℕ))
      → s ≡ sp_of registers → bytes ≡ 8 * x → Answers from ≡ address (pos s +ℤ pos bytes) → n ≡ count → found ≡ words_from words n from
      → Leads step old (reads_of_pops words n from) mid → Leads step mid (if_answered found read_last) new
      → Leads step old (rule_reads (OffsetSpAndPopRegisters x count number) is_first registers words) new
  pop-leads step old mid new s bytes from n found s_is bytes_is from_is n_is found_is first second =
      subst (λ reads. Leads step old reads new) (pop-reads s bytes from n found s_is bytes_is from_is n_is found_is)
      (leads_both step (reads_of_pops words n from) (if_answered found read_last) old mid new first second)
