use Rattle.std.proofs.Common.{◌≡◌, ◌∙◌, ℕ, ◌*◌, ◌==◌, List, length, [], ◌∷◌, ap, sym, refl, subst, rules, true}
use Rattle.std.specs.Prelude.{pos, ◌+ℤ◌, if◌then◌else◌}
use Rattle.std.proofs.lemmas.Result.{err_from_is_err_and}
use Rattle.framehop_registers.specs.Callback.{Words, Leads}
use Rattle.framehop_registers.specs.PopLists.{pop_list}
use Rattle.framehop_registers.specs.Registers.{sp_of, with_ip, with_register, with_values}
use Rattle.framehop_registers.specs.declared.x86_64.unwindregs.Reg.TheVariants.{RSP}
use Rattle.framehop_registers.specs.declared.x86_64.unwindregs.UnwindRegsX86_64.{UnwindRegsX86_64}
use Rattle.framehop_registers.proofs.Laws.{over_weaker, over_both}
use Rattle.framehop_rules.specs.Outcome.{Outcome, Ends, Refuses, Answers, Caller, and_then, if_answered, address, word, answer_of_outcome, registers_after}
use Rattle.framehop_rules.specs.CodeViews.{words_from}
use Rattle.framehop_rules.specs.RuleMeaning.{rule_meaning}
use Rattle.framehop_rules.specs.declared.x86_64.unwind_rule.UnwindRuleX86_64.TheVariants.{OffsetSpAndPopRegisters}
use Rattle.framehop_rules.proofs.Parts.{equal, unequal}
use Rattle.framehop_rules.proofs.PopReads.{pop-leads}
use Rattle.framehop_rules.proofs.PopSteps.{step_by_words, pops-mean}
use Rattle.framehop_rules.proofs.x86_64.pops.pop_and_return.Goals as goal
use Rattle.framehop_rules.proofs.x86_64.pops.pop_and_return.Given as given

-- the caller, once all words are read
abbrev caller_with : UnwindRegsX86_64 → ℕ → ℕ → List ℕ → ℕ → ℕ → Caller UnwindRegsX86_64
caller_with registers count number values sp to =
    record { return_address = to; registers = with_register (with_ip (with_values registers (pop_list count number) values) to) RSP sp }

-- what is done after the registers' words, and after the stack pointer
abbrev last : ℕ → ℕ → UnwindRegsX86_64 → Words → List ℕ × ℕ → ℕ → Outcome (Caller UnwindRegsX86_64)
last count number registers stack found sp =
    and_then (word stack found.1) (λ to. if to == 0 then Ends else Answers (caller_with registers count number found.0 sp to))

abbrev above : ℕ → ℕ → UnwindRegsX86_64 → Words → List ℕ × ℕ → Outcome (Caller UnwindRegsX86_64)
above count number registers stack found = and_then (address (pos found.1 +ℤ pos 8)) (last count number registers stack found)

-- the step, from what the reads of the words came to
from-words : (x count number : ℕ) (registers : UnwindRegsX86_64) (stack : Words) (s bytes from n : ℕ) (found : Outcome (List ℕ × ℕ))
    → s ≡ sp_of registers → bytes ≡ 8 * x → Answers from ≡ address (pos s +ℤ pos bytes) → n ≡ count → found ≡ words_from stack n from
    → and_then found (above count number registers stack) ≡ step_by_words x count number registers stack
from-words x count number registers stack s bytes from n found s_is bytes_is from_is n_is found_is =
    ap (λ o. and_then o (above count number registers stack)) (found_is ∙ ap (λ m. words_from stack m from) n_is)
    ∙ ap (λ o. and_then o (λ at. and_then (words_from stack count at) (above count number registers stack)))
    (from_is ∙ ap (λ b. address (pos s +ℤ pos b)) bytes_is ∙ ap (λ a. address (pos a +ℤ pos (8 * x))) s_is)

-- the step, once the registers' words are read
reached : (x count number : ℕ) (registers : UnwindRegsX86_64) (stack : Words) (s bytes from n after sp : ℕ) (values : List ℕ) (read : Outcome ℕ)
    → s ≡ sp_of registers → bytes ≡ 8 * x → Answers from ≡ address (pos s +ℤ pos bytes) → n ≡ count → Answers (values, after) ≡ words_from stack n from
    → Answers sp ≡ address (pos after +ℤ pos 8) → read ≡ word stack after
    → and_then read (λ to. if to == 0 then Ends else Answers (caller_with registers count number values sp to)) ≡ step_by_words x count number registers stack
reached x count number registers stack s bytes from n after sp values read s_is bytes_is from_is n_is values_are sp_is read_is =
    ap (λ o. and_then o (λ to. if to == 0 then Ends else Answers (caller_with registers count number values sp to))) read_is
    ∙ ap (λ o. and_then o (last count number registers stack (values, after))) sp_is
    ∙ from-words x count number registers stack s bytes from n (Answers (values, after)) s_is bytes_is from_is n_is values_are

pub returns-in_err-after-clause-step : goal.returns-in_err-after-clause-step
returns-in_err-after-clause-step g c =
    let a = c.args in
    over_weaker c.in_err-after.ensures.read (λ stack fails.
    let from = err_from_is_err_and c.from_residual-in_err-after.result c.from_residual-in_err-after.ensures.1 in
    let is = from-words a.offset a.count a.number a.regs.now stack c.sp.result c.bytes_of.result c.in_ok-from.from _
    (Refuses c.in_err-after.field-0.0) c.sp.ensures c.bytes_of.ensures c.in_ok-from.ensures.sum (search rules) fails
    ∙ pops-mean a.offset a.count a.number true a.regs.now stack c.has_all_registers.ensures c.requires.count c.requires.number in
    rw (from.1, from.2) (record { answer = ap answer_of_outcome is; registers = ap (registers_after a.regs.now) is }))

pub returns-in_err-new_sp-clause-step : goal.returns-in_err-new_sp-clause-step
returns-in_err-new_sp-clause-step g c =
    let a = c.args in
    over_weaker c.in_ok-after.ensures.read (λ stack values.
    let from = err_from_is_err_and c.from_residual-in_err-new_sp.result c.from_residual-in_err-new_sp.ensures.1 in
    let is = ap (λ o. and_then o (last a.count a.number a.regs.now stack (c.read_words.new.words, c.in_ok-after.after))) c.in_err-new_sp.ensures.sum
    ∙ from-words a.offset a.count a.number a.regs.now stack c.sp.result c.bytes_of.result c.in_ok-from.from _
    (Answers (c.read_words.new.words, c.in_ok-after.after)) c.sp.ensures c.bytes_of.ensures c.in_ok-from.ensures.sum (search rules) values
    ∙ pops-mean a.offset a.count a.number true a.regs.now stack c.has_all_registers.ensures c.requires.count c.requires.number in
    rw (from.1, from.2) (record { answer = ap answer_of_outcome is; registers = ap (registers_after a.regs.now) is }))

pub returns-in_err-return_address-clause-step : goal.returns-in_err-return_address-clause-step
returns-in_err-return_address-clause-step g c =
    let a = c.args in
    let mean : (stack : Words) → step_by_words a.offset a.count a.number a.regs.now stack ≡ rule_meaning (OffsetSpAndPopRegisters a.offset a.count a.number) true a.regs.now stack =
    λ stack. pops-mean a.offset a.count a.number true a.regs.now stack c.has_all_registers.ensures c.requires.count c.requires.number in
    over_both c.in_ok-after.ensures.read c.in_err-return_address.ensures.word (λ stack values fails.
    let from = err_from_is_err_and c.from_residual-in_err-return_address.result c.from_residual-in_err-return_address.ensures.1 in
    let is = reached a.offset a.count a.number a.regs.now stack c.sp.result c.bytes_of.result c.in_ok-from.from _ c.in_ok-after.after c.in_ok-new_sp.new_sp
    c.read_words.new.words (Refuses c.in_err-return_address.field-0.0) c.sp.ensures c.bytes_of.ensures c.in_ok-from.ensures.sum (search rules) values c.in_ok-new_sp.ensures.sum fails ∙ mean stack in
    rw (from.1, from.2) (record { answer = ap answer_of_outcome is; registers = ap (registers_after a.regs.now) is }))

pub returns-then-return_address-eq0-clause-step : goal.returns-then-return_address-eq0-clause-step
returns-then-return_address-eq0-clause-step g c =
    let a = c.args in
    let mean : (stack : Words) → step_by_words a.offset a.count a.number a.regs.now stack ≡ rule_meaning (OffsetSpAndPopRegisters a.offset a.count a.number) true a.regs.now stack =
    λ stack. pops-mean a.offset a.count a.number true a.regs.now stack c.has_all_registers.ensures c.requires.count c.requires.number in
    over_both c.in_ok-after.ensures.read c.in_ok-return_address.ensures.word (λ stack values read.
    let to = c.in_ok-return_address.return_address in
    let is = reached a.offset a.count a.number a.regs.now stack c.sp.result c.bytes_of.result c.in_ok-from.from _ c.in_ok-after.after c.in_ok-new_sp.new_sp
    c.read_words.new.words (Answers to) c.sp.ensures c.bytes_of.ensures c.in_ok-from.ensures.sum (search rules) values c.in_ok-new_sp.ensures.sum read in
    let ends : Ends ≡ rule_meaning (OffsetSpAndPopRegisters a.offset a.count a.number) true a.regs.now stack =
    sym (ap (λ b. if b then Ends else Answers (caller_with a.regs.now a.count a.number c.read_words.new.words c.in_ok-new_sp.new_sp to)) (equal to 0 c.if-return_address-eq0.true)) ∙ is ∙ mean stack in
    record { answer = ap answer_of_outcome ends; registers = ap (registers_after a.regs.now) ends })

pub returns-clause-step : goal.returns-clause-step
returns-clause-step g c =
    let a = c.args in
    let mean : (stack : Words) → step_by_words a.offset a.count a.number a.regs.now stack ≡ rule_meaning (OffsetSpAndPopRegisters a.offset a.count a.number) true a.regs.now stack =
    λ stack. pops-mean a.offset a.count a.number true a.regs.now stack c.has_all_registers.ensures c.requires.count c.requires.number in
    over_both c.in_ok-after.ensures.read c.in_ok-return_address.ensures.word (λ stack values read.
    let to = c.in_ok-return_address.return_address in
    let caller = caller_with a.regs.now a.count a.number c.read_words.new.words c.in_ok-new_sp.new_sp to in
    let is = reached a.offset a.count a.number a.regs.now stack c.sp.result c.bytes_of.result c.in_ok-from.from _ c.in_ok-after.after c.in_ok-new_sp.new_sp
    c.read_words.new.words (Answers to) c.sp.ensures c.bytes_of.ensures c.in_ok-from.ensures.sum (search rules) values c.in_ok-new_sp.ensures.sum read in
    let answers : Answers caller ≡ rule_meaning (OffsetSpAndPopRegisters a.offset a.count a.number) true a.regs.now stack =
    sym (ap (λ b. if b then Ends else Answers caller) (unequal to 0 c.if-return_address-eq0.false)) ∙ is ∙ mean stack in
    let size : length c.read_words.new.words ≡ a.count = search rules in
    record {
      answer = ap answer_of_outcome answers;
      registers = rw (c.set_sp.ensures, c.set_ip.ensures, c.set_by_number.ensures)
          (ap (λ n. with_register (with_ip (with_values a.regs.now (pop_list n a.number) c.read_words.new.words) to) RSP c.in_ok-new_sp.new_sp) size
          ∙ ap (registers_after a.regs.now) answers);
    })

pub returns-in_err-after-clause-order : goal.returns-in_err-after-clause-order
returns-in_err-after-clause-order g c = λ stack answers.
    let a = c.args in
    pop-leads a.offset a.count a.number true a.regs.now stack c.has_all_registers.ensures c.requires.count c.requires.number (given.F-step g) a.read_stack.now c.read_words.new.read_stack c.read_words.new.read_stack
    c.sp.result c.bytes_of.result c.in_ok-from.from _ (Refuses c.in_err-after.field-0.0)
    c.sp.ensures c.bytes_of.ensures c.in_ok-from.ensures.sum (search rules) (c.in_err-after.ensures.read.said stack answers) (c.in_err-after.ensures.order stack answers) refl

pub returns-in_err-new_sp-clause-order : goal.returns-in_err-new_sp-clause-order
returns-in_err-new_sp-clause-order g c = λ stack answers.
    let a = c.args in
    pop-leads a.offset a.count a.number true a.regs.now stack c.has_all_registers.ensures c.requires.count c.requires.number (given.F-step g) a.read_stack.now c.read_words.new.read_stack c.read_words.new.read_stack
    c.sp.result c.bytes_of.result c.in_ok-from.from _ (Answers (c.read_words.new.words, c.in_ok-after.after))
    c.sp.ensures c.bytes_of.ensures c.in_ok-from.ensures.sum (search rules) (c.in_ok-after.ensures.read.said stack answers) (c.in_ok-after.ensures.order stack answers)
    (subst (λ o. Leads (given.F-step g) c.read_words.new.read_stack (if_answered o (λ sp. c.in_ok-after.after ∷ [])) c.read_words.new.read_stack) (c.in_err-new_sp.ensures.sum) refl)

pub returns-in_err-return_address-clause-order : goal.returns-in_err-return_address-clause-order
returns-in_err-return_address-clause-order g c = λ stack answers.
    let a = c.args in
    pop-leads a.offset a.count a.number true a.regs.now stack c.has_all_registers.ensures c.requires.count c.requires.number (given.F-step g) a.read_stack.now c.read_words.new.read_stack c.read_word.new.read_stack
    c.sp.result c.bytes_of.result c.in_ok-from.from _ (Answers (c.read_words.new.words, c.in_ok-after.after))
    c.sp.ensures c.bytes_of.ensures c.in_ok-from.ensures.sum (search rules) (c.in_ok-after.ensures.read.said stack answers) (c.in_ok-after.ensures.order stack answers)
    (subst (λ o. Leads (given.F-step g) c.read_words.new.read_stack (if_answered o (λ sp. c.in_ok-after.after ∷ [])) c.read_word.new.read_stack) (c.in_ok-new_sp.ensures.sum) c.in_err-return_address.ensures.order)

pub returns-then-return_address-eq0-clause-order : goal.returns-then-return_address-eq0-clause-order
returns-then-return_address-eq0-clause-order g c = λ stack answers.
    let a = c.args in
    pop-leads a.offset a.count a.number true a.regs.now stack c.has_all_registers.ensures c.requires.count c.requires.number (given.F-step g) a.read_stack.now c.read_words.new.read_stack c.read_word.new.read_stack
    c.sp.result c.bytes_of.result c.in_ok-from.from _ (Answers (c.read_words.new.words, c.in_ok-after.after))
    c.sp.ensures c.bytes_of.ensures c.in_ok-from.ensures.sum (search rules) (c.in_ok-after.ensures.read.said stack answers) (c.in_ok-after.ensures.order stack answers)
    (subst (λ o. Leads (given.F-step g) c.read_words.new.read_stack (if_answered o (λ sp. c.in_ok-after.after ∷ [])) c.read_word.new.read_stack) (c.in_ok-new_sp.ensures.sum) c.in_ok-return_address.ensures.order)

pub returns-clause-order : goal.returns-clause-order
returns-clause-order g c = λ stack answers.
    let a = c.args in
    pop-leads a.offset a.count a.number true a.regs.now stack c.has_all_registers.ensures c.requires.count c.requires.number (given.F-step g) a.read_stack.now c.read_words.new.read_stack c.read_word.new.read_stack
    c.sp.result c.bytes_of.result c.in_ok-from.from _ (Answers (c.read_words.new.words, c.in_ok-after.after))
    c.sp.ensures c.bytes_of.ensures c.in_ok-from.ensures.sum (search rules) (c.in_ok-after.ensures.read.said stack answers) (c.in_ok-after.ensures.order stack answers)
    (subst (λ o. Leads (given.F-step g) c.read_words.new.read_stack (if_answered o (λ sp. c.in_ok-after.after ∷ [])) c.read_word.new.read_stack) (c.in_ok-new_sp.ensures.sum) c.in_ok-return_address.ensures.order)
