use Rattle.std.proofs.Common.{◌≡◌, ◌∙◌, ap, arith, false, length, sym, true}
use Rattle.framehop_analysis.specs.Epilogue.{is_pop_byte}
use Rattle.framehop_analysis.proofs.EpilogueReading.{heads, if_none, no_pop_read, pop_read}
use Rattle.framehop_analysis.proofs.x86_64.instruction_analysis.epilogue.first_pop.Goals as goal

pub returns-then-is_pop_byte-clause-pop : goal.returns-then-is_pop_byte-clause-pop
returns-then-is_pop_byte-clause-pop c =
    pop_read c.args.bytes.now c.in_ok-first.field-0-1.now c.in_ok-byte.suffix.now c.in_ok-first.field-0-0.now c.in_ok-byte.field-0-0.now
    c.in_ok-first.ensures.cases.0 (sym c.after_rex.ensures ∙ c.in_ok-byte.ensures.cases.0) (sym c.is_pop_byte.ensures ∙ c.if-is_pop_byte.true)

pub returns-in_err-byte-clause-none : goal.returns-in_err-byte-clause-none
returns-in_err-byte-clause-none c =
    if_none c.from_residual-in_err-byte.result
    (no_pop_read c.args.bytes.now (λ byte suffix is test. absurd (omega (arith, c.in_err-byte.ensures.cases, ap length (c.after_rex.ensures ∙ is)))))

pub returns-else-is_pop_byte-clause-none : goal.returns-else-is_pop_byte-clause-none
returns-else-is_pop_byte-clause-none c =
    no_pop_read c.args.bytes.now (λ byte suffix is test.
    let same = heads c.in_ok-byte.field-0-0.now byte c.in_ok-byte.suffix.now suffix (sym c.in_ok-byte.ensures.cases.0 ∙ c.after_rex.ensures ∙ is) in
    let no : false ≡ true = sym (sym c.is_pop_byte.ensures ∙ c.if-is_pop_byte.false) ∙ ap is_pop_byte same ∙ test in
    cc)
