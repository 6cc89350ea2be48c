-- The parts of a direct row, put together.
use Rattle.std.proofs.Common.{◌≡◌, ℕ, ◌-◌, ◌≤◌, Bool, cond, Option, Some, None, Result, Ok, Err, refl, sym, ap, ◌∙◌}
use Rattle.std.proofs.lemmas.Bool.{le-ltb}
use Rattle.framehop_registers.specs.Callback.{Words, read_answer}
use Rattle.framehop_rules.specs.Outcome.{Caller}
use Rattle.framehop_rules.specs.RuleMeaning.{caller_registers}
use Rattle.framehop_registers.specs.declared.x86_64.unwindregs.UnwindRegsX86_64.{UnwindRegsX86_64}
use Rattle.framehop_errors.specs.declared.dwarf.DwarfUnwinderError.{DwarfUnwinderError}
use Rattle.framehop_rows.specs.Columns.{Sources, cfa_by}
use Rattle.framehop_rows.specs.DirectRow.{direct_return_address, direct_bp, direct_refusal, caller_unless, direct_by_return_address, direct_by_cfa, direct_by}
use Rattle.framehop_rows.specs.RowSources.{word_below_cfa}
use Rattle.dwarf_frame_parts.specs.declared.parts.Parts.{Parts}

-- a word that was read is the word there
pub word_read : (there : Option ℕ) (value : ℕ) → Ok value ≡ read_answer there → Some value ≡ there
word_read (Some found) value is = cc
word_read None value is = cc

-- a read that failed shows that no word is there
pub word_missed : (there : Option ℕ) → Err tt ≡ read_answer there → None ≡ there
word_missed (Some found) is = cc
word_missed None is = refl

-- the word below a CFA of 8 at least
pub below_is : (words : Words) (cfa at : ℕ) (r : Option ℕ) → 8 ≤ cfa → at ≡ cfa - 8 → r ≡ words at → r ≡ word_below_cfa words cfa
below_is words cfa at r le is read = read ∙ ap words is ∙ ap (λ b. cond b None (words (cfa - 8))) (sym (le-ltb cfa 8 le))

-- the answer of a row, from its CFA and its return address
pub answer_is : (sources : Sources) (first : Bool) (registers : UnwindRegsX86_64) (words : Words) (parts : Parts ℕ) (cfa : ℕ) (to : Option ℕ) (target : Result (Caller UnwindRegsX86_64) DwarfUnwinderError)
    → Some cfa ≡ cfa_by sources parts.cfa → to ≡ direct_return_address sources registers words cfa parts.ra
    → target ≡ direct_by_return_address sources first registers words parts cfa to → target ≡ direct_by sources first registers words parts
answer_is sources first registers words parts cfa to target cfa_is to_is h =
    h ∙ ap (direct_by_return_address sources first registers words parts cfa) to_is ∙ ap (direct_by_cfa sources first registers words parts) cfa_is

-- a refusal stands before the caller
pub refused_is : (sources : Sources) (first : Bool) (registers : UnwindRegsX86_64) (words : Words) (parts : Parts ℕ) (cfa to : ℕ) (e : DwarfUnwinderError) → Some e ≡ direct_refusal first registers cfa to → Err e ≡ direct_by_return_address sources first registers words parts cfa (Some to)
refused_is sources first registers words parts cfa to e h = ap (λ o. caller_unless o (record { return_address = to; registers = caller_registers registers to cfa (direct_bp sources registers words cfa parts.fp) })) h

-- without one there is the caller
pub caller_is : (sources : Sources) (first : Bool) (registers : UnwindRegsX86_64) (words : Words) (parts : Parts ℕ) (cfa to bp : ℕ) → None ≡ direct_refusal first registers cfa to → bp ≡ direct_bp sources registers words cfa parts.fp
    → Ok (record { return_address = to; registers = caller_registers registers to cfa bp }) ≡ direct_by_return_address sources first registers words parts cfa (Some to)
caller_is sources first registers words parts cfa to bp h bp_is =
    let made : ℕ → Caller UnwindRegsX86_64 = λ (b : ℕ). record { return_address = to; registers = caller_registers registers to cfa b } in
    ap (λ (b : ℕ). Ok (made b)) bp_is ∙ ap (λ o. caller_unless o (made (direct_bp sources registers words cfa parts.fp))) h
