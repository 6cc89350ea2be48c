-- The rules of functions of x86_64 without a frame pointer.
use Rattle.std.specs.Prelude.{ℕ, ℤ, pos, negsuc, ◌-ℤ◌, ◌+◌, ◌/◌, ◌%◌, ◌^◌, ◌==◌, nat_lt, nat_le, int_lt, int_le, Bool, not, ◌&&◌, if◌then◌else◌, List, length, Option, Some, None, Ok, Err}
use Rattle.framehop_errors.specs.declared.compact.CompactUnwindInfoUnwinderError.TheVariants.{BpOffsetDoesNotFit, NoTextBytesToLookUpIndirectStackOffset, IndirectStackOffsetOutOfBounds, StackAdjustOverflow, StackSizeDoesNotFit}
use Rattle.framehop_rules.specs.declared.x86_64.unwind_rule.UnwindRuleX86_64.{UnwindRuleX86_64}
use Rattle.framehop_rules.specs.declared.x86_64.unwind_rule.UnwindRuleX86_64.TheVariants.{JustReturn, OffsetSp, OffsetSpAndRestoreBp}
use Rattle.framehop_compact_tables.specs.Bytes.{u32_at}
use Rattle.framehop_compact.specs.CompactResults.{Refusable, CuiResult, then_by}
use Rattle.framehop_compact.specs.declared.cui_unwind_result.CuiUnwindResult.TheVariants.{ExecRule}

-- A number of 16 bits with a sign.
abbrev pub fits_i16 : ℤ → Bool
fits_i16 number = int_le (negsuc 32767) number && int_lt number (pos 32768)

-- Where RBP is, in words from the stack pointer: below the return address and the registers that are saved after it.
abbrev pub bp_offset : ℕ → ℕ → ℤ
bp_offset words after = pos words -ℤ pos (2 + after)

-- The rule for a stack of so many words.
abbrev pub frameless_rule : ℕ → Option ℕ → CuiResult UnwindRuleX86_64
frameless_rule words None = Ok (ExecRule (OffsetSp words))
frameless_rule words (Some after) =
    if fits_i16 (bp_offset words after) then Ok (ExecRule (OffsetSpAndRestoreBp words (bp_offset words after))) else Err BpOffsetDoesNotFit

-- The rule for a stack size in the encoding. One word is the return address alone.
abbrev pub immediate_rule : ℕ → Option ℕ → CuiResult UnwindRuleX86_64
immediate_rule words after_bp = if words == 1 then Ok (ExecRule JustReturn) else frameless_rule words after_bp

-- A size in bytes as words.
abbrev pub words_of : ℕ → Refusable ℕ
words_of size =
    if not (nat_lt size (2 ^ 32)) then Err StackAdjustOverflow else
    if (size % 8 == 0) && nat_lt (size / 8) (2 ^ 16) then Ok (size / 8) else Err StackSizeDoesNotFit

-- The stack size in the code of a function: the number of 32 bits at an offset, and so many bytes more.
abbrev pub stack_size : Option (List ℕ) → ℕ → ℕ → Refusable ℕ
stack_size None offset adjust = Err NoTextBytesToLookUpIndirectStackOffset
stack_size (Some text) offset adjust =
    if nat_le (offset + 4) (length text) then words_of (u32_at text offset + adjust) else Err IndirectStackOffsetOutOfBounds

-- The rule for it.
abbrev pub indirect_rule : Option (List ℕ) → ℕ → ℕ → Option ℕ → CuiResult UnwindRuleX86_64
indirect_rule text offset adjust after_bp = then_by (stack_size text offset adjust) (λ words. frameless_rule words after_bp)
