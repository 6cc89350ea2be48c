-- The unwind rule of a way, by what the stack pointer, x29 and x30 hold after it.
use Rattle.std.specs.Prelude.{ℕ, ◌%◌, ◌^◌, ◌==◌, nat_lt, Bool, false, if◌then◌else◌, ℤ, pos, negsuc, unsigned_abs, int_div, List, [], Option, Some, None, option_and_then, option_map}
use Rattle.framehop_rules.specs.declared.aarch64.unwind_rule.UnwindRuleAarch64.{UnwindRuleAarch64}
use Rattle.framehop_rules.specs.declared.aarch64.unwind_rule.UnwindRuleAarch64.TheVariants.{NoOp, OffsetSp, OffsetSpAndRestoreLr, OffsetSpAndRestoreFpAndLr, UseFramepointerWithOffsets}
use Rattle.framehop_ways.specs.FirstWay.{way_in}
use Rattle.framehop_ways.specs.Values.{held_after_all, is_zero, values_now}
use Rattle.framehop_ways.specs.declared.executed.Bounds.{Bounds}
use Rattle.framehop_ways.specs.declared.executed.Executed.{Executed}
use Rattle.framehop_ways.specs.declared.instruction.Base.{Base}
use Rattle.framehop_ways.specs.declared.instruction.Base.TheVariants.{StackPointer, FramePointer}
use Rattle.framehop_ways.specs.declared.values.Value.{Value}
use Rattle.framehop_ways.specs.declared.values.Value.TheVariants.{Address, Word, LinkRegister}
use Rattle.framehop_ways.specs.declared.values.Values.{Values}

-- A number of bytes in units of 8 or 16, if it is a multiple.
abbrev pub eighth_of : ℤ → Option ℤ
eighth_of bytes = if unsigned_abs bytes % 8 == 0 then Some (int_div bytes (pos 8)) else None

abbrev pub sixteenth_of : ℤ → Option ℤ
sixteenth_of bytes = if unsigned_abs bytes % 16 == 0 then Some (int_div bytes (pos 16)) else None

-- A number as a field of a rule, of 16 bits without a sign or with one.
abbrev pub as_u16 : ℤ → Option ℕ
as_u16 (pos n) = if nat_lt n (2 ^ 16) then Some n else None
as_u16 (negsuc n) = None

abbrev pub as_i16 : ℤ → Option ℤ
as_i16 (pos n) = if nat_lt n (2 ^ 15) then Some (pos n) else None
as_i16 (negsuc n) = if nat_lt n (2 ^ 15) then Some (negsuc n) else None

-- How many bytes from a base now a word is, if a register holds it.
abbrev pub stored_at : Value → Base → Option ℤ
stored_at (Word StackPointer bytes) StackPointer = Some bytes
stored_at (Word FramePointer bytes) FramePointer = Some bytes
stored_at other base = None

-- The same in words, as a field of a rule.
abbrev pub stored_words : Value → Base → Option ℤ
stored_words value base = option_and_then as_i16 (option_and_then eighth_of (stored_at value base))

-- Whether a register holds what a base does now.
abbrev pub is_kept : Value → Base → Bool
is_kept (Address StackPointer bytes) StackPointer = is_zero bytes
is_kept (Address FramePointer bytes) FramePointer = is_zero bytes
is_kept other base = false

-- The rule for a stack pointer that is so many bytes above x29, from which x29 and x30 are loaded.
abbrev pub rule_by_fp : Values → ℤ → Option UnwindRuleAarch64
rule_by_fp values bytes =
    option_and_then (λ sp.
    option_and_then (λ fp.
    option_map (λ lr. UseFramepointerWithOffsets sp fp lr) (stored_words values.lr FramePointer))
    (stored_words values.fp FramePointer)) (option_and_then as_u16 (eighth_of bytes))

-- The rule for a stack pointer that goes up by so many pairs of words, where x29 is kept.
abbrev pub rule_with_kept_fp : ℕ → Value → Option UnwindRuleAarch64
rule_with_kept_fp pairs LinkRegister = Some (if pairs == 0 then NoOp else OffsetSp pairs)
rule_with_kept_fp pairs lr = option_map (λ words. OffsetSpAndRestoreLr pairs words) (stored_words lr StackPointer)

-- The rule where x29 and x30 are loaded.
abbrev pub rule_with_loads : ℕ → Values → Option UnwindRuleAarch64
rule_with_loads pairs values =
    option_and_then (λ fp. option_map (λ lr. OffsetSpAndRestoreFpAndLr pairs fp lr) (stored_words values.lr StackPointer))
    (stored_words values.fp StackPointer)

-- The rule for a stack pointer that goes up by so many bytes.
abbrev pub rule_by_sp : Values → ℤ → Option UnwindRuleAarch64
rule_by_sp values bytes =
    option_and_then (λ pairs. if is_kept values.fp FramePointer then rule_with_kept_fp pairs values.lr else rule_with_loads pairs values)
    (option_and_then as_u16 (sixteenth_of bytes))

-- The rule for what the three registers hold, by the stack pointer.
abbrev pub rule_by : Values → Value → Option UnwindRuleAarch64
rule_by values (Address StackPointer bytes) = rule_by_sp values bytes
rule_by values (Address FramePointer bytes) = rule_by_fp values bytes
rule_by values other = None

-- The rule of a way.
abbrev pub rule_of_way : List Executed → Option UnwindRuleAarch64
rule_of_way way = option_and_then (λ values. rule_by values values.sp) (held_after_all way values_now [])

-- The rule of the first way out of a function from a place of a text.
abbrev pub first_way_rule : List ℕ → Bounds → ℕ → Option UnwindRuleAarch64
first_way_rule text bounds at = option_and_then rule_of_way (way_in 128 text bounds at)
