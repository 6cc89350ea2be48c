-- The unwind rule of a way, by what RSP and RBP hold after it, and where the return address is.
use Rattle.std.specs.Prelude.{ℕ, ◌≡◌, ◌*◌, ◌*ℤ◌, ◌/◌, ◌%◌, ◌^◌, ◌==◌, ◌&&◌, not, nat_lt, Bool, false, if◌then◌else◌, ℤ, pos, negsuc, ◌-ℤ◌, ◌≤ℤ◌, List, Option, Some, None, option_and_then, option_map}
use Rattle.framehop_rules.specs.declared.x86_64.unwind_rule.UnwindRuleX86_64.{UnwindRuleX86_64}
use Rattle.framehop_rules.specs.declared.x86_64.unwind_rule.UnwindRuleX86_64.TheVariants.{JustReturn, OffsetSp, OffsetSpAndRestoreBp, UseFramePointer}
use Rattle.framehop_ways.specs.declared.executed.Bounds.{Bounds}
use Rattle.framehop_x86_instructions.specs.declared.address.Base.{Base}
use Rattle.framehop_x86_instructions.specs.declared.address.Base.TheVariants.{StackPointer, FramePointer}
use Rattle.framehop_x86_ways.specs.FirstWay.{way_in}
use Rattle.framehop_x86_ways.specs.Values.{held_after_way, is_same_base, is_zero, returned}
use Rattle.framehop_x86_ways.specs.declared.executed.Executed.{Executed}
use Rattle.framehop_x86_ways.specs.declared.values.Returned.{Returned}
use Rattle.framehop_x86_ways.specs.declared.values.Saved.{Saved}
use Rattle.framehop_x86_ways.specs.declared.values.Value.{Value}
use Rattle.framehop_x86_ways.specs.declared.values.Value.TheVariants.{Address, Word}
use Rattle.framehop_x86_ways.specs.declared.values.Values.{Values}

-- A number of bytes in words of 8, as a field of a rule of 16 bits, without a sign or with one. None is below 0: below RSP a stack that is
-- walked has no words.
abbrev pub words_of : ℤ → Option ℕ
words_of (pos n) = if (n % 8 == 0) && nat_lt (n / 8) (2 ^ 16) then Some (n / 8) else None
words_of (negsuc n) = None

abbrev pub as_i16 : ℕ → Option ℤ
as_i16 n = if nat_lt n (2 ^ 15) then Some (pos n) else None

-- Whether a value is the word so many bytes from a base now, or what a base holds now plus so many bytes.
abbrev pub is_word : Value → Base → ℤ → Bool
is_word (Word other bytes) base at = is_same_base other base && is_zero (bytes -ℤ at)
is_word other base at = false

abbrev pub is_address : Value → Base → ℤ → Bool
is_address (Address other bytes) base at = is_same_base other base && is_zero (bytes -ℤ at)
is_address other base at = false

-- How many words from RSP now a word is.
abbrev pub stored_words : Value → Option ℤ
stored_words (Word StackPointer bytes) = option_and_then as_i16 (words_of bytes)
stored_words other = None

-- The rule for an RSP that goes up by so many words, where RBP is kept or loaded.
abbrev pub rule_with_kept_fp : ℕ → UnwindRuleX86_64
rule_with_kept_fp words = if words == 1 then JustReturn else OffsetSp words

abbrev pub rule_by_words : Value → ℕ → Option UnwindRuleX86_64
rule_by_words fp words =
    if is_address fp FramePointer (pos 0) then Some (rule_with_kept_fp words) else option_map (λ at. OffsetSpAndRestoreBp words at) (stored_words fp)

-- The rule for an RSP that goes up by so many bytes, below which the return address is, which isn't below RSP now.
abbrev pub rule_by_sp : Returned → ℤ → Option UnwindRuleX86_64
rule_by_sp left bytes =
    option_and_then (λ words.
    if not (words == 0) && is_word left.return_address StackPointer (bytes -ℤ pos 8) then rule_by_words left.fp words else None) (words_of bytes)

-- The rule for an RSP that is so many bytes above RBP, where RBP is stored, with the return address above it.
abbrev pub rule_by_fp : Returned → ℤ → Option UnwindRuleX86_64
rule_by_fp left bytes =
    if is_zero (bytes -ℤ pos 16) && is_word left.fp FramePointer (pos 0) && is_word left.return_address FramePointer (pos 8) then
    Some UseFramePointer else None

-- The rule for what they hold, by RSP.
abbrev pub rule_by : Returned → Value → Option UnwindRuleX86_64
rule_by left (Address StackPointer bytes) = rule_by_sp left bytes
rule_by left (Address FramePointer bytes) = rule_by_fp left bytes
rule_by left other = None

abbrev pub rule_of : Returned → Option UnwindRuleX86_64
rule_of left = rule_by left left.sp

-- The rule of a way.
abbrev pub rule_of_way : List Executed → Option UnwindRuleX86_64
rule_of_way way = option_and_then (λ held. rule_of (returned held.0 held.1)) (held_after_way way)

-- The rule of the first way out of a function from a place of a text.
abbrev pub first_way_rule : List ℕ → Bounds → ℕ → Option UnwindRuleX86_64
first_way_rule text bounds at = option_and_then rule_of_way (way_in 128 text bounds at)

-- The rule says so: RSP goes up by a number of bytes from itself or from RBP, with the return address below it, and RBP is kept or stored.
abbrev pub IsRuleOf : Returned → UnwindRuleX86_64 → Type 0
IsRuleOf left JustReturn =
    left ≡ record { sp = Address StackPointer (pos 8); fp = Address FramePointer (pos 0); return_address = Word StackPointer (pos 0) }
IsRuleOf left (OffsetSp x) =
    left ≡ record {
      sp = Address StackPointer (pos (8 * x));
      fp = Address FramePointer (pos 0);
      return_address = Word StackPointer (pos (8 * x) -ℤ pos 8);
    }
IsRuleOf left (OffsetSpAndRestoreBp x y) =
    (pos 0 ≤ℤ y) × (left ≡ record {
      sp = Address StackPointer (pos (8 * x));
      fp = Word StackPointer (pos 8 *ℤ y);
      return_address = Word StackPointer (pos (8 * x) -ℤ pos 8);
    })
IsRuleOf left UseFramePointer =
    left ≡ record { sp = Address FramePointer (pos 16); fp = Word FramePointer (pos 0); return_address = Word FramePointer (pos 8) }
IsRuleOf left other = ⊥

-- A rule for what they hold after a way.
abbrev pub IsRuleOfWay : List Executed → UnwindRuleX86_64 → Type 0
IsRuleOfWay way rule =
    (held : Values × List Saved) × (held_after_way way ≡ Some held) × IsRuleOf (returned held.0 held.1) rule
