-- What the stack pointer, x29 and x30 hold after instructions, by what the registers and the stack hold now.
use Rattle.std.specs.Prelude.{ℕ, zero, ◌≡◌, ◌*◌, ◌*ℤ◌, ◌^◌, ◌==◌, ◌||◌, not, nat_lt, nat_le, Bool, true, false, if◌then◌else◌, ℤ, pos, negsuc, ◌+ℤ◌, ◌-ℤ◌, List, [], ◌∷◌, ◌++◌, fold, length, Option, Some, None, option_and_then}
use Rattle.framehop_rules.specs.declared.aarch64.unwind_rule.UnwindRuleAarch64.{UnwindRuleAarch64}
use Rattle.framehop_rules.specs.declared.aarch64.unwind_rule.UnwindRuleAarch64.TheVariants.{NoOp, OffsetSp, OffsetSpAndRestoreLr, OffsetSpAndRestoreFpAndLr, UseFramepointerWithOffsets}
use Rattle.framehop_ways.specs.declared.executed.Executed.{Executed}
use Rattle.framehop_ways.specs.declared.instruction.Access.{Access}
use Rattle.framehop_ways.specs.declared.instruction.Base.{Base}
use Rattle.framehop_ways.specs.declared.instruction.Base.TheVariants.{StackPointer, FramePointer}
use Rattle.framehop_ways.specs.declared.instruction.Lost.{Lost}
use Rattle.framehop_ways.specs.declared.instruction.Instruction.{Instruction}
use Rattle.framehop_ways.specs.declared.instruction.Instruction.TheVariants.{Load, Store, Move, Call, Plain, Unknown}
use Rattle.framehop_ways.specs.declared.values.Value.{Value}
use Rattle.framehop_ways.specs.declared.values.Value.TheVariants.{Address, Word, LinkRegister, Any}
use Rattle.framehop_ways.specs.declared.values.Values.{Values}
use Rattle.framehop_ways.specs.declared.values.Saved.{Saved}

-- Whether a number has 32 bits with its sign.
abbrev pub is_near : ℤ → Bool
is_near (pos n) = nat_lt n (2 ^ 31)
is_near (negsuc n) = nat_lt n (2 ^ 31)

-- What a base holds.
abbrev pub value_of : Values → Base → Value
value_of values StackPointer = values.sp
value_of values FramePointer = values.fp

abbrev pub with_base : Values → Base → Value → Values
with_base values StackPointer value = record values { sp = value }
with_base values FramePointer value = record values { fp = value }

-- A value that goes up by a number of bytes.
abbrev pub moved_by : Value → ℤ → Value
moved_by (Address base bytes) by = if is_near (bytes +ℤ by) then Address base (bytes +ℤ by) else Any
moved_by other by = Any

abbrev pub raised : Value → ℤ → Value
raised value (pos zero) = value
raised value by = moved_by value by

-- Where a load or a store is, if the base holds an address.
abbrev pub slot_at : Value → ℤ → Option (Base × ℤ)
slot_at (Address base bytes) by = if is_near (bytes +ℤ by) then Some (base, bytes +ℤ by) else None
slot_at other by = None

-- Whether two words don't overlap.
abbrev pub is_apart : ℤ → Bool
is_apart (pos n) = nat_le 8 n
is_apart (negsuc n) = nat_le 7 n

abbrev pub is_same_base : Base → Base → Bool
is_same_base StackPointer StackPointer = true
is_same_base FramePointer FramePointer = true
is_same_base one other = false

abbrev pub is_zero : ℤ → Bool
is_zero (pos n) = n == 0
is_zero (negsuc n) = false

-- What a word holds, by a word that was saved since: its value, if it is the same; what it held, if it is apart; else anything, also if
-- another base leads to it.
abbrev pub value_behind : Base → ℤ → Value → Saved → Value
value_behind base bytes before saved =
    if not (is_same_base saved.base base) then Any else
    if is_zero (saved.bytes -ℤ bytes) then saved.value else
    if is_apart (saved.bytes -ℤ bytes) then before else Any

-- What a word holds, by all that was saved.
abbrev pub word_at : List Saved → Base → ℤ → Value
word_at saved base bytes = fold (value_behind base bytes) (Word base bytes) saved

-- What is loaded.
abbrev pub loaded_from : List Saved → Option (Base × ℤ) → Value
loaded_from saved None = Any
loaded_from saved (Some (base, bytes)) = word_at saved base bytes

abbrev pub loaded : List Saved → Value → ℤ → Value
loaded saved base by = loaded_from saved (slot_at base by)

-- A register of the three by its number.
abbrev pub with_register : Values → ℕ → Value → Values
with_register values number value =
    if number == 29 then record values { fp = value } else
    if number == 30 then record values { lr = value } else values

-- The link register is known if it holds what it does now: the bits of a signature don't count in it.
abbrev pub if_link_register : Value → Value
if_link_register LinkRegister = LinkRegister
if_link_register other = Any

abbrev pub register_value : Values → ℕ → Value
register_value values number = if number == 29 then values.fp else if number == 30 then if_link_register values.lr else Any

-- The base after an access.
abbrev pub with_raised : Values → Access → Values
with_raised values access = with_base values access.base (raised (value_of values access.base) access.raise)

-- A load: the base goes up, and then the registers hold what was at the base before.
abbrev pub values_after_load : Values → List Saved → Access → Values
values_after_load values saved access =
    let base = value_of values access.base in
    with_register (with_register (with_raised values access) access.first (loaded saved base access.offset))
    access.second (loaded saved base (access.offset +ℤ pos 8))

-- A store of one register. Only those of x29 and x30 are kept. There is nothing more to be said once one of these is stored nobody knows
-- where, or more than 32 are.
abbrev pub is_carried : ℕ → Bool
is_carried number = (number == 29) || (number == 30)

abbrev pub saved_in : List Saved → Value → Option (Base × ℤ) → Option (List Saved)
saved_in saved value None = None
saved_in saved value (Some (base, bytes)) =
    if nat_lt (length saved) 32 then Some (saved ++ (record { base = base; bytes = bytes; value = value }) ∷ []) else None

abbrev pub saved_after : Values → List Saved → ℕ → Value → ℤ → Option (List Saved)
saved_after values saved number base by =
    if is_carried number then saved_in saved (register_value values number) (slot_at base by) else Some saved

abbrev pub saved_after_store : Values → List Saved → Access → Option (List Saved)
saved_after_store values saved access =
    let base = value_of values access.base in
    option_and_then (λ one. saved_after values one access.second base (access.offset +ℤ pos 8))
    (saved_after values saved access.first base access.offset)

-- Values that are lost.
abbrev pub value_if_kept : Bool → Value → Value
value_if_kept is_lost value = if is_lost then Any else value

abbrev pub with_lost : Values → Lost → Values
with_lost values lost = record {
  sp = value_if_kept lost.sp values.sp;
  fp = value_if_kept lost.fp values.fp;
  lr = value_if_kept lost.lr values.lr;
}

-- What the three hold and what is saved after an instruction, if there is something to be said.
abbrev pub held_after : Instruction → Values → List Saved → Option (Values × List Saved)
held_after (Load access) values saved = Some (values_after_load values saved access, saved)
held_after (Store access) values saved = option_and_then (λ more. Some (with_raised values access, more)) (saved_after_store values saved access)
held_after (Move to from bytes) values saved = Some (with_base values to (raised (value_of values from) bytes), saved)
held_after Call values saved = Some (record values { lr = Any }, saved)
held_after (Plain lost) values saved = Some (with_lost values lost, saved)
held_after Unknown values saved = None
held_after other values saved = Some (values, saved)

-- The same after instructions, one after the other.
abbrev pub held_after_all : List Executed → Values → List Saved → Option Values
held_after_all [] values saved = Some values
held_after_all (one ∷ more) values saved =
    option_and_then (λ held. held_after_all more held.0 held.1) (held_after one.instruction values saved)

-- What they hold now.
abbrev pub values_now : Values
values_now = record { sp = Address StackPointer (pos 0); fp = Address FramePointer (pos 0); lr = LinkRegister }

-- The rule says so: the stack pointer goes up by a number of bytes from itself or from x29, and x29 and x30 are kept or stored at offsets
-- from the same.
abbrev pub IsRuleOf : Values → UnwindRuleAarch64 → Type 0
IsRuleOf values NoOp = values ≡ values_now
IsRuleOf values (OffsetSp x) = values ≡ record values_now { sp = Address StackPointer (pos (16 * x)) }
IsRuleOf values (OffsetSpAndRestoreLr x y) =
    values ≡ record values_now { sp = Address StackPointer (pos (16 * x)); lr = Word StackPointer (pos 8 *ℤ y) }
IsRuleOf values (OffsetSpAndRestoreFpAndLr x y z) =
    values ≡ record { sp = Address StackPointer (pos (16 * x)); fp = Word StackPointer (pos 8 *ℤ y); lr = Word StackPointer (pos 8 *ℤ z) }
IsRuleOf values (UseFramepointerWithOffsets x y z) =
    values ≡ record { sp = Address FramePointer (pos (8 * x)); fp = Word FramePointer (pos 8 *ℤ y); lr = Word FramePointer (pos 8 *ℤ z) }
IsRuleOf values other = ⊥

-- A rule for what the three hold after a way.
abbrev pub IsRuleOfWay : List Executed → UnwindRuleAarch64 → Type 0
IsRuleOfWay way rule = (values : Values) × (held_after_all way values_now [] ≡ Some values) × IsRuleOf values rule
