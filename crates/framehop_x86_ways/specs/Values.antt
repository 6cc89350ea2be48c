-- What RSP and RBP hold after instructions, by what the registers and the stack hold now.
use Rattle.std.specs.Prelude.{◌^◌, ◌==◌, ◌&&◌, not, nat_lt, nat_le, Bool, true, false, if◌then◌else◌, ℤ, pos, negsuc, ◌+ℤ◌, ◌-ℤ◌, List, [], ◌∷◌, ◌++◌, fold, length, Option, Some, None, option_and_then, option_map}
use Rattle.framehop_registers.specs.declared.x86_64.unwindregs.Reg.{Reg}
use Rattle.framehop_registers.specs.declared.x86_64.unwindregs.Reg.TheVariants.{RSP, RBP}
use Rattle.framehop_x86_instructions.specs.Registers.{contains}
use Rattle.framehop_x86_instructions.specs.declared.address.Address as addresses
use Rattle.framehop_x86_instructions.specs.declared.address.Base.{Base}
use Rattle.framehop_x86_instructions.specs.declared.address.Base.TheVariants.{StackPointer, FramePointer}
use Rattle.framehop_x86_instructions.specs.declared.effect.Effect.{Effect}
use Rattle.framehop_x86_instructions.specs.declared.effect.Effect.TheVariants.{Push, Pop, Leave, Move, Load, Store, Call, Return, Plain, Unknown}
use Rattle.framehop_x86_instructions.specs.declared.registers.Registers.{Registers}
use Rattle.framehop_x86_ways.specs.declared.executed.Executed.{Executed}
use Rattle.framehop_x86_ways.specs.declared.values.Value.{Value}
use Rattle.framehop_x86_ways.specs.declared.values.Value.TheVariants.{Address, Word, Any}
use Rattle.framehop_x86_ways.specs.declared.values.Values.{Values}
use Rattle.framehop_x86_ways.specs.declared.values.Returned.{Returned}
use Rattle.framehop_x86_ways.specs.declared.values.Saved.{Saved}

-- Whether a number has 32 bits with its sign.
abbrev pub is_near : ℤ → Bool
is_near (pos n) = nat_lt n (2 ^ 31)
is_near (negsuc n) = nat_lt n (2 ^ 31)

-- What a base holds.
abbrev pub value_of : Values → Base → Value
value_of values StackPointer = values.sp
value_of values FramePointer = values.fp

-- A value that goes up by a number of bytes.
abbrev pub moved_by : Value → ℤ → Value
moved_by (Address base bytes) by = if is_near (bytes +ℤ by) then Address base (bytes +ℤ by) else Any
moved_by other by = Any

-- The word so many bytes from where a value leads, if that is an address.
abbrev pub slot_at : Value → ℤ → Option (Base × ℤ)
slot_at (Address base bytes) by = if is_near (bytes +ℤ by) then Some (base, bytes +ℤ by) else None
slot_at other by = None

abbrev pub is_same_base : Base → Base → Bool
is_same_base StackPointer StackPointer = true
is_same_base FramePointer FramePointer = true
is_same_base one other = false

abbrev pub is_zero : ℤ → Bool
is_zero (pos n) = n == 0
is_zero (negsuc n) = false

-- Whether a word that was stored leaves another as it was, from which it is so many bytes. A call stores the return address, and leaves
-- nothing as it was that is lower.
abbrev pub is_apart : Bool → ℤ → Bool
is_apart is_call (pos n) = not is_call && nat_le 8 n
is_apart is_call (negsuc n) = nat_le 7 n

-- Whether a word is where RBP leads now or higher, and whether one is below where RSP does. No frame that RBP leads to is below RSP.
abbrev pub is_in_frame : Base → ℤ → Bool
is_in_frame FramePointer (pos n) = true
is_in_frame base bytes = false

abbrev pub is_below_now : Base → ℤ → Bool
is_below_now StackPointer (negsuc n) = nat_le 7 n
is_below_now base bytes = false

-- What a word holds, by a word that was stored since, from the same base: its value, if it is the same; what it held, if it is apart; else
-- anything.
abbrev pub value_by_distance : ℤ → Value → Saved → Value
value_by_distance distance before saved =
    if is_zero distance then saved.value else if is_apart saved.is_call distance then before else Any

-- The same from another base: it is what it held, if that is a word of the frame.
abbrev pub if_in_frame : Value → Value
if_in_frame (Word FramePointer bytes) = Word FramePointer bytes
if_in_frame other = Any

abbrev pub value_by_base : Base → ℤ → Value → Saved → Value
value_by_base base bytes before saved = if is_in_frame base bytes && is_below_now saved.base saved.bytes then if_in_frame before else Any

abbrev pub value_behind : Base → ℤ → Value → Saved → Value
value_behind base bytes before saved =
    if is_same_base saved.base base then value_by_distance (saved.bytes -ℤ bytes) before saved else value_by_base base bytes before saved

-- What a word holds, by all that was stored.
abbrev pub word_at : List Saved → Base → ℤ → Value
word_at saved base bytes = fold (value_behind base bytes) (Word base bytes) saved

-- What is loaded.
abbrev pub loaded_from : List Saved → Option (Base × ℤ) → Value
loaded_from saved None = Any
loaded_from saved (Some (base, bytes)) = word_at saved base bytes

abbrev pub loaded : List Saved → Value → ℤ → Value
loaded saved base by = loaded_from saved (slot_at base by)

-- What a register holds, and the values once it holds another: of all but RSP and RBP nothing is kept.
abbrev pub register_value : Values → Reg → Value
register_value values RSP = values.sp
register_value values RBP = values.fp
register_value values other = Any

abbrev pub with_register : Values → Reg → Value → Values
with_register values RSP value = record values { sp = value }
with_register values RBP value = record values { fp = value }
with_register values other value = values

-- A word is stored. There is nothing more to be said if nobody knows where, or once more than 128 are.
abbrev pub saved_in : List Saved → Value → Bool → Option (Base × ℤ) → Option (List Saved)
saved_in saved value is_call None = None
saved_in saved value is_call (Some (base, bytes)) =
    if nat_lt (length saved) 128 then Some (saved ++ (record { base = base; bytes = bytes; value = value; is_call = is_call }) ∷ []) else None

-- The word below RSP is stored, by a push or a call.
abbrev pub saved_below : Values → List Saved → Value → Bool → Option (List Saved)
saved_below values saved value is_call = saved_in saved value is_call (slot_at values.sp (negsuc 7))

-- What a push stores. Of a number or the flags nothing is kept.
abbrev pub pushed_value : Values → Option Reg → Value
pushed_value values None = Any
pushed_value values (Some register) = register_value values register

-- A store, of which those of RSP and RBP are kept.
abbrev pub is_carried : Reg → Bool
is_carried RSP = true
is_carried RBP = true
is_carried other = false

abbrev pub saved_after_store : Values → List Saved → Reg → addresses.Address → Option (List Saved)
saved_after_store values saved from to =
    if is_carried from then saved_in saved (register_value values from) false (slot_at (value_of values to.base) to.bytes) else Some saved

-- A pop: RSP goes up, and then the register holds the word that was there.
abbrev pub values_after_pop : Values → List Saved → Option Reg → Values
values_after_pop values saved None = record values { sp = moved_by values.sp (pos 8) }
values_after_pop values saved (Some register) =
    with_register (record values { sp = moved_by values.sp (pos 8) }) register (loaded saved values.sp (pos 0))

-- LEAVE: a pop of RBP from where RBP leads.
abbrev pub values_after_leave : Values → List Saved → Values
values_after_leave values saved = record { sp = moved_by values.fp (pos 8); fp = loaded saved values.fp (pos 0) }

-- Values that are lost.
abbrev pub value_if_kept : Bool → Value → Value
value_if_kept is_lost value = if is_lost then Any else value

abbrev pub with_lost : Values → Registers → Values
with_lost values lost = record {
  sp = value_if_kept (contains lost RSP) values.sp;
  fp = value_if_kept (contains lost RBP) values.fp;
}

-- What RSP and RBP hold after an instruction.
abbrev pub values_after : Effect → Values → List Saved → Values
values_after (Push register) values saved = record values { sp = moved_by values.sp (negsuc 7) }
values_after (Pop register) values saved = values_after_pop values saved register
values_after Leave values saved = values_after_leave values saved
values_after (Move to base bytes) values saved = with_register values to (moved_by (value_of values base) bytes)
values_after (Load to from) values saved = with_register values to (loaded saved (value_of values from.base) from.bytes)
values_after (Plain registers) values saved = with_lost values registers
values_after other values saved = values

-- What is stored after an instruction, if there is something to be said. A return that takes arguments from the stack isn't followed.
abbrev pub saved_after : Effect → Values → List Saved → Option (List Saved)
saved_after (Push register) values saved = saved_below values saved (pushed_value values register) false
saved_after Call values saved = saved_below values saved Any true
saved_after (Store from to) values saved = saved_after_store values saved from to
saved_after (Return bytes) values saved = if bytes == 0 then Some saved else None
saved_after Unknown values saved = None
saved_after other values saved = Some saved

-- Both.
abbrev pub held_after : Effect → Values → List Saved → Option (Values × List Saved)
held_after effect values saved = option_map (λ more. (values_after effect values saved, more)) (saved_after effect values saved)

-- The same after instructions, one after the other.
abbrev pub held_after_all : List Executed → Values → List Saved → Option (Values × List Saved)
held_after_all [] values saved = Some (values, saved)
held_after_all (one ∷ more) values saved =
    option_and_then (λ held. held_after_all more held.0 held.1) (held_after one.instruction.effect values saved)

-- What they hold now.
abbrev pub values_now : Values
values_now = record { sp = Address StackPointer (pos 0); fp = Address FramePointer (pos 0) }

abbrev pub held_after_way : List Executed → Option (Values × List Saved)
held_after_way way = held_after_all way values_now []

-- What RSP and RBP hold, and the return address, once the function has returned from there: it is the word at RSP, which then goes up.
abbrev pub returned : Values → List Saved → Returned
returned values saved = record {
  sp = moved_by values.sp (pos 8);
  fp = values.fp;
  return_address = loaded saved values.sp (pos 0);
}
