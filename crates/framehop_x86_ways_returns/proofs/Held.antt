-- What RSP and RBP hold after a way is what the machine has.
use Rattle.std.proofs.Common.{◌≡◌, ℕ, refl, sym, subst, Bool, true, false, List, [], ◌∷◌, Option, Some, None}
use Rattle.std.specs.Prelude.{pos, negsuc, ◌==◌, if◌then◌else◌, IsTrue, option_and_then, option_map}
use Rattle.framehop_registers.specs.declared.x86_64.unwindregs.Reg.{Reg}
use Rattle.framehop_registers.specs.declared.x86_64.unwindregs.Reg.TheVariants.{RAX, RDX, RCX, RBX, RSI, RDI, RBP, RSP, R8, R9, R10, R11, R12, R13, R14, R15}
use Rattle.framehop_analysis.specs.Machine.{State}
use Rattle.framehop_analysis.specs.MachineAarch64.{moved}
use Rattle.framehop_x86_instructions.specs.Registers.{contains}
use Rattle.framehop_x86_instructions.specs.declared.address.Address as addresses
use Rattle.framehop_x86_instructions.specs.declared.address.Base.{Base}
use Rattle.framehop_x86_instructions.specs.declared.address.Base.TheVariants.{StackPointer, FramePointer}
use Rattle.framehop_x86_instructions.specs.declared.effect.Effect.{Effect}
use Rattle.framehop_x86_instructions.specs.declared.effect.Effect.TheVariants.{Push, Pop, Leave, Move, Load, Store, Call, Jump, JumpIf, JumpAway, Return, Plain, Unknown}
use Rattle.framehop_x86_ways.specs.Values.{value_of, moved_by, loaded, register_value, with_register, is_carried, pushed_value, saved_after_store, values_after, saved_after, value_if_kept, held_after, held_after_all}
use Rattle.framehop_x86_ways.specs.declared.executed.Executed.{Executed}
use Rattle.framehop_x86_ways.specs.declared.values.Value.{Value}
use Rattle.framehop_x86_ways.specs.declared.values.Values.{Values}
use Rattle.framehop_x86_ways.specs.declared.values.Saved.{Saved}
use Rattle.framehop_x86_ways_returns.specs.WayReturns.{base_in, put, IsValueOf, IsPushed, state_after_push, state_after_pop, state_after_leave, address_in, memory_after_store, Agrees, IsStep, Runs}
use Rattle.framehop_x86_ways_returns.proofs.Words.{Holds, moved_holds, HasWords, words_kept, loaded_holds, loaded_here, saved_in_holds, call_holds}

-- ---- RSP and RBP

pub record HoldsBoth (s : State) (values : Values) (t : State) : Type 0 where
  pub sp : Holds s values.sp t.sp
  pub bp : Holds s values.fp t.bp

base_holds : (s : State) (values : Values) (t : State) (base : Base) → HoldsBoth s values t → Holds s (value_of values base) (base_in t base)
base_holds s values t StackPointer is = is.sp
base_holds s values t FramePointer is = is.bp

pub record IsHeld (kept : ℕ → Bool) (s : State) (values : Values) (saved : List Saved) (t : State) : Type 0 where
  pub both : HoldsBoth s values t
  pub words : HasWords kept s saved t.memory

-- a register holds another value
put_held : (kept : ℕ → Bool) (s : State) (values : Values) (saved : List Saved) (t : State) (register : Reg) (n : ℕ) (value : Value) → IsHeld kept s values saved t
    → (IsTrue (is_carried register) → Holds s value n) → IsHeld kept s (with_register values register value) saved (put register n t)
put_held kept s values saved t RSP n value is new = record { both = record { sp = new refl; bp = is.both.bp }; words = is.words }
put_held kept s values saved t RBP n value is new = record { both = record { sp = is.both.sp; bp = new refl }; words = is.words }
put_held kept s values saved t RAX n value is new = is
put_held kept s values saved t RDX n value is new = is
put_held kept s values saved t RCX n value is new = is
put_held kept s values saved t RBX n value is new = is
put_held kept s values saved t RSI n value is new = is
put_held kept s values saved t RDI n value is new = is
put_held kept s values saved t R8 n value is new = is
put_held kept s values saved t R9 n value is new = is
put_held kept s values saved t R10 n value is new = is
put_held kept s values saved t R11 n value is new = is
put_held kept s values saved t R12 n value is new = is
put_held kept s values saved t R13 n value is new = is
put_held kept s values saved t R14 n value is new = is
put_held kept s values saved t R15 n value is new = is

agrees_held : (kept : ℕ → Bool) (s : State) (values : Values) (saved : List Saved) (t after : State) → IsHeld kept s values saved t → Agrees kept t after → IsHeld kept s values saved after
agrees_held kept s values saved t after held same = record {
  both = record {
    sp = subst (λ (n : ℕ). Holds s values.sp n) (sym same.sp) held.both.sp;
    bp = subst (λ (n : ℕ). Holds s values.fp n) (sym same.bp) held.both.bp;
  };
  words = words_kept kept s saved t.memory after.memory same.words held.words;
}

-- ---- pushes and stores

value_holds : (s : State) (values : Values) (t : State) (register : Reg) (word : ℕ) → HoldsBoth s values t → IsValueOf t register word → Holds s (register_value values register) word
value_holds s values t RSP word is same = subst (λ (n : ℕ). Holds s values.sp n) (sym same) is.sp
value_holds s values t RBP word is same = subst (λ (n : ℕ). Holds s values.fp n) (sym same) is.bp
value_holds s values t RAX word is same = tt
value_holds s values t RDX word is same = tt
value_holds s values t RCX word is same = tt
value_holds s values t RBX word is same = tt
value_holds s values t RSI word is same = tt
value_holds s values t RDI word is same = tt
value_holds s values t R8 word is same = tt
value_holds s values t R9 word is same = tt
value_holds s values t R10 word is same = tt
value_holds s values t R11 word is same = tt
value_holds s values t R12 word is same = tt
value_holds s values t R13 word is same = tt
value_holds s values t R14 word is same = tt
value_holds s values t R15 word is same = tt

pushed_holds : (s : State) (values : Values) (t : State) (register : Option Reg) (word : ℕ) → HoldsBoth s values t → IsPushed t register word → Holds s (pushed_value values register) word
pushed_holds s values t None word is same = tt
pushed_holds s values t (Some register) word is same = value_holds s values t register word is same

store_holds : (kept : ℕ → Bool) (s : State) (values : Values) (saved more : List Saved) (t : State) (from : Reg) (to : addresses.Address) → IsHeld kept s values saved t
    → saved_after_store values saved from to ≡ Some more → HasWords kept s more (memory_after_store t from to)
store_holds kept s values saved more t RSP to is there =
    saved_in_holds kept s saved more t.memory (value_of values to.base) values.sp (base_in t to.base) t.sp to.bytes (base_holds s values t to.base is.both) is.both.sp is.words there
store_holds kept s values saved more t RBP to is there =
    saved_in_holds kept s saved more t.memory (value_of values to.base) values.fp (base_in t to.base) t.bp to.bytes (base_holds s values t to.base is.both) is.both.bp is.words there
store_holds kept s values saved more t RAX to is there = let list : saved ≡ more = cc in subst (λ (l : List Saved). HasWords kept s l t.memory) list is.words
store_holds kept s values saved more t RDX to is there = let list : saved ≡ more = cc in subst (λ (l : List Saved). HasWords kept s l t.memory) list is.words
store_holds kept s values saved more t RCX to is there = let list : saved ≡ more = cc in subst (λ (l : List Saved). HasWords kept s l t.memory) list is.words
store_holds kept s values saved more t RBX to is there = let list : saved ≡ more = cc in subst (λ (l : List Saved). HasWords kept s l t.memory) list is.words
store_holds kept s values saved more t RSI to is there = let list : saved ≡ more = cc in subst (λ (l : List Saved). HasWords kept s l t.memory) list is.words
store_holds kept s values saved more t RDI to is there = let list : saved ≡ more = cc in subst (λ (l : List Saved). HasWords kept s l t.memory) list is.words
store_holds kept s values saved more t R8 to is there = let list : saved ≡ more = cc in subst (λ (l : List Saved). HasWords kept s l t.memory) list is.words
store_holds kept s values saved more t R9 to is there = let list : saved ≡ more = cc in subst (λ (l : List Saved). HasWords kept s l t.memory) list is.words
store_holds kept s values saved more t R10 to is there = let list : saved ≡ more = cc in subst (λ (l : List Saved). HasWords kept s l t.memory) list is.words
store_holds kept s values saved more t R11 to is there = let list : saved ≡ more = cc in subst (λ (l : List Saved). HasWords kept s l t.memory) list is.words
store_holds kept s values saved more t R12 to is there = let list : saved ≡ more = cc in subst (λ (l : List Saved). HasWords kept s l t.memory) list is.words
store_holds kept s values saved more t R13 to is there = let list : saved ≡ more = cc in subst (λ (l : List Saved). HasWords kept s l t.memory) list is.words
store_holds kept s values saved more t R14 to is there = let list : saved ≡ more = cc in subst (λ (l : List Saved). HasWords kept s l t.memory) list is.words
store_holds kept s values saved more t R15 to is there = let list : saved ≡ more = cc in subst (λ (l : List Saved). HasWords kept s l t.memory) list is.words

-- ---- a step

kept_holds : (s : State) (is_lost : Bool) (value : Value) (n m : ℕ) → (is_lost ≡ false → m ≡ n) → Holds s value n → Holds s (value_if_kept is_lost value) m
kept_holds s true value n m same is = tt
kept_holds s false value n m same is = subst (λ (k : ℕ). Holds s value k) (sym (same refl)) is

same_held : (kept : ℕ → Bool) (s : State) (values : Values) (saved more : List Saved) (after : State) → IsHeld kept s values saved after → Some saved ≡ Some more → IsHeld kept s values more after
same_held kept s values saved more after held same = let list : saved ≡ more = cc in subst (λ (l : List Saved). IsHeld kept s values l after) list held

-- what is held with RSP 8 higher
raised_held : (kept : ℕ → Bool) (s : State) (values : Values) (saved : List Saved) (t : State) → IsHeld kept s values saved t
    → IsHeld kept s (record values { sp = moved_by values.sp (pos 8) }) saved (record t { sp = moved t.sp (pos 8) })
raised_held kept s values saved t is = record { both = record { sp = moved_holds s values.sp t.sp (pos 8) is.both.sp; bp = is.both.bp }; words = is.words }

stepped : (kept : ℕ → Bool) (s : State) (effect : Effect) (values : Values) (saved more : List Saved) (t after : State) → IsHeld kept s values saved t → IsStep kept effect t after
    → saved_after effect values saved ≡ Some more → IsHeld kept s (values_after effect values saved) more after
stepped kept s (Push register) values saved more t after is (word, pushed, agrees) there =
    agrees_held kept s (record values { sp = moved_by values.sp (negsuc 7) }) more (state_after_push word t) after (record {
      both = record { sp = moved_holds s values.sp t.sp (negsuc 7) is.both.sp; bp = is.both.bp };
      words = saved_in_holds kept s saved more t.memory values.sp (pushed_value values register) t.sp word (negsuc 7) is.both.sp (pushed_holds s values t register word is.both pushed) is.words there;
    }) agrees
stepped kept s (Pop None) values saved more t after is step there =
    same_held kept s (record values { sp = moved_by values.sp (pos 8) }) saved more after
    (agrees_held kept s (record values { sp = moved_by values.sp (pos 8) }) saved (state_after_pop None t) after (raised_held kept s values saved t is) step.1) there
stepped kept s (Pop (Some register)) values saved more t after is step there =
    let raised : Values = record values { sp = moved_by values.sp (pos 8) } in
    let word = loaded saved values.sp (pos 0) in
    same_held kept s (with_register raised register word) saved more after
    (agrees_held kept s (with_register raised register word) saved (state_after_pop (Some register) t) after
    (put_held kept s raised saved (record t { sp = moved t.sp (pos 8) }) register (t.memory t.sp) word (raised_held kept s values saved t is)
    (λ carried. loaded_here kept s saved t.memory values.sp t.sp is.words is.both.sp (step.0 carried))) step.1) there
stepped kept s Leave values saved more t after is step there =
    let left : Values = record { sp = moved_by values.fp (pos 8); fp = loaded saved values.fp (pos 0) } in
    same_held kept s left saved more after
    (agrees_held kept s left saved (state_after_leave t) after (record {
      both = record { sp = moved_holds s values.fp t.bp (pos 8) is.both.bp; bp = loaded_here kept s saved t.memory values.fp t.bp is.words is.both.bp step.0 };
      words = is.words;
    }) step.1) there
stepped kept s (Move to base bytes) values saved more t after is step there =
    let new = moved_by (value_of values base) bytes in
    same_held kept s (with_register values to new) saved more after
    (agrees_held kept s (with_register values to new) saved (put to (moved (base_in t base) bytes) t) after
    (put_held kept s values saved t to (moved (base_in t base) bytes) new is (λ carried. moved_holds s (value_of values base) (base_in t base) bytes (base_holds s values t base is.both))) step) there
stepped kept s (Load to from) values saved more t after is step there =
    let new = loaded saved (value_of values from.base) from.bytes in
    same_held kept s (with_register values to new) saved more after
    (agrees_held kept s (with_register values to new) saved (put to (t.memory (address_in t from)) t) after
    (put_held kept s values saved t to (t.memory (address_in t from)) new is
    (λ carried. loaded_holds kept s saved t.memory (value_of values from.base) (base_in t from.base) from.bytes is.words (base_holds s values t from.base is.both) (step.0 carried))) step.1) there
stepped kept s (Store from to) values saved more t after is step there =
    agrees_held kept s values more (record t { memory = memory_after_store t from to }) after
    (record { both = record { sp = is.both.sp; bp = is.both.bp }; words = store_holds kept s values saved more t from to is there }) step
stepped kept s Call values saved more t after is step there = record {
  both = record {
    sp = subst (λ (n : ℕ). Holds s values.sp n) (sym step.0) is.both.sp;
    bp = subst (λ (n : ℕ). Holds s values.fp n) (sym step.1) is.both.bp;
  };
  words = call_holds kept s saved more t after values.sp is.both.sp step.2 is.words there;
}
stepped kept s (Plain registers) values saved more t after is step there =
    same_held kept s (values_after (Plain registers) values saved) saved more after (record {
      both = record {
        sp = kept_holds s (contains registers RSP) values.sp t.sp after.sp step.0 is.both.sp;
        bp = kept_holds s (contains registers RBP) values.fp t.bp after.bp step.1 is.both.bp;
      };
      words = words_kept kept s saved t.memory after.memory step.2 is.words;
    }) there
stepped kept s (Return bytes) values saved more t after is step there = go (bytes == 0) there
  where
    go : (b : Bool) → (if b then Some saved else None) ≡ Some more → IsHeld kept s values more after
    go true same = same_held kept s values saved more after (agrees_held kept s values saved t after is step) same
    go false same = cc
stepped kept s (Jump distance) values saved more t after is step there = same_held kept s values saved more after (agrees_held kept s values saved t after is step) there
stepped kept s (JumpIf distance) values saved more t after is step there = same_held kept s values saved more after (agrees_held kept s values saved t after is step) there
stepped kept s JumpAway values saved more t after is step there = same_held kept s values saved more after (agrees_held kept s values saved t after is step) there
stepped kept s Unknown values saved more t after is step there = cc

-- ---- a run

next_held : (kept : ℕ → Bool) (s : State) (effect : Effect) (values : Values) (saved : List Saved) (t after : State) → IsHeld kept s values saved t → IsStep kept effect t after
    → (held : Values × List Saved) → held_after effect values saved ≡ Some held → IsHeld kept s held.0 held.1 after
next_held kept s effect values saved t after is step held there = go (saved_after effect values saved) refl there
  where
    go : (o : Option (List Saved)) → saved_after effect values saved ≡ o → option_map (λ more. (values_after effect values saved, more)) o ≡ Some held → IsHeld kept s held.0 held.1 after
    go (Some more) is_more same =
        let pair : (values_after effect values saved, more) ≡ held = cc in
        subst (λ (h : Values × List Saved). IsHeld kept s h.0 h.1 after) pair (stepped kept s effect values saved more t after is step is_more)
    go None is_more same = cc

pub has_run : (kept : ℕ → Bool) (s : State) (way : List Executed) (values : Values) (saved : List Saved) (t last : State) (end : Values × List Saved) → IsHeld kept s values saved t
    → Runs kept way t last → held_after_all way values saved ≡ Some end → IsHeld kept s end.0 end.1 last
has_run kept s [] values saved t last end is run there =
    let same : (values, saved) ≡ end = cc in
    subst (λ (u : State). IsHeld kept s end.0 end.1 u) run (subst (λ (h : Values × List Saved). IsHeld kept s h.0 h.1 t) same is)
has_run kept s (one ∷ more) values saved t last end is (mid, step, run) there =
    go (held_after one.instruction.effect values saved) refl there
    (λ held is_held next. has_run kept s more held.0 held.1 mid last end (next_held kept s one.instruction.effect values saved t mid is step held is_held) run next)
  where
    go : (o : Option (Values × List Saved)) → held_after one.instruction.effect values saved ≡ o → option_and_then (λ held. held_after_all more held.0 held.1) o ≡ Some end
        → ((held : Values × List Saved) → held_after one.instruction.effect values saved ≡ Some held → held_after_all more held.0 held.1 ≡ Some end → IsHeld kept s end.0 end.1 last)
        → IsHeld kept s end.0 end.1 last
    go (Some held) is_held same next = next held is_held same
    go None is_held same next = cc
