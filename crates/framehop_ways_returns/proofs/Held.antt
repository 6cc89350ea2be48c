-- What the three registers hold after a way is what the machine has.
use Rattle.std.proofs.Common.{◌≡◌, ◌∙◌, ℕ, refl, sym, ap, subst, arith, zero, suc, Bool, true, false, List, [], ◌∷◌, ◌++◌, length, Option, Some, None}
use Rattle.std.specs.Prelude.{ℤ, pos, negsuc, ◌+ℤ◌, ◌-ℤ◌, ◌==◌, ◌||◌, not, nat_lt, if◌then◌else◌, IsTrue, option_and_then}
use Rattle.std.proofs.lemmas.Bool.Decides.{Decides-eqb}
use Rattle.std.proofs.lemmas.List.Sums.{fold-append}
use Rattle.std.proofs.lemmas.Int.{ints}
use Rattle.framehop_registers.specs.RegistersAarch64.{stripped_address}
use Rattle.framehop_registers.specs.declared.aarch64.unwindregs.PtrAuthMask.{PtrAuthMask}
use Rattle.framehop_analysis.specs.MachineAarch64.{State, moved, put}
use Rattle.framehop_analysis.specs.PrologueInstructionsAarch64.{register, with_word}
use Rattle.framehop_ways_returns.specs.WayReturns.{base_in, with_base_in, gone_up, state_raised, first_address, second_address, state_after_load, stored_in, state_after_store, Agrees, LoadsKept, IsStep, Runs}
use Rattle.framehop_ways.specs.Values.{is_near, value_of, with_base, moved_by, raised, slot_at, is_apart, is_same_base, is_zero, value_behind, word_at, loaded_from, loaded, with_register, if_link_register, register_value, with_raised, values_after_load, is_carried, saved_in, saved_after, saved_after_store, value_if_kept, with_lost, held_after, held_after_all}
use Rattle.framehop_ways.specs.declared.executed.Executed.{Executed}
use Rattle.framehop_ways.specs.declared.instruction.Access.{Access}
use Rattle.framehop_ways.specs.declared.instruction.Base.{Base}
use Rattle.framehop_ways.specs.declared.instruction.Base.TheVariants.{StackPointer, FramePointer}
use Rattle.framehop_ways.specs.declared.instruction.Instruction.{Instruction}
use Rattle.framehop_ways.specs.declared.instruction.Instruction.TheVariants.{Load, Store, Move, Sign, Call, Branch, BranchIf, Return, BranchAway, Plain, Unknown}
use Rattle.framehop_ways.specs.declared.values.Value.{Value}
use Rattle.framehop_ways.specs.declared.values.Value.TheVariants.{Address, Word, LinkRegister, Any}
use Rattle.framehop_ways.specs.declared.values.Values.{Values}
use Rattle.framehop_ways.specs.declared.values.Saved.{Saved}
use Rattle.framehop_ways_returns.proofs.Wrapped.{moved_again, not_the_same}

-- ---- what a number is, by a value

-- a register or a word of the stack has this value, by the state before the way
abbrev pub Holds : PtrAuthMask → State → Value → ℕ → Type 0
Holds mask s (Address base bytes) n = n ≡ moved (base_in s base) bytes
Holds mask s (Word base bytes) n = n ≡ s.memory (moved (base_in s base) bytes)
Holds mask s LinkRegister n = stripped_address mask n ≡ stripped_address mask s.lr
Holds mask s Any n = Unit {0}

-- the same of the link register, whose signature doesn't count
abbrev pub HoldsUnder : PtrAuthMask → State → Value → ℕ → Type 0
HoldsUnder mask s (Address base bytes) n = stripped_address mask n ≡ stripped_address mask (moved (base_in s base) bytes)
HoldsUnder mask s (Word base bytes) n = stripped_address mask n ≡ stripped_address mask (s.memory (moved (base_in s base) bytes))
HoldsUnder mask s LinkRegister n = stripped_address mask n ≡ stripped_address mask s.lr
HoldsUnder mask s Any n = Unit {0}

holds_under : (mask : PtrAuthMask) (s : State) (value : Value) (n : ℕ) → Holds mask s value n → HoldsUnder mask s value n
holds_under mask s (Address base bytes) n is = ap (stripped_address mask) is
holds_under mask s (Word base bytes) n is = ap (stripped_address mask) is
holds_under mask s LinkRegister n is = is
holds_under mask s Any n is = tt

same_under : (mask : PtrAuthMask) (s : State) (value : Value) (n m : ℕ) → stripped_address mask m ≡ stripped_address mask n → HoldsUnder mask s value n → HoldsUnder mask s value m
same_under mask s (Address base bytes) n m same is = same ∙ is
same_under mask s (Word base bytes) n m same is = same ∙ is
same_under mask s LinkRegister n m same is = same ∙ is
same_under mask s Any n m same is = tt

moved_holds : (mask : PtrAuthMask) (s : State) (value : Value) (n : ℕ) (by : ℤ) → Holds mask s value n → Holds mask s (moved_by value by) (moved n by)
moved_holds mask s (Address base bytes) n by is = go (is_near (bytes +ℤ by))
  where
    go : (b : Bool) → Holds mask s (if b then Address base (bytes +ℤ by) else Any) (moved n by)
    go true = ap (λ a. moved a by) is ∙ moved_again (base_in s base) bytes by
    go false = tt
moved_holds mask s (Word base bytes) n by is = tt
moved_holds mask s LinkRegister n by is = tt
moved_holds mask s Any n by is = tt

raised_holds : (mask : PtrAuthMask) (s : State) (value : Value) (n : ℕ) (by : ℤ) → Holds mask s value n → Holds mask s (raised value by) (gone_up n by)
raised_holds mask s value n (pos zero) is = is
raised_holds mask s value n (pos (suc by)) is = moved_holds mask s value n (pos (suc by)) is
raised_holds mask s value n (negsuc by) is = moved_holds mask s value n (negsuc by) is

-- ---- the three registers

pub record HoldsThree (mask : PtrAuthMask) (s : State) (values : Values) (t : State) : Type 0 where
  pub sp : Holds mask s values.sp t.sp
  pub fp : Holds mask s values.fp t.fp
  pub lr : HoldsUnder mask s values.lr t.lr

base_holds : (mask : PtrAuthMask) (s : State) (values : Values) (t : State) (base : Base) → HoldsThree mask s values t → Holds mask s (value_of values base) (base_in t base)
base_holds mask s values t StackPointer is = is.sp
base_holds mask s values t FramePointer is = is.fp

with_base_holds : (mask : PtrAuthMask) (s : State) (values : Values) (t : State) (base : Base) (value : Value) (n : ℕ) → HoldsThree mask s values t → Holds mask s value n
    → HoldsThree mask s (with_base values base value) (with_base_in t base n)
with_base_holds mask s values t StackPointer value n is new = record { sp = new; fp = is.fp; lr = is.lr }
with_base_holds mask s values t FramePointer value n is new = record { sp = is.sp; fp = new; lr = is.lr }

raised_three : (mask : PtrAuthMask) (s : State) (values : Values) (t : State) (access : Access) → HoldsThree mask s values t → HoldsThree mask s (with_raised values access) (state_raised access t)
raised_three mask s values t access is =
    with_base_holds mask s values t access.base (raised (value_of values access.base) access.raise) (gone_up (base_in t access.base) access.raise) is
    (raised_holds mask s (value_of values access.base) (base_in t access.base) access.raise (base_holds mask s values t access.base is))

memory_with_base : (t : State) (base : Base) (n : ℕ) → (with_base_in t base n).memory ≡ t.memory
memory_with_base t StackPointer n = refl
memory_with_base t FramePointer n = refl

put_three : (mask : PtrAuthMask) (s : State) (values : Values) (t : State) (number n : ℕ) (value : Value) → HoldsThree mask s values t → (IsTrue (is_carried number) → Holds mask s value n)
    → HoldsThree mask s (with_register values number value) (put number n t)
put_three mask s values t number n value is new = go (number == 29) (number == 30) new
  where
    go : (a b : Bool) → (IsTrue (a || b) → Holds mask s value n)
        → HoldsThree mask s (if a then record values { fp = value } else if b then record values { lr = value } else values)
        (if a then record t { fp = n } else if b then record t { lr = n } else record t { others = λ other. if other == number then n else t.others other })
    go true b new = record { sp = is.sp; fp = new refl; lr = is.lr }
    go false true new = record { sp = is.sp; fp = is.fp; lr = holds_under mask s value n (new refl) }
    go false false new = record { sp = is.sp; fp = is.fp; lr = is.lr }

memory_put : (number n : ℕ) (t : State) → (put number n t).memory ≡ t.memory
memory_put number n t = go (number == 29) (number == 30)
  where
    go : (a b : Bool) → (if a then record t { fp = n } else if b then record t { lr = n } else record t { others = λ other. if other == number then n else t.others other }).memory ≡ t.memory
    go true b = refl
    go false true = refl
    go false false = refl

-- ---- the words of the stack

abbrev pub HasWords : PtrAuthMask → (ℕ → Bool) → State → List Saved → (ℕ → ℕ) → Type 0
HasWords mask kept s saved memory =
    (base : Base) (bytes : ℤ) → is_near bytes ≡ true → IsTrue (kept (moved (base_in s base) bytes))
    → Holds mask s (word_at saved base bytes) (memory (moved (base_in s base) bytes))

words_kept : (mask : PtrAuthMask) (kept : ℕ → Bool) (s : State) (saved : List Saved) (memory after : ℕ → ℕ) → ((at : ℕ) → IsTrue (kept at) → after at ≡ memory at)
    → HasWords mask kept s saved memory → HasWords mask kept s saved after
words_kept mask kept s saved memory after same has base bytes in_reach is_kept =
    subst (λ (n : ℕ). Holds mask s (word_at saved base bytes) n) (sym (same (moved (base_in s base) bytes) is_kept)) (has base bytes in_reach is_kept)

loaded_holds : (mask : PtrAuthMask) (kept : ℕ → Bool) (s : State) (saved : List Saved) (memory : ℕ → ℕ) (base : Value) (n : ℕ) (by : ℤ) → HasWords mask kept s saved memory
    → Holds mask s base n → IsTrue (kept (moved n by)) → Holds mask s (loaded saved base by) (memory (moved n by))
loaded_holds mask kept s saved memory (Address base bytes) n by has is is_kept = go (is_near (bytes +ℤ by)) refl
  where
    there : moved n by ≡ moved (base_in s base) (bytes +ℤ by)
    there = ap (λ a. moved a by) is ∙ moved_again (base_in s base) bytes by

    go : (b : Bool) → is_near (bytes +ℤ by) ≡ b → Holds mask s (loaded_from saved (if b then Some (base, bytes +ℤ by) else None)) (memory (moved n by))
    go true in_reach =
        subst (λ (a : ℕ). Holds mask s (word_at saved base (bytes +ℤ by)) (memory a)) (sym there)
        (has base (bytes +ℤ by) in_reach (subst (λ (a : ℕ). IsTrue (kept a)) there is_kept))
    go false far = tt
loaded_holds mask kept s saved memory (Word base bytes) n by has is is_kept = tt
loaded_holds mask kept s saved memory LinkRegister n by has is is_kept = tt
loaded_holds mask kept s saved memory Any n by has is is_kept = tt

with_word_same : (memory : ℕ → ℕ) (at other word : ℕ) → other ≡ at → with_word memory at word other ≡ word
with_word_same memory at other word same = let yes = (Decides-eqb other at).1 same in ap (λ b. if b then word else memory other) yes

with_word_other : (memory : ℕ → ℕ) (at other word : ℕ) → (other ≡ at → ⊥) → with_word memory at word other ≡ memory other
with_word_other memory at other word differ = go (other == at) refl
  where
    go : (b : Bool) → (other == at) ≡ b → (if b then word else memory other) ≡ memory other
    go true same = absurd (differ ((Decides-eqb other at).0 same))
    go false same = refl

zero_is : (z y : ℤ) → is_zero (z -ℤ y) ≡ true → z ≡ y
zero_is z y is = let none : (z -ℤ y) ≡ pos 0 = by (z -ℤ y) is in omega (arith, ints, none)
  where
    by : (d : ℤ) → is_zero d ≡ true → d ≡ pos 0
    by (pos n) is = ap pos ((Decides-eqb n 0).0 is)
    by (negsuc n) is = cc

-- a word behind one that was saved on the same base
saved_on_base : (mask : PtrAuthMask) (s : State) (memory : ℕ → ℕ) (base : Base) (bytes at : ℤ) (value before : Value) (word : ℕ) → is_near bytes ≡ true → is_near at ≡ true
    → Holds mask s value word → Holds mask s before (memory (moved (base_in s base) bytes))
    → Holds mask s (if is_zero (at -ℤ bytes) then value else if is_apart (at -ℤ bytes) then before else Any)
    (with_word memory (moved (base_in s base) at) word (moved (base_in s base) bytes))
saved_on_base mask s memory base bytes at value before word in_reach at_in_reach new old = go (is_zero (at -ℤ bytes)) (is_apart (at -ℤ bytes)) refl refl
  where
    here : ℕ
    here = with_word memory (moved (base_in s base) at) word (moved (base_in s base) bytes)

    go : (a b : Bool) → is_zero (at -ℤ bytes) ≡ a → is_apart (at -ℤ bytes) ≡ b → Holds mask s (if a then value else if b then before else Any) here
    go true b same far =
        subst (λ (n : ℕ). Holds mask s value n)
        (sym (with_word_same memory (moved (base_in s base) at) (moved (base_in s base) bytes) word (ap (moved (base_in s base)) (sym (zero_is at bytes same))))) new
    go false true same far =
        subst (λ (n : ℕ). Holds mask s before n)
        (sym (with_word_other memory (moved (base_in s base) at) (moved (base_in s base) bytes) word (not_the_same (base_in s base) bytes at in_reach at_in_reach far))) old
    go false false same far = tt

saved_holds : (mask : PtrAuthMask) (kept : ℕ → Bool) (s : State) (saved : List Saved) (memory : ℕ → ℕ) (one : Saved) (word : ℕ) → is_near one.bytes ≡ true
    → Holds mask s one.value word → HasWords mask kept s saved memory → HasWords mask kept s (saved ++ one ∷ []) (with_word memory (moved (base_in s one.base) one.bytes) word)
saved_holds mask kept s saved memory one word one_in_reach new has base bytes in_reach is_kept =
    subst (λ (v : Value). Holds mask s v (with_word memory (moved (base_in s one.base) one.bytes) word (moved (base_in s base) bytes)))
    (sym (fold-append (value_behind base bytes) (Word base bytes) saved (one ∷ [])))
    (go one.base base (has base bytes in_reach is_kept))
  where
    go : (from to : Base) → Holds mask s (word_at saved to bytes) (memory (moved (base_in s to) bytes))
        → Holds mask s (if not (is_same_base from to) then Any else if is_zero (one.bytes -ℤ bytes) then one.value else if is_apart (one.bytes -ℤ bytes) then word_at saved to bytes else Any)
        (with_word memory (moved (base_in s from) one.bytes) word (moved (base_in s to) bytes))
    go StackPointer StackPointer old = saved_on_base mask s memory StackPointer bytes one.bytes one.value (word_at saved StackPointer bytes) word in_reach one_in_reach new old
    go FramePointer FramePointer old = saved_on_base mask s memory FramePointer bytes one.bytes one.value (word_at saved FramePointer bytes) word in_reach one_in_reach new old
    go StackPointer FramePointer old = tt
    go FramePointer StackPointer old = tt

-- ---- one instruction

pub record IsHeld (mask : PtrAuthMask) (kept : ℕ → Bool) (s : State) (values : Values) (saved : List Saved) (t : State) : Type 0 where
  pub three : HoldsThree mask s values t
  pub words : HasWords mask kept s saved t.memory

agrees_held : (mask : PtrAuthMask) (kept : ℕ → Bool) (s : State) (values : Values) (saved : List Saved) (t after : State) → IsHeld mask kept s values saved t → Agrees kept t after → IsHeld mask kept s values saved after
agrees_held mask kept s values saved t after held same = record {
  three = record {
    sp = subst (λ (n : ℕ). Holds mask s values.sp n) (sym same.sp) held.three.sp;
    fp = subst (λ (n : ℕ). Holds mask s values.fp n) (sym same.fp) held.three.fp;
    lr = subst (λ (n : ℕ). HoldsUnder mask s values.lr n) (sym same.lr) held.three.lr;
  };
  words = words_kept mask kept s saved t.memory after.memory same.words held.words;
}

load_held : (mask : PtrAuthMask) (kept : ℕ → Bool) (s : State) (values : Values) (saved : List Saved) (t : State) (access : Access) → IsHeld mask kept s values saved t → LoadsKept kept access t
    → IsHeld mask kept s (values_after_load values saved access) saved (state_after_load access t)
load_held mask kept s values saved t access held reads =
    let base = value_of values access.base in
    let base_is = base_holds mask s values t access.base held.three in
    let raised_now = raised_three mask s values t access held.three in
    let one = put_three mask s (with_raised values access) (state_raised access t) access.first (t.memory (first_address access t)) (loaded saved base access.offset) raised_now
    (λ carried. loaded_holds mask kept s saved t.memory base (base_in t access.base) access.offset held.words base_is (reads.first carried)) in
    let first_put = put access.first (t.memory (first_address access t)) (state_raised access t) in
    let two = put_three mask s (with_register (with_raised values access) access.first (loaded saved base access.offset)) first_put access.second (t.memory (second_address access t))
    (loaded saved base (access.offset +ℤ pos 8)) one
    (λ carried. loaded_holds mask kept s saved t.memory base (base_in t access.base) (access.offset +ℤ pos 8) held.words base_is (reads.second carried)) in
    let memory : (state_after_load access t).memory ≡ t.memory =
    memory_put access.second (t.memory (second_address access t)) first_put ∙ memory_put access.first (t.memory (first_address access t)) (state_raised access t)
    ∙ memory_with_base t access.base (gone_up (base_in t access.base) access.raise) in
    record { three = two; words = subst (λ (m : ℕ → ℕ). HasWords mask kept s saved m) (sym memory) held.words }

carried_register : (mask : PtrAuthMask) (s : State) (values : Values) (t : State) (number : ℕ) → HoldsThree mask s values t → IsTrue (is_carried number) → Holds mask s (register_value values number) (register t number)
carried_register mask s values t number is carried = go (number == 29) (number == 30) carried
  where
    lr_holds : (value : Value) → HoldsUnder mask s value t.lr → Holds mask s (if_link_register value) t.lr
    lr_holds (Address base bytes) h = tt
    lr_holds (Word base bytes) h = tt
    lr_holds LinkRegister h = h
    lr_holds Any h = tt

    go : (a b : Bool) → IsTrue (a || b) → Holds mask s (if a then values.fp else if b then if_link_register values.lr else Any)
        (if a then t.fp else if b then t.lr else if number == 31 then 0 else t.others number)
    go true b h = is.fp
    go false true h = lr_holds values.lr is.lr
    go false false h = tt

saved_in_holds : (mask : PtrAuthMask) (kept : ℕ → Bool) (s : State) (saved more : List Saved) (memory : ℕ → ℕ) (base value : Value) (n word : ℕ) (by : ℤ)
    → Holds mask s base n → Holds mask s value word → HasWords mask kept s saved memory → saved_in saved value (slot_at base by) ≡ Some more
    → HasWords mask kept s more (with_word memory (moved n by) word)
saved_in_holds mask kept s saved more memory (Address base bytes) value n word by is new has there = go (is_near (bytes +ℤ by)) (nat_lt (length saved) 32) refl there
  where
    at : moved n by ≡ moved (base_in s base) (bytes +ℤ by)
    at = ap (λ a. moved a by) is ∙ moved_again (base_in s base) bytes by

    one : Saved
    one = record { base = base; bytes = bytes +ℤ by; value = value }

    room : (c : Bool) → is_near (bytes +ℤ by) ≡ true → (if c then Some (saved ++ one ∷ []) else None) ≡ Some more → HasWords mask kept s more (with_word memory (moved n by) word)
    room true in_reach same =
        let list : saved ++ one ∷ [] ≡ more = cc in
        subst (λ (l : List Saved). HasWords mask kept s l (with_word memory (moved n by) word)) list
        (subst (λ (a : ℕ). HasWords mask kept s (saved ++ one ∷ []) (with_word memory a word)) (sym at) (saved_holds mask kept s saved memory one word in_reach new has))
    room false in_reach same = cc

    go : (b c : Bool) → is_near (bytes +ℤ by) ≡ b → saved_in saved value (if b then Some (base, bytes +ℤ by) else None) ≡ Some more → HasWords mask kept s more (with_word memory (moved n by) word)
    go true c in_reach same = room (nat_lt (length saved) 32) in_reach same
    go false c far same = cc
saved_in_holds mask kept s saved more memory (Word base bytes) value n word by is new has there = cc
saved_in_holds mask kept s saved more memory LinkRegister value n word by is new has there = cc
saved_in_holds mask kept s saved more memory Any value n word by is new has there = cc

saved_after_holds : (mask : PtrAuthMask) (kept : ℕ → Bool) (s : State) (values : Values) (saved more : List Saved) (memory : ℕ → ℕ) (t : State) (number : ℕ) (base : Value) (n : ℕ) (by : ℤ)
    → HoldsThree mask s values t → Holds mask s base n → HasWords mask kept s saved memory → saved_after values saved number base by ≡ Some more
    → HasWords mask kept s more (stored_in memory number (moved n by) (register t number))
saved_after_holds mask kept s values saved more memory t number base n by three is has there = go (is_carried number) refl there
  where
    go : (b : Bool) → is_carried number ≡ b → (if b then saved_in saved (register_value values number) (slot_at base by) else Some saved) ≡ Some more
        → HasWords mask kept s more (if b then with_word memory (moved n by) (register t number) else memory)
    go true carried same =
        saved_in_holds mask kept s saved more memory base (register_value values number) n (register t number) by is (carried_register mask s values t number three carried) has same
    go false other same = let list : saved ≡ more = cc in subst (λ (l : List Saved). HasWords mask kept s l memory) list has

record IsStored (values : Values) (saved : List Saved) (access : Access) (more : List Saved) : Type 0 where
  first : List Saved
  first_is : saved_after values saved access.first (value_of values access.base) access.offset ≡ Some first
  second_is : saved_after values first access.second (value_of values access.base) (access.offset +ℤ pos 8) ≡ Some more

stored_is : (values : Values) (saved : List Saved) (access : Access) (more : List Saved) → saved_after_store values saved access ≡ Some more → IsStored values saved access more
stored_is values saved access more is = go (saved_after values saved access.first (value_of values access.base) access.offset) refl is
  where
    go : (o : Option (List Saved)) → saved_after values saved access.first (value_of values access.base) access.offset ≡ o
        → option_and_then (λ one. saved_after values one access.second (value_of values access.base) (access.offset +ℤ pos 8)) o ≡ Some more → IsStored values saved access more
    go (Some first) first_is same = record { first = first; first_is = first_is; second_is = same }
    go None first_is same = cc

store_held : (mask : PtrAuthMask) (kept : ℕ → Bool) (s : State) (values : Values) (saved more : List Saved) (t : State) (access : Access) → IsHeld mask kept s values saved t
    → saved_after_store values saved access ≡ Some more → IsHeld mask kept s (with_raised values access) more (state_after_store access t)
store_held mask kept s values saved more t access held there =
    let base = value_of values access.base in
    let base_is = base_holds mask s values t access.base held.three in
    let is = stored_is values saved access more there in
    let one = saved_after_holds mask kept s values saved is.first t.memory t access.first base (base_in t access.base) access.offset held.three base_is held.words is.first_is in
    let two = saved_after_holds mask kept s values is.first more (stored_in t.memory access.first (first_address access t) (register t access.first)) t access.second base (base_in t access.base)
    (access.offset +ℤ pos 8) held.three base_is one is.second_is in
    let raised_now = raised_three mask s values t access held.three in
    record { three = record { sp = raised_now.sp; fp = raised_now.fp; lr = raised_now.lr }; words = two }

-- what may be lost
kept_holds : (mask : PtrAuthMask) (s : State) (is_lost : Bool) (value : Value) (n m : ℕ) → (is_lost ≡ false → m ≡ n) → Holds mask s value n → Holds mask s (value_if_kept is_lost value) m
kept_holds mask s true value n m same is = tt
kept_holds mask s false value n m same is = subst (λ (k : ℕ). Holds mask s value k) (sym (same refl)) is

kept_holds_under : (mask : PtrAuthMask) (s : State) (is_lost : Bool) (value : Value) (n m : ℕ) → (is_lost ≡ false → m ≡ n) → HoldsUnder mask s value n → HoldsUnder mask s (value_if_kept is_lost value) m
kept_holds_under mask s true value n m same is = tt
kept_holds_under mask s false value n m same is = subst (λ (k : ℕ). HoldsUnder mask s value k) (sym (same refl)) is

-- ---- a step, and a run

abbrev pub Next : PtrAuthMask → (ℕ → Bool) → State → Instruction → Values → List Saved → State → Type 0
Next mask kept s instruction values saved after =
    (held : Values × List Saved) → held_after instruction values saved ≡ Some held → IsHeld mask kept s held.0 held.1 after

same_held : (mask : PtrAuthMask) (kept : ℕ → Bool) (s : State) (values : Values) (saved : List Saved) (after : State) (held : Values × List Saved) → IsHeld mask kept s values saved after
    → Some (values, saved) ≡ Some held → IsHeld mask kept s held.0 held.1 after
same_held mask kept s values saved after held is same =
    let pair : (values, saved) ≡ held = cc in
    subst (λ (h : Values × List Saved). IsHeld mask kept s h.0 h.1 after) pair is

stepped : (mask : PtrAuthMask) (kept : ℕ → Bool) (s : State) (instruction : Instruction) (values : Values) (saved : List Saved) (t after : State) → IsHeld mask kept s values saved t
    → IsStep mask kept instruction t after → Next mask kept s instruction values saved after
stepped mask kept s (Load access) values saved t after is step held there =
    same_held mask kept s (values_after_load values saved access) saved after held
    (agrees_held mask kept s (values_after_load values saved access) saved (state_after_load access t) after (load_held mask kept s values saved t access is step.0) step.1) there
stepped mask kept s (Store access) values saved t after is step held there = go (saved_after_store values saved access) refl there
  where
    go : (o : Option (List Saved)) → saved_after_store values saved access ≡ o → option_and_then (λ more. Some (with_raised values access, more)) o ≡ Some held → IsHeld mask kept s held.0 held.1 after
    go (Some more) is_more same =
        same_held mask kept s (with_raised values access) more after held
        (agrees_held mask kept s (with_raised values access) more (state_after_store access t) after (store_held mask kept s values saved more t access is is_more) step) same
    go None is_more same = cc
stepped mask kept s (Move to from bytes) values saved t after is step held there =
    let new = raised_holds mask s (value_of values from) (base_in t from) bytes (base_holds mask s values t from is.three) in
    let moved_state = with_base_in t to (gone_up (base_in t from) bytes) in
    let three = with_base_holds mask s values t to (raised (value_of values from) bytes) (gone_up (base_in t from) bytes) is.three new in
    let words = subst (λ (m : ℕ → ℕ). HasWords mask kept s saved m) (sym (memory_with_base t to (gone_up (base_in t from) bytes))) is.words in
    same_held mask kept s (with_base values to (raised (value_of values from) bytes)) saved after held
    (agrees_held mask kept s (with_base values to (raised (value_of values from) bytes)) saved moved_state after (record { three = three; words = words }) step) there
stepped mask kept s Sign values saved t after is step held there =
    same_held mask kept s values saved after held (record {
      three = record {
        sp = subst (λ (n : ℕ). Holds mask s values.sp n) (sym step.0) is.three.sp;
        fp = subst (λ (n : ℕ). Holds mask s values.fp n) (sym step.1) is.three.fp;
        lr = same_under mask s values.lr t.lr after.lr step.2 is.three.lr;
      };
      words = words_kept mask kept s saved t.memory after.memory step.3 is.words;
    }) there
stepped mask kept s Call values saved t after is step held there =
    same_held mask kept s (record values { lr = Any }) saved after held (record {
      three = record {
        sp = subst (λ (n : ℕ). Holds mask s values.sp n) (sym step.0) is.three.sp;
        fp = subst (λ (n : ℕ). Holds mask s values.fp n) (sym step.1) is.three.fp;
        lr = tt;
      };
      words = words_kept mask kept s saved t.memory after.memory step.2 is.words;
    }) there
stepped mask kept s (Plain lost) values saved t after is step held there =
    same_held mask kept s (with_lost values lost) saved after held (record {
      three = record {
        sp = kept_holds mask s lost.sp values.sp t.sp after.sp step.0 is.three.sp;
        fp = kept_holds mask s lost.fp values.fp t.fp after.fp step.1 is.three.fp;
        lr = kept_holds_under mask s lost.lr values.lr t.lr after.lr step.2 is.three.lr;
      };
      words = words_kept mask kept s saved t.memory after.memory step.3 is.words;
    }) there
stepped mask kept s Unknown values saved t after is step held there = cc
stepped mask kept s (Branch distance) values saved t after is step held there = same_held mask kept s values saved after held (agrees_held mask kept s values saved t after is step) there
stepped mask kept s (BranchIf distance) values saved t after is step held there = same_held mask kept s values saved after held (agrees_held mask kept s values saved t after is step) there
stepped mask kept s Return values saved t after is step held there = same_held mask kept s values saved after held (agrees_held mask kept s values saved t after is step) there
stepped mask kept s BranchAway values saved t after is step held there = same_held mask kept s values saved after held (agrees_held mask kept s values saved t after is step) there

pub has_run : (mask : PtrAuthMask) (kept : ℕ → Bool) (s : State) (way : List Executed) (values : Values) (saved : List Saved) (t last : State) (end : Values) → IsHeld mask kept s values saved t
    → Runs mask kept way t last → held_after_all way values saved ≡ Some end → HoldsThree mask s end last
has_run mask kept s [] values saved t last end is run there =
    let same : values ≡ end = cc in
    subst (λ (u : State). HoldsThree mask s end u) run (subst (λ (v : Values). HoldsThree mask s v t) same is.three)
has_run mask kept s (one ∷ more) values saved t last end is (mid, step, run) there =
    go (held_after one.instruction values saved) refl there (λ held is_held next. has_run mask kept s more held.0 held.1 mid last end (stepped mask kept s one.instruction values saved t mid is step held is_held) run next)
  where
    go : (o : Option (Values × List Saved)) → held_after one.instruction values saved ≡ o → option_and_then (λ held. held_after_all more held.0 held.1) o ≡ Some end
        → ((held : Values × List Saved) → held_after one.instruction values saved ≡ Some held → held_after_all more held.0 held.1 ≡ Some end → HoldsThree mask s end last) → HoldsThree mask s end last
    go (Some held) is_held same next = next held is_held same
    go None is_held same next = cc
