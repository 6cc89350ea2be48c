-- The words of the stack, by what was stored.
use Rattle.std.proofs.Common.{◌≡◌, ◌∙◌, ℕ, ◌<◌, ◌≤◌, ◌^◌, refl, sym, ap, subst, arith, Bool, true, false, List, [], ◌∷◌, ◌++◌, length, Some, None}
use Rattle.std.specs.Prelude.{ℤ, pos, negsuc, ◌+ℤ◌, ◌-ℤ◌, ◌≤ℤ◌, ◌==◌, ◌&&◌, nat_lt, if◌then◌else◌, IsTrue}
use Rattle.std.proofs.lemmas.Bool.Decides.{Decides-eqb, nat_tests}
use Rattle.std.proofs.lemmas.List.Sums.{fold-append}
use Rattle.std.proofs.lemmas.Int.{ints}
use Rattle.framehop_analysis.specs.Machine.{State, updated}
use Rattle.framehop_analysis.specs.MachineAarch64.{moved}
use Rattle.framehop_x86_instructions.specs.declared.address.Base.{Base}
use Rattle.framehop_x86_instructions.specs.declared.address.Base.TheVariants.{StackPointer, FramePointer}
use Rattle.framehop_x86_ways.specs.Values.{is_near, moved_by, slot_at, is_apart, is_same_base, is_zero, is_in_frame, is_below_now, if_in_frame, value_by_distance, value_by_base, value_behind, word_at, loaded_from, loaded, saved_in}
use Rattle.framehop_x86_ways.specs.declared.values.Value.{Value}
use Rattle.framehop_x86_ways.specs.declared.values.Value.TheVariants.{Address, Word, Any}
use Rattle.framehop_x86_ways.specs.declared.values.Saved.{Saved}
use Rattle.framehop_x86_ways_returns.specs.WayReturns.{base_in, HasFrame, KeepsAbove}
use Rattle.framehop_x86_ways_returns.proofs.Wrapped.{moved_fits, moved_again, moved_above, stays, near, below_call, not_the_same, not_in_frame, IsAboveBy, above_by}

-- ---- what a number is, by a value

-- a register or a word of the stack has this value, by the state before the way; one by RBP is known in a frame
abbrev pub Holds : State → Value → ℕ → Type 0
Holds s (Address base bytes) n = n ≡ moved (base_in s base) bytes
Holds s (Word StackPointer bytes) n = n ≡ s.memory (moved s.sp bytes)
Holds s (Word FramePointer bytes) n = HasFrame s → n ≡ s.memory (moved s.bp bytes)
Holds s Any n = Unit {0}

pub moved_holds : (s : State) (value : Value) (n : ℕ) (by : ℤ) → Holds s value n → Holds s (moved_by value by) (moved n by)
moved_holds s (Address base bytes) n by is = go (is_near (bytes +ℤ by))
  where
    go : (b : Bool) → Holds s (if b then Address base (bytes +ℤ by) else Any) (moved n by)
    go true = ap (λ a. moved a by) is ∙ moved_again (base_in s base) bytes by
    go false = tt
moved_holds s (Word base bytes) n by is = tt
moved_holds s Any n by is = tt

-- ---- words

abbrev pub HasWords : (ℕ → Bool) → State → List Saved → (ℕ → ℕ) → Type 0
HasWords kept s saved memory =
    (base : Base) (bytes : ℤ) → is_near bytes ≡ true → IsTrue (kept (moved (base_in s base) bytes))
    → Holds s (word_at saved base bytes) (memory (moved (base_in s base) bytes))

pub words_now : (kept : ℕ → Bool) (s : State) → HasWords kept s [] s.memory
words_now kept s StackPointer bytes in_reach is_kept = refl
words_now kept s FramePointer bytes in_reach is_kept = λ frame. refl

pub words_kept : (kept : ℕ → Bool) (s : State) (saved : List Saved) (memory after : ℕ → ℕ) → ((at : ℕ) → IsTrue (kept at) → after at ≡ memory at)
    → HasWords kept s saved memory → HasWords kept s saved after
words_kept kept s saved memory after same has base bytes in_reach is_kept =
    subst (λ (n : ℕ). Holds s (word_at saved base bytes) n) (sym (same (moved (base_in s base) bytes) is_kept)) (has base bytes in_reach is_kept)

pub loaded_holds : (kept : ℕ → Bool) (s : State) (saved : List Saved) (memory : ℕ → ℕ) (base : Value) (n : ℕ) (by : ℤ) → HasWords kept s saved memory
    → Holds s base n → IsTrue (kept (moved n by)) → Holds s (loaded saved base by) (memory (moved n by))
loaded_holds kept s saved memory (Address base bytes) n by has is is_kept = go (is_near (bytes +ℤ by)) refl
  where
    there : moved n by ≡ moved (base_in s base) (bytes +ℤ by)
    there = ap (λ a. moved a by) is ∙ moved_again (base_in s base) bytes by

    go : (b : Bool) → is_near (bytes +ℤ by) ≡ b → Holds s (loaded_from saved (if b then Some (base, bytes +ℤ by) else None)) (memory (moved n by))
    go true in_reach =
        subst (λ (a : ℕ). Holds s (word_at saved base (bytes +ℤ by)) (memory a)) (sym there)
        (has base (bytes +ℤ by) in_reach (subst (λ (a : ℕ). IsTrue (kept a)) there is_kept))
    go false far = tt
loaded_holds kept s saved memory (Word base bytes) n by has is is_kept = tt
loaded_holds kept s saved memory Any n by has is is_kept = tt

-- the word to which an address leads itself
pub loaded_here : (kept : ℕ → Bool) (s : State) (saved : List Saved) (memory : ℕ → ℕ) (base : Value) (n : ℕ) → HasWords kept s saved memory
    → Holds s base n → IsTrue (kept n) → Holds s (loaded saved base (pos 0)) (memory n)
loaded_here kept s saved memory (Address base bytes) n has is is_kept =
    let fits : n < 2 ^ 64 = subst (λ (a : ℕ). a < 2 ^ 64) (sym is) (moved_fits (base_in s base) bytes) in
    let same : moved n (pos 0) ≡ n = stays n fits in
    subst (λ (a : ℕ). Holds s (loaded saved (Address base bytes) (pos 0)) (memory a)) same
    (loaded_holds kept s saved memory (Address base bytes) n (pos 0) has is (subst (λ (a : ℕ). IsTrue (kept a)) (sym same) is_kept))
loaded_here kept s saved memory (Word base bytes) n has is is_kept = tt
loaded_here kept s saved memory Any n has is is_kept = tt

-- ---- a word is stored

updated_same : (memory : ℕ → ℕ) (at other word : ℕ) → other ≡ at → updated memory at word other ≡ word
updated_same memory at other word same = let yes = (Decides-eqb other at).1 same in ap (λ b. if b then word else memory other) yes

updated_other : (memory : ℕ → ℕ) (at other word : ℕ) → (other ≡ at → ⊥) → updated memory at word other ≡ memory other
updated_other memory at other word differ = go (other == at) refl
  where
    go : (b : Bool) → (other == at) ≡ b → (if b then word else memory other) ≡ memory other
    go true same = absurd (differ ((Decides-eqb other at).0 same))
    go false same = refl

zero_is : (z y : ℤ) → is_zero (z -ℤ y) ≡ true → z ≡ y
zero_is z y is = let none : (z -ℤ y) ≡ pos 0 = by (z -ℤ y) is in omega (arith, ints, none)
  where
    by : (d : ℤ) → is_zero d ≡ true → d ≡ pos 0
    by (pos n) is = ap pos ((Decides-eqb n 0).0 is)
    by (negsuc n) is = cc

-- a word behind one that was stored from the same base
stored_by_distance : (s : State) (memory : ℕ → ℕ) (base : Base) (bytes : ℤ) (one : Saved) (before : Value) (word : ℕ) → is_near bytes ≡ true → is_near one.bytes ≡ true
    → Holds s one.value word → Holds s before (memory (moved (base_in s base) bytes))
    → Holds s (value_by_distance (one.bytes -ℤ bytes) before one) (updated memory (moved (base_in s base) one.bytes) word (moved (base_in s base) bytes))
stored_by_distance s memory base bytes one before word in_reach at_in_reach new old = go (is_zero (one.bytes -ℤ bytes)) (is_apart one.is_call (one.bytes -ℤ bytes)) refl refl
  where
    here : ℕ
    here = updated memory (moved (base_in s base) one.bytes) word (moved (base_in s base) bytes)

    go : (a b : Bool) → is_zero (one.bytes -ℤ bytes) ≡ a → is_apart one.is_call (one.bytes -ℤ bytes) ≡ b → Holds s (if a then one.value else if b then before else Any) here
    go true b same far =
        subst (λ (n : ℕ). Holds s one.value n)
        (sym (updated_same memory (moved (base_in s base) one.bytes) (moved (base_in s base) bytes) word (ap (moved (base_in s base)) (sym (zero_is one.bytes bytes same))))) new
    go false true same far =
        subst (λ (n : ℕ). Holds s before n)
        (sym (updated_other memory (moved (base_in s base) one.bytes) (moved (base_in s base) bytes) word (not_the_same (base_in s base) one.is_call bytes one.bytes in_reach at_in_reach far))) old
    go false false same far = tt

-- a word of the frame, where its memory stays in a frame
in_frame_holds : (s : State) (before : Value) (n m : ℕ) → (HasFrame s → m ≡ n) → Holds s before n → Holds s (if_in_frame before) m
in_frame_holds s (Address base bytes) n m same is = tt
in_frame_holds s (Word StackPointer bytes) n m same is = tt
in_frame_holds s (Word FramePointer bytes) n m same is = λ frame. same frame ∙ is frame
in_frame_holds s Any n m same is = tt

-- a word behind one that was stored from the other base, if the memory stays there where both are known to be apart
by_base_holds : (s : State) (base : Base) (bytes : ℤ) (one : Saved) (before : Value) (n m : ℕ)
    → (is_in_frame base bytes ≡ true → is_below_now one.base one.bytes ≡ true → HasFrame s → m ≡ n) → Holds s before n → Holds s (value_by_base base bytes before one) m
by_base_holds s base bytes one before n m same is = go (is_in_frame base bytes) (is_below_now one.base one.bytes) refl refl
  where
    go : (a b : Bool) → is_in_frame base bytes ≡ a → is_below_now one.base one.bytes ≡ b → Holds s (if a && b then if_in_frame before else Any) m
    go true true in_frame below = in_frame_holds s before n m (same in_frame below) is
    go true false in_frame below = tt
    go false b in_frame below = tt

above_frame : (base : Base) (bytes : ℤ) → is_in_frame base bytes ≡ true → pos 0 ≤ℤ bytes
above_frame StackPointer bytes is = cc
above_frame FramePointer (pos n) is = omega (arith, ints)
above_frame FramePointer (negsuc n) is = cc

below_now : (base : Base) (bytes : ℤ) → is_below_now base bytes ≡ true → bytes ≤ℤ negsuc 7
below_now FramePointer bytes is = cc
below_now StackPointer (pos n) is = cc
below_now StackPointer (negsuc n) is = let far : 7 ≤ n = grind (arith, nat_tests) in omega (arith, ints, far)

-- a word of the frame isn't the one that is stored
frame_stays : (s : State) (memory : ℕ → ℕ) (at bytes : ℤ) (word : ℕ) → pos 0 ≤ℤ bytes → at ≤ℤ negsuc 7 → is_near bytes ≡ true → is_near at ≡ true → HasFrame s
    → updated memory (moved s.sp at) word (moved s.bp bytes) ≡ memory (moved s.bp bytes)
frame_stays s memory at bytes word up down in_reach at_in_reach (m, few, bp_is) =
    updated_other memory (moved s.sp at) (moved s.bp bytes) word
    (λ same. not_in_frame s.sp m bytes at few up in_reach down at_in_reach (sym (ap (λ a. moved a bytes) bp_is) ∙ same))

saved_holds : (kept : ℕ → Bool) (s : State) (saved : List Saved) (memory : ℕ → ℕ) (one : Saved) (word : ℕ) → is_near one.bytes ≡ true → Holds s one.value word
    → HasWords kept s saved memory → HasWords kept s (saved ++ one ∷ []) (updated memory (moved (base_in s one.base) one.bytes) word)
saved_holds kept s saved memory one word one_in_reach new has base bytes in_reach is_kept =
    subst (λ (v : Value). Holds s v (updated memory (moved (base_in s one.base) one.bytes) word (moved (base_in s base) bytes)))
    (sym (fold-append (value_behind base bytes) (Word base bytes) saved (one ∷ [])))
    (go one.base base refl (has base bytes in_reach is_kept))
  where
    go : (from to : Base) → one.base ≡ from → Holds s (word_at saved to bytes) (memory (moved (base_in s to) bytes))
        → Holds s (if is_same_base from to then value_by_distance (one.bytes -ℤ bytes) (word_at saved to bytes) one else value_by_base to bytes (word_at saved to bytes) one)
        (updated memory (moved (base_in s from) one.bytes) word (moved (base_in s to) bytes))
    go StackPointer StackPointer from_is old = stored_by_distance s memory StackPointer bytes one (word_at saved StackPointer bytes) word in_reach one_in_reach new old
    go FramePointer FramePointer from_is old = stored_by_distance s memory FramePointer bytes one (word_at saved FramePointer bytes) word in_reach one_in_reach new old
    go StackPointer FramePointer from_is old =
        by_base_holds s FramePointer bytes one (word_at saved FramePointer bytes) (memory (moved s.bp bytes)) (updated memory (moved s.sp one.bytes) word (moved s.bp bytes))
        (λ in_frame below frame. frame_stays s memory one.bytes bytes word (above_frame FramePointer bytes in_frame) (below_now one.base one.bytes below) in_reach one_in_reach frame) old
    go FramePointer StackPointer from_is old = tt

-- where the word is stored
pub saved_in_holds : (kept : ℕ → Bool) (s : State) (saved more : List Saved) (memory : ℕ → ℕ) (base value : Value) (n word : ℕ) (by : ℤ)
    → Holds s base n → Holds s value word → HasWords kept s saved memory → saved_in saved value false (slot_at base by) ≡ Some more
    → HasWords kept s more (updated memory (moved n by) word)
saved_in_holds kept s saved more memory (Address base bytes) value n word by is new has there = go (is_near (bytes +ℤ by)) refl there
  where
    at : moved n by ≡ moved (base_in s base) (bytes +ℤ by)
    at = ap (λ a. moved a by) is ∙ moved_again (base_in s base) bytes by

    one : Saved
    one = record { base = base; bytes = bytes +ℤ by; value = value; is_call = false }

    room : (c : Bool) → is_near (bytes +ℤ by) ≡ true → (if c then Some (saved ++ one ∷ []) else None) ≡ Some more → HasWords kept s more (updated memory (moved n by) word)
    room true in_reach same =
        let list : saved ++ one ∷ [] ≡ more = cc in
        subst (λ (l : List Saved). HasWords kept s l (updated memory (moved n by) word)) list
        (subst (λ (a : ℕ). HasWords kept s (saved ++ one ∷ []) (updated memory a word)) (sym at) (saved_holds kept s saved memory one word in_reach new has))
    room false in_reach same = cc

    go : (b : Bool) → is_near (bytes +ℤ by) ≡ b → saved_in saved value false (if b then Some (base, bytes +ℤ by) else None) ≡ Some more → HasWords kept s more (updated memory (moved n by) word)
    go true in_reach same = room (nat_lt (length saved) 128) in_reach same
    go false far same = cc
saved_in_holds kept s saved more memory (Word base bytes) value n word by is new has there = cc
saved_in_holds kept s saved more memory Any value n word by is new has there = cc

-- ---- a call

-- a word that isn't below RSP stays
stays_above : (kept : ℕ → Bool) (t after : State) (at : ℕ) → KeepsAbove kept t after → IsAboveBy t.sp at → IsTrue (kept at) → after.memory at ≡ t.memory at
stays_above kept t after at keeps above is_kept =
    subst (λ (a : ℕ). after.memory a ≡ t.memory a) above.is (keeps above.bytes above.few (subst (λ (a : ℕ). IsTrue (kept a)) (sym above.is) is_kept))

-- the word is at the same base and not below RSP, or in the frame
same_base_above : (s : State) (base : Base) (bytes at : ℤ) (sp : ℕ) → sp ≡ moved (base_in s base) bytes → is_near (bytes +ℤ negsuc 7) ≡ true → is_near at ≡ true
    → is_apart true ((bytes +ℤ negsuc 7) -ℤ at) ≡ true → IsAboveBy sp (moved (base_in s base) at)
same_base_above s base bytes at sp is in_reach at_in_reach far =
    let one = near (bytes +ℤ negsuc 7) in_reach in
    let other = near at at_in_reach in
    let down = below_call ((bytes +ℤ negsuc 7) -ℤ at) far in
    subst (λ (a : ℕ). IsAboveBy a (moved (base_in s base) at)) (sym is)
    (above_by (base_in s base) bytes at (omega (arith, ints, down)) (omega (arith, ints, one.low)) (omega (arith, ints, other.high)))

frame_above : (s : State) (bytes at : ℤ) (sp : ℕ) → sp ≡ moved s.sp bytes → is_near (bytes +ℤ negsuc 7) ≡ true → is_near at ≡ true → pos 0 ≤ℤ at
    → (bytes +ℤ negsuc 7) ≤ℤ negsuc 7 → HasFrame s → IsAboveBy sp (moved s.bp at)
frame_above s bytes at sp is in_reach at_in_reach up down (m, few, bp_is) =
    let one = near (bytes +ℤ negsuc 7) in_reach in
    let other = near at at_in_reach in
    let there : moved s.bp at ≡ moved s.sp (pos m +ℤ at) = ap (λ a. moved a at) bp_is ∙ moved_above s.sp m at in
    subst (λ (a : ℕ). IsAboveBy a (moved s.bp at)) (sym is)
    (subst (λ (a : ℕ). IsAboveBy (moved s.sp bytes) a) (sym there)
    (above_by s.sp bytes (pos m +ℤ at) (omega (arith, ints, up, down)) (omega (arith, ints, one.low)) (omega (arith, ints, few, other.high))))

-- the words behind a call
called_holds : (kept : ℕ → Bool) (s : State) (saved : List Saved) (t after : State) (base : Base) (bytes : ℤ) → t.sp ≡ moved (base_in s base) bytes → is_near (bytes +ℤ negsuc 7) ≡ true
    → KeepsAbove kept t after → HasWords kept s saved t.memory
    → HasWords kept s (saved ++ (record { base = base; bytes = bytes +ℤ negsuc 7; value = Any; is_call = true }) ∷ []) after.memory
called_holds kept s saved t after base bytes is in_reach keeps has to at at_in_reach is_kept =
    subst (λ (v : Value). Holds s v (after.memory (moved (base_in s to) at)))
    (sym (fold-append (value_behind to at) (Word to at) saved (one ∷ [])))
    (go base to is is_kept (has to at at_in_reach is_kept))
  where
    one : Saved
    one = record { base = base; bytes = bytes +ℤ negsuc 7; value = Any; is_call = true }

    same_base : (from : Base) (before : Value) → t.sp ≡ moved (base_in s from) bytes → IsTrue (kept (moved (base_in s from) at)) → Holds s before (t.memory (moved (base_in s from) at))
        → Holds s (value_by_distance ((bytes +ℤ negsuc 7) -ℤ at) before one) (after.memory (moved (base_in s from) at))
    same_base from before is is_kept old = by (is_zero ((bytes +ℤ negsuc 7) -ℤ at)) (is_apart true ((bytes +ℤ negsuc 7) -ℤ at)) refl
      where
        by : (a b : Bool) → is_apart true ((bytes +ℤ negsuc 7) -ℤ at) ≡ b → Holds s (if a then Any else if b then before else Any) (after.memory (moved (base_in s from) at))
        by true b far = tt
        by false true far =
            subst (λ (n : ℕ). Holds s before n)
            (sym (stays_above kept t after (moved (base_in s from) at) keeps (same_base_above s from bytes at t.sp is in_reach at_in_reach far) is_kept)) old
        by false false far = tt

    go : (from to : Base) → t.sp ≡ moved (base_in s from) bytes → IsTrue (kept (moved (base_in s to) at)) → Holds s (word_at saved to at) (t.memory (moved (base_in s to) at))
        → Holds s (if is_same_base from to then value_by_distance ((bytes +ℤ negsuc 7) -ℤ at) (word_at saved to at) one
        else if is_in_frame to at && is_below_now from (bytes +ℤ negsuc 7) then if_in_frame (word_at saved to at) else Any) (after.memory (moved (base_in s to) at))
    go StackPointer StackPointer is is_kept old = same_base StackPointer (word_at saved StackPointer at) is is_kept old
    go FramePointer FramePointer is is_kept old = same_base FramePointer (word_at saved FramePointer at) is is_kept old
    go StackPointer FramePointer is is_kept old =
        by_base_holds s FramePointer at (record { base = StackPointer; bytes = bytes +ℤ negsuc 7; value = Any; is_call = true }) (word_at saved FramePointer at) (t.memory (moved s.bp at)) (after.memory (moved s.bp at))
        (λ in_frame below frame. stays_above kept t after (moved s.bp at) keeps
        (frame_above s bytes at t.sp is in_reach at_in_reach (above_frame FramePointer at in_frame) (below_now StackPointer (bytes +ℤ negsuc 7) below) frame) is_kept) old
    go FramePointer StackPointer is is_kept old = tt

pub call_holds : (kept : ℕ → Bool) (s : State) (saved more : List Saved) (t after : State) (sp : Value) → Holds s sp t.sp → KeepsAbove kept t after → HasWords kept s saved t.memory
    → saved_in saved Any true (slot_at sp (negsuc 7)) ≡ Some more → HasWords kept s more after.memory
call_holds kept s saved more t after (Address base bytes) is keeps has there = go (is_near (bytes +ℤ negsuc 7)) refl there
  where
    one : Saved
    one = record { base = base; bytes = bytes +ℤ negsuc 7; value = Any; is_call = true }

    room : (c : Bool) → is_near (bytes +ℤ negsuc 7) ≡ true → (if c then Some (saved ++ one ∷ []) else None) ≡ Some more → HasWords kept s more after.memory
    room true in_reach same =
        let list : saved ++ one ∷ [] ≡ more = cc in
        subst (λ (l : List Saved). HasWords kept s l after.memory) list (called_holds kept s saved t after base bytes is in_reach keeps has)
    room false in_reach same = cc

    go : (b : Bool) → is_near (bytes +ℤ negsuc 7) ≡ b → saved_in saved Any true (if b then Some (base, bytes +ℤ negsuc 7) else None) ≡ Some more → HasWords kept s more after.memory
    go true in_reach same = room (nat_lt (length saved) 128) in_reach same
    go false far same = cc
call_holds kept s saved more t after (Word base bytes) is keeps has there = cc
call_holds kept s saved more t after Any is keeps has there = cc
