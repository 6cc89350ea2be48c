-- A step by a kept rule, and by an attempt, is the judge's; and what it keeps.
use Rattle.std.proofs.Common.{◌≡◌, ◌∙◌, ◌-◌, ℕ, Bool, true, false, List, Option, Some, None, Result, Ok, Err, ap, sym, subst, refl}
use Rattle.std.specs.Prelude.{IfErr, IsTrue, ◌↔◌, not, if◌then◌else◌}
use Rattle.framehop_registers.specs.Callback.{Words}
use Rattle.framehop_registers.specs.FrameAddress.{lookup_address_of, IsReturnAddress}
use Rattle.framehop_registers.specs.declared.code_address.FrameAddress.{FrameAddress}
use Rattle.framehop_registers.specs.declared.code_address.FrameAddress.TheVariants.{InstructionPointer, ReturnAddress}
use Rattle.framehop_registers.specs.declared.error.Error.{Error}
use Rattle.framehop_registers.specs.declared.error.Error.TheVariants.{CouldNotReadStack, FramepointerUnwindingMovedBackwards, DidNotAdvance, IntegerOverflow, ReturnAddressIsNull, OutOfMemory}
use Rattle.framehop_rules.specs.Outcome.{IsOfRule}
use Rattle.framehop_rules.specs.Slots.{Key, Layout, Finding, Hits, EmptySlot, OtherModules, OtherAddress, found_in, key_of}
use Rattle.framehop_rules.specs.CacheViews.{result_of}
use Rattle.framehop_rules.specs.declared.rule_cache.CacheResult.TheVariants.{Miss, Hit}
use Rattle.framehop_unwinder.specs.Attempt.{Attempt, Says, Evaluates, SaysNothing, Meanings, attempt_at}
use Rattle.framehop_unwinder.specs.Frames.{frame_of, lookup_address}
use Rattle.framehop_unwinder.specs.Judge.{by_attempt, judge_at}
use Rattle.framehop_unwinder.specs.Memory.{AsksMemoryAt, AsksMemory}
use Rattle.framehop_unwinder.specs.Modules.{Loaded, module_found}
use Rattle.framehop_unwinder.specs.RulesKept.{Sets, rule_of_attempt, rule_kept, key_for, with_any, with_missed, sets_after}
use Rattle.framehop_unwinder.specs.Trials.{has_wanted, rule_of_result, wants_memory}
use Rattle.framehop_unwinder.specs.declared.unwinding.UnwindFailure.{UnwindFailure}
use Rattle.framehop_unwinder.specs.declared.unwinding.UnwindFailure.TheVariants as failure
use Rattle.framehop_rules.specs.declared.unwind_result.UnwindResult.{UnwindResult}

-- no rule wants memory
pub rules_want_none : {A : Type 0} (result : Result A Error) → IfErr result IsOfRule → wants_memory result ≡ false
rules_want_none (Ok answer) of_rule = refl
rules_want_none (Err (CouldNotReadStack address)) of_rule = refl
rules_want_none (Err FramepointerUnwindingMovedBackwards) of_rule = refl
rules_want_none (Err DidNotAdvance) of_rule = refl
rules_want_none (Err IntegerOverflow) of_rule = refl
rules_want_none (Err ReturnAddressIsNull) of_rule = refl
rules_want_none (Err OutOfMemory) of_rule = absurd of_rule

-- the first frame's address is no return address
pub first-is : (b : Bool) (address : FrameAddress) → (IsTrue b ↔ IsReturnAddress address) → not b ≡ (frame_of address).is_first
first-is true (InstructionPointer at) h = absurd (h.0 refl)
first-is false (InstructionPointer at) h = refl
first-is true (ReturnAddress at) h = refl
first-is false (ReturnAddress at) h = let e : IsTrue false = h.1 tt in cc

-- the module that is found for an address may want memory there
pub asked-there : {Data : Type 0} (asks : Data → ℕ → Bool → Type 0) (modules : List (Loaded Data)) (first : Bool) (address relative : ℕ) (module_ : Loaded Data) (held : Data)
    → module_found modules address ≡ Some module_ → relative ≡ address - module_.base → held ≡ module_.unwind_data → asks held relative first → AsksMemoryAt asks modules first address
asked-there asks modules first address relative module_ held found counted made asked =
    record { module_ = module_; found = found; asked = subst (λ n. asks module_.unwind_data n first) counted (subst (λ d. asks d relative first) made asked) }

pub looked-up-is : (address : FrameAddress) → lookup_address_of address ≡ lookup_address (frame_of address)
looked-up-is (InstructionPointer at) = refl
looked-up-is (ReturnAddress at) = refl

pub key-is : (address : FrameAddress) (lookup : ℕ) (b : Bool) (generation : ℕ) → lookup ≡ lookup_address_of address → (IsTrue b ↔ IsReturnAddress address) → key_of lookup (not b) generation ≡ key_for (frame_of address) generation
key-is address lookup b generation looked kind =
    let at = looked ∙ looked-up-is address in
    let first = first-is b address kind in
    rw (at, first) refl

-- the module that is found for a frame may want memory
pub asked-from : {Data : Type 0} (asks : Data → ℕ → Bool → Type 0) (modules : List (Loaded Data)) (address : FrameAddress) (lookup : ℕ) (b : Bool) → lookup ≡ lookup_address_of address → (IsTrue b ↔ IsReturnAddress address)
    → AsksMemoryAt asks modules (not b) lookup → AsksMemory asks modules (frame_of address)
asked-from asks modules address lookup b looked kind asked =
    subst (λ n. AsksMemoryAt asks modules (frame_of address).is_first n) (looked ∙ looked-up-is address) (subst (λ f. AsksMemoryAt asks modules f lookup) (first-is b address kind) asked)

module _ {Data Rule Registers : Type 0} (m : Meanings Data Rule Registers) (first : Bool) (registers : Registers) (words : Words) where
  -- what an attempt keeps means what the attempt comes to
  kept-attempt : (a : Attempt Rule Registers) (rule : Rule) → rule_of_attempt m.fallback a ≡ Some rule → by_attempt m first registers words a ≡ m.meaning rule first registers words
  kept-attempt (Says r) rule is = let e : r ≡ rule = cc in ap (λ x. m.meaning x first registers words) e
  kept-attempt (Evaluates caller) rule is = absurd cc
  kept-attempt SaysNothing rule is = let e : m.fallback ≡ rule = cc in ap (λ x. m.meaning x first registers words) e

  -- the rule that is kept for a key means what is judged
  pub kept-judged : (modules : List (Loaded Data)) (address generation : ℕ) (rule : Rule) → rule_kept m modules (key_of address first generation) ≡ Some rule → judge_at m modules first address registers words ≡ m.meaning rule first registers words
  kept-judged modules address generation rule is = kept-attempt (attempt_at m modules first address) rule is

module _ {Rule : Type 0} (kept : Key → Option Rule) (key : Key) (layout : Layout) (sets : Sets Rule) where
  hit-of : (look_up : Finding Rule) (rule : Rule) → Hit rule ≡ result_of key look_up → look_up ≡ Hits rule
  hit-of (Hits r) rule is = let e : rule ≡ r = cc in ap (λ x. Hits x) (sym e)
  hit-of EmptySlot rule is = absurd cc
  hit-of OtherModules rule is = absurd cc
  hit-of OtherAddress rule is = absurd cc

  -- a look-up that hits finds the rule
  pub hit-found : (rule : Rule) → Hit rule ≡ result_of key (found_in layout sets key) → found_in layout sets key ≡ Hits rule
  hit-found rule is = hit-of (found_in layout sets key) rule is

  miss-of : (look_up : Finding Rule) (handle : Key) (rule : Option Rule) → Miss handle ≡ result_of key look_up → with_any layout sets handle rule ≡ with_missed layout sets key rule look_up
  miss-of (Hits r) handle rule is = absurd cc
  miss-of EmptySlot handle rule is = let e : handle ≡ key = cc in ap (λ k. with_any layout sets k rule) e
  miss-of OtherModules handle rule is = let e : handle ≡ key = cc in ap (λ k. with_any layout sets k rule) e
  miss-of OtherAddress handle rule is = let e : handle ≡ key = cc in ap (λ k. with_any layout sets k rule) e

  -- what is to be kept is, unless memory was wanted
  pub answer-keeps : (wanted : Bool) (handle : Key) (rule here : Option Rule) → (wanted ≡ true → rule ≡ None) → (wanted ≡ false → rule ≡ here)
      → with_any layout sets handle rule ≡ (if wanted then sets else with_any layout sets handle here)
  answer-keeps true handle rule here none same = ap (with_any layout sets handle) (none refl)
  answer-keeps false handle rule here none same = ap (with_any layout sets handle) (same refl)

  -- after a look-up that misses, the step keeps that
  pub miss-keeps : (wanted : Bool) (handle : Key) → Miss handle ≡ result_of key (found_in layout sets key)
      → (if wanted then sets else with_any layout sets handle (kept key)) ≡ sets_after wanted kept key layout sets
  miss-keeps true handle is = refl
  miss-keeps false handle is = miss-of (found_in layout sets key) handle (kept key) is

-- where memory was wanted nothing is to be kept
pub wanted-keeps-none : {Rule : Type 0} (fallback : Rule) (answer : Result (UnwindResult Rule) UnwindFailure) → has_wanted answer ≡ true → rule_of_result fallback answer ≡ None
wanted-keeps-none fallback (Ok answer) wanted = absurd cc
wanted-keeps-none fallback (Err failure.OfModule) wanted = absurd cc
wanted-keeps-none fallback (Err failure.OfFrame) wanted = absurd cc
wanted-keeps-none fallback (Err failure.OutOfMemory) wanted = refl
