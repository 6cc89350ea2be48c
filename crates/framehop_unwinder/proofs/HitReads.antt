-- What steps read where a look-up found their rule.
use Rattle.std.proofs.Common.{◌≡◌, ◌∙◌, ℕ, Bool, List, Option, Some, Result, Ok, sym, subst, ap}
use Rattle.std.specs.Prelude.{IsTrue, ◌↔◌, not, OnOk, unwrap_or}
use Rattle.framehop_registers.specs.Callback.{OverWords, ReadsOverWords}
use Rattle.framehop_registers.specs.FrameAddress.{lookup_address_of, IsReturnAddress}
use Rattle.framehop_registers.specs.declared.code_address.FrameAddress.{FrameAddress}
use Rattle.framehop_registers.specs.declared.error.Error.{Error}
use Rattle.framehop_rules.specs.CacheViews.{result_of}
use Rattle.framehop_rules.specs.Slots.{Key, Kept, Finding, Hits, EmptySlot, OtherModules, OtherAddress, found_by, key_of, new_kept}
use Rattle.framehop_rules.specs.declared.rule_cache.CacheResult.TheVariants.{Miss}
use Rattle.framehop_unwinder.specs.Attempt.{Meanings}
use Rattle.framehop_unwinder.specs.ByNumber.{held}
use Rattle.framehop_unwinder.specs.Frames.{Frame, frame_of}
use Rattle.framehop_unwinder.specs.HitReads.{ReadsIfKnown, RuleReads, reads_by, reads_of_finding, reads_on_hit}
use Rattle.framehop_unwinder.specs.IdViews.{cache_number, unwinder_number}
use Rattle.framehop_unwinder.specs.Judge.{judge, judge_at}
use Rattle.framehop_unwinder.specs.Modules.{Loaded, Loads}
use Rattle.framehop_unwinder.specs.State.{SessionState, unwinder_at}
use Rattle.framehop_unwinder.specs.Trials.{StepsAs}
use Rattle.framehop_unwinder.specs.declared.ids.CacheId.{CacheId}
use Rattle.framehop_unwinder.specs.declared.ids.UnwinderId.{UnwinderId}
use Rattle.framehop_unwinder.proofs.Steps.{first-is, looked-up-is}

module _ {Stack Rule Registers : Type 0} (step : Stack → ℕ → Result ℕ (Unit {0}) → Stack → Type 0) (old new : Stack) (reads : RuleReads Rule Registers) where
  -- a step by a rule that was found reads what the rule does
  pub hit-reads : (first : Bool) (registers : Registers) (finding : Finding Rule) (rule : Rule) → finding ≡ Hits rule → ReadsOverWords step old new (reads rule first registers)
      → ReadsIfKnown step old new (reads_of_finding reads first registers finding)
  hit-reads first registers finding rule is read = subst (λ f. ReadsIfKnown step old new (reads_of_finding reads first registers f)) (sym is) read

  -- where none was found, nothing is said of what is read
  pub miss-reads : (first : Bool) (registers : Registers) (key : Key) (finding : Finding Rule) (handle : Key) → Miss handle ≡ result_of key finding
      → ReadsIfKnown step old new (reads_of_finding reads first registers finding)
  miss-reads first registers key (Hits rule) handle is = absurd cc
  miss-reads first registers key EmptySlot handle is = tt
  miss-reads first registers key OtherModules handle is = tt
  miss-reads first registers key OtherAddress handle is = tt

  -- by the address that a frame is looked up by
  pub frame-reads : (registers : Registers) (cache : Kept Rule) (address : FrameAddress) (lookup : ℕ) (b : Bool) (generation : ℕ)
      → lookup ≡ lookup_address_of address → (IsTrue b ↔ IsReturnAddress address)
      → ReadsIfKnown step old new (reads_of_finding reads (not b) registers (found_by cache (key_of lookup (not b) generation)))
      → ReadsIfKnown step old new (reads_on_hit reads generation cache (frame_of address) registers)
  frame-reads registers cache address lookup b generation looked kind read =
      let first = (frame_of address).is_first in
      subst (λ n. ReadsIfKnown step old new (reads_of_finding reads first registers (found_by cache (key_of n first generation)))) (looked ∙ looked-up-is address)
      (subst (λ f. ReadsIfKnown step old new (reads_of_finding reads f registers (found_by cache (key_of lookup f generation)))) (first-is b address kind) read)

  -- by an unwinder and a cache of a session
  pub session-reads : {D : Type 0} (s : SessionState D Rule) (unwinder : UnwinderId) (cache : CacheId) (frame : Frame) (registers : Registers) (u : Loads (Loaded D)) (there : Kept Rule)
      → u ≡ unwinder_at s.unwinders (unwinder_number unwinder) → held s.caches (cache_number cache) ≡ Some there
      → ReadsIfKnown step old new (reads_on_hit reads u.generation there frame registers)
      → ReadsIfKnown step old new (reads_by reads s unwinder cache frame registers)
  session-reads {D} s unwinder cache frame registers u there mine theirs read =
      let now = unwinder_at s.unwinders (unwinder_number unwinder) in
      subst (λ (o : Option (Kept Rule)). ReadsIfKnown step old new (reads_on_hit reads now.generation (unwrap_or o (new_kept 509)) frame registers)) (sym theirs)
      (subst (λ (x : Loads (Loaded D)). ReadsIfKnown step old new (reads_on_hit reads x.generation there frame registers)) mine read)

module _ {Stack D Rule Registers : Type 0} (step : Stack → ℕ → Result ℕ (Unit {0}) → Stack → Type 0) (old new : Stack) where
  -- a step that is judged by the address that a frame is looked up by
  pub frame-judged : (m : Meanings D Rule Registers) (modules : List (Loaded D)) (Premise : Type 0) (result : Result (Option ℕ) Error) (before after : Registers)
      (address : FrameAddress) (lookup : ℕ) (b : Bool) → lookup ≡ lookup_address_of address → (IsTrue b ↔ IsReturnAddress address)
      → OverWords step old new (λ words. Premise → StepsAs result before after (judge_at m modules (not b) lookup before words))
      → OverWords step old new (λ words. Premise → StepsAs result before after (judge m modules (frame_of address) before words))
  frame-judged m modules Premise result before after address lookup b looked kind judged =
      let first = (frame_of address).is_first in
      subst (λ n. OverWords step old new (λ words. Premise → StepsAs result before after (judge_at m modules first n before words))) (looked ∙ looked-up-is address)
      (subst (λ f. OverWords step old new (λ words. Premise → StepsAs result before after (judge_at m modules f lookup before words))) (first-is b address kind) judged)

-- what holds of a call that found what it names
pub on-ok : {A E P : Type 0} (result : Result A E) (answer : A) → result ≡ Ok answer → OnOk result P → P
on-ok {A} {E} {P} result answer is on = subst (λ (r : Result A E). OnOk r P) is on
