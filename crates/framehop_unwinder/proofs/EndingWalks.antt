-- Walks through a session that end at a return address of 0: what a move leaves.
use Rattle.std.proofs.Common.{◌≡◌, ◌∙◌, ℕ, List, Bool, true, Option, Result, Ok, Err, ap, sym, refl}
use Rattle.std.specs.Prelude.{◌&&◌}
use Rattle.framehop_registers.specs.Callback.{Words}
use Rattle.framehop_registers.specs.declared.code_address.FrameAddress.{FrameAddress}
use Rattle.framehop_registers.specs.declared.error.Error.{Error}
use Rattle.framehop_registers.specs.declared.error.Error.TheVariants.{CouldNotReadStack, FramepointerUnwindingMovedBackwards, DidNotAdvance, IntegerOverflow, ReturnAddressIsNull, OutOfMemory}
use Rattle.framehop_unwinder.specs.ByNumber.{is_held, mark}
use Rattle.framehop_unwinder.specs.EndingWalks.{EndsAs, ended, ending}
use Rattle.framehop_unwinder.specs.History.{KeyHistory}
use Rattle.framehop_unwinder.specs.State.{ChangesCaches, SessionState}
use Rattle.framehop_unwinder.specs.Walk.{Judgment, Move, Walk}
use Rattle.framehop_unwinder.specs.WalkViews.{MovesAs, frame_answer}
use Rattle.framehop_unwinder.proofs.Sessions.{held-mapped}

-- only what is in caches changed, so an unwinder and a cache that were there still are
pub both-stay : {D R : Type 0} (after : List (Option KeyHistory) → List (Option KeyHistory)) (old new : SessionState D R) (unwinder cache : ℕ)
    → ChangesCaches after old new → (is_held old.unwinders unwinder && is_held old.caches cache) ≡ true
    → (is_held new.unwinders unwinder && is_held new.caches cache) ≡ true
both-stay after old new unwinder cache changes both =
    ap (λ us. is_held us unwinder && is_held new.caches cache) changes.unwinders
    ∙ ap (λ there. is_held old.unwinders unwinder && there) (sym (held-mapped mark new.caches cache) ∙ ap (λ ms. is_held ms cache) changes.held ∙ held-mapped mark old.caches cache)
    ∙ both

module _ {Registers : Type 0} where
  -- the frame in place of its address ends no other walk
  ended-answer : (answer : Result (Option FrameAddress) Error) (walk : Walk Registers) → ended (frame_answer answer) walk ≡ ended answer walk
  ended-answer (Ok answer) walk = refl
  ended-answer (Err (CouldNotReadStack address)) walk = refl
  ended-answer (Err FramepointerUnwindingMovedBackwards) walk = refl
  ended-answer (Err DidNotAdvance) walk = refl
  ended-answer (Err IntegerOverflow) walk = refl
  ended-answer (Err ReturnAddressIsNull) walk = refl
  ended-answer (Err OutOfMemory) walk = refl

  -- a move that these judgments give, and after which its walk was ended at 0
  pub ends-as : (judgment : Judgment Registers) (words : Words) (old : Walk Registers) (answer : Result (Option FrameAddress) Error) (moved new : Walk Registers)
      → MovesAs judgment words old answer moved → new ≡ ended answer moved → EndsAs judgment words old answer new
  ends-as judgment words old answer moved new moves is wanted =
      let left : Walk Registers → Move Registers = λ walk. record { answer = frame_answer answer; walk = walk } in
      ap left (is ∙ sym (ended-answer answer moved)) ∙ ap ending (moves wanted)
