-- A move of a walk through a session, by what samples mean.
use Rattle.std.proofs.Common.{◌≡◌, ℕ, List, Option, Result, sym, ap, ◌∙◌}
use Rattle.framehop_registers.specs.Callback.{Words}
use Rattle.framehop_registers.specs.FrameAddress.{address_of}
use Rattle.framehop_registers.specs.declared.code_address.FrameAddress.{FrameAddress}
use Rattle.framehop_registers.specs.declared.error.Error.{Error}
use Rattle.framehop_unwinder.specs.Attempt.{Meanings}
use Rattle.framehop_unwinder.specs.Frames.{Frame}
use Rattle.framehop_unwinder.specs.Judge.{judge}
use Rattle.framehop_unwinder.specs.Modules.{Loaded}
use Rattle.framehop_unwinder.specs.Walk.{Move, Walk, move}
use Rattle.sample_stacks.specs.SampleWalks.{Next, advanced, begun_or, next_of, resumed}
use Rattle.sample_stacks.specs.WalkViews.{next_seen}
use Rattle.sample_stacks.specs.declared.arch.SampleStart.{SampleStart}
use Rattle.sample_stacks.specs.declared.walks.NextMove.{NextMove}
use Rattle.sample_stacks.specs.declared.walks.NextMove.TheVariants as moves_to
use Rattle.sample_stacks.proofs.Addresses.{same_address}

module _ {Data Rule R : Type 0} (steps : Meanings Data Rule R) (modules : List (Loaded Data)) (words : Words) where
  -- a move by meanings that are those of the steps
  pub moves : {meanings : Meanings Data Rule R} → steps ≡ meanings
      → (answer : Result (Option Frame) Error) (old new : Walk R)
      → record { answer = answer; walk = new } ≡ move (judge meanings modules) words old
      → record { answer = answer; walk = new } ≡ move (judge steps modules) words old
  moves same answer old new made = made ∙ ap (λ (ms : Meanings Data Rule R). move (judge ms modules) words old) (sym same)

-- a walk at a frame goes on where the signal interrupted the thread, if one did
pub resumed-at : {R : Type 0} (interrupted : ℕ → R → Option (SampleStart R)) (next : NextMove) (walk : Walk R) (address : FrameAddress) (at : ℕ)
    (registers : R) (found : Option (SampleStart R)) → next ≡ moves_to.Frame address → at ≡ address_of address → registers ≡ walk.registers
    → found ≡ interrupted at registers → resumed interrupted (next_seen next) walk ≡ begun_or walk found
resumed-at {R} interrupted next walk address at registers found next_is at_is registers_is found_is =
    ap (λ (n : NextMove). resumed interrupted (next_seen n) walk) next_is
    ∙ ap (λ (a : ℕ). begun_or walk (interrupted a walk.registers)) (sym (same_address address) ∙ sym at_is)
    ∙ ap (λ (r : R). begun_or walk (interrupted at r)) (sym registers_is) ∙ ap (begun_or walk) (sym found_is)

-- a move, and where the walk goes on
pub resumes : {R : Type 0} (start : ℕ) (interrupted : ℕ → R → Option (SampleStart R)) (made : Move R) (walk last : Walk R) (next : Next)
    → next ≡ next_of start made.answer → walk ≡ made.walk → last ≡ resumed interrupted next walk
    → last ≡ (advanced start interrupted made).walk
resumes {R} start interrupted made walk last next next_is walk_is last_is =
    last_is ∙ ap (λ (n : Next). resumed interrupted n walk) next_is
    ∙ ap (λ (w : Walk R). resumed interrupted (next_of start made.answer) w) walk_is
