-- A move of a walk through a session, by what the modules of the session mean.
use Rattle.std.proofs.Common.{◌≡◌, ℕ, List, Option, Result, sym, ap, ◌∙◌}
use Rattle.framehop_registers.specs.Callback.{Words}
use Rattle.framehop_registers.specs.declared.error.Error.{Error}
use Rattle.framehop_unwinder.specs.Attempt.{Meanings}
use Rattle.framehop_unwinder.specs.Frames.{Frame}
use Rattle.framehop_unwinder.specs.Judge.{judge}
use Rattle.framehop_unwinder.specs.Modules.{Loaded}
use Rattle.framehop_unwinder.specs.Walk.{Move, Walk, move}
use Rattle.backtrace_walks.specs.Walks.{Advance, Next, advance, next_by, resumed}
use Rattle.backtrace_walks.specs.declared.registers.ThreadStart.{ThreadStart}

module _ {Data Rule R : Type 0} (steps : Meanings Data Rule R) (modules : List (Loaded Data)) (interrupted : ℕ → R → Option (ThreadStart R)) (words : Words) where
  -- what a move gives
  abbrev given_by : Move R → Advance R
  given_by made = record { next = next_by made.answer made.walk.registers; walk = resumed interrupted made.answer made.walk }

  -- a move by meanings that are those of the steps, and what was made of it
  pub advances : {meanings : Meanings Data Rule R} → steps ≡ meanings
      → (answer : Result (Option Frame) Error) (old new later : Walk R) (registers : R) (next : Next R)
      → record { answer = answer; walk = new } ≡ move (judge meanings modules) words old
      → registers ≡ new.registers → next ≡ next_by answer registers → later ≡ resumed interrupted answer new
      → record { next = next; walk = later } ≡ advance (judge steps modules) interrupted words old
  advances same answer old new later registers next made with_registers is_next is_later =
      ap (λ (n : Next R). record { next = n; walk = later }) (is_next ∙ ap (next_by answer) with_registers)
      ∙ ap (λ (w : Walk R). record { next = next_by answer new.registers; walk = w }) is_later
      ∙ ap given_by (made ∙ ap (λ (ms : Meanings Data Rule R). move (judge ms modules) words old) (sym same))
