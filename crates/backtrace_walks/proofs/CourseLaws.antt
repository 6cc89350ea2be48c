-- The courses of walks, by cases.
use Rattle.std.proofs.Common.{◌≡◌, Option, Some, refl, ap}
use Rattle.std.specs.Prelude.{option_map}
use Rattle.framehop_unwinder.specs.Walk.{Walk}
use Rattle.backtrace_walks.specs.Backtraces.{Process, caller_behind, caller_of, course_by, walk_on}
use Rattle.backtrace_walks.specs.StackMeanings.{StackMeanings}
use Rattle.backtrace_walks.specs.WalkedViews.{frame_seen, next_seen}
use Rattle.backtrace_walks.specs.declared.walks.NextFrame.{NextFrame}
use Rattle.backtrace_walks.specs.declared.walks.NextFrame.TheVariants.{Frame}
use Rattle.backtrace_walks.specs.declared.walks.WalkedFrame.{WalkedFrame}

module _ {Rule R : Type 0} (stacks : StackMeanings Rule R) (process : Process) where
  -- a frame is next
  pub by_frame : (next : NextFrame R) (frame : WalkedFrame R) → next ≡ Frame frame
      → caller_of stacks process (frame_seen frame) ≡ caller_behind stacks process (next_seen next)
  by_frame next frame is = rw is refl

  -- a frame has a caller
  pub by_caller : (found : Option (WalkedFrame R)) (caller : WalkedFrame R) (walk on : Walk R) → found ≡ Some caller
      → on ≡ walk_on stacks process (frame_seen caller)
      → record { walk = on; caller = Some (frame_seen caller) } ≡ course_by stacks process (option_map frame_seen found) walk
  by_caller found caller walk on is same = rw is (ap (λ (w : Walk R). record { walk = w; caller = Some (frame_seen caller) }) same)
