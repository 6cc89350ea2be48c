-- What contracts see of walks.
use Rattle.std.specs.Prelude.{◌≡◌, ℕ, List, map, Result, IfOk, Vec}
use Rattle.std.specs.Global.{Global}
use Rattle.std.specs.declared.alloc.AllocError.{AllocError}
use Rattle.framehop_registers.specs.declared.code_address.FrameAddress.{FrameAddress}
use Rattle.framehop_unwinder.specs.ByNumber.{marks}
use Rattle.framehop_unwinder.specs.Frames.{frame_of}
use Rattle.framehop_unwinder.specs.State.{SessionState}
use Rattle.framehop_unwinder.specs.Walk.{Move, Walk}
use Rattle.framehop_unwinder.specs.WalkViews.{walk_of}
use Rattle.framehop_unwinder.specs.declared.iterator.StackWalk.{StackWalk}
use Rattle.sample_stacks.specs.SampleFrames.{SampleFrames, behind}
use Rattle.sample_stacks.specs.SampleWalks.{Ends, Next, Reaches, next_of}
use Rattle.sample_stacks.specs.declared.walks.NextMove.{NextMove}
use Rattle.sample_stacks.specs.declared.walks.NextMove.TheVariants as next
use Rattle.sample_stacks.specs.declared.walks.WalkEnd.{WalkEnd}

-- What a walk has next.
abbrev pub next_seen : NextMove → Next
next_seen (next.Frame address) = Reaches (frame_of address)
next_seen (next.End end) = Ends end

-- A call returns what a move gives, over a copy from this address on, and leaves the walk where the move does.
pub record IsMove {Registers : Type 0} (start : ℕ) (next : NextMove) (walk : StackWalk Registers) (made : Move Registers) : Type 0 where
  pub next_is : next_seen next ≡ next_of start made.answer
  pub walk_is : walk_of walk ≡ made.walk

-- Only what is in a session's caches changed.
pub record KeepsModules {Data Rule : Type 0} (old new : SessionState Data Rule) : Type 0 where
  pub unwinders : new.unwinders ≡ old.unwinders
  pub caches : marks new.caches ≡ marks old.caches

-- The frames at addresses, and how their walk ends.
abbrev pub frames_seen : List FrameAddress → WalkEnd → SampleFrames
frames_seen addresses end = record { frames = map frame_of addresses; end = end }

-- A call, if it doesn't fail, adds these frames behind others, and returns how their walk ends.
abbrev pub AddsFrames : Result WalkEnd AllocError → Vec FrameAddress Global → Vec FrameAddress Global → SampleFrames → Type 0
AddsFrames result old new found = IfOk result (λ end. frames_seen new.items end ≡ behind (map frame_of old.items) found)
