-- What contracts see of walks and their frames.
use Rattle.std.specs.Prelude.{◌≡◌, ℕ, Result}
use Rattle.framehop_registers.specs.Callback.{OverWords, Words}
use Rattle.framehop_unwinder.specs.Frames.{frame_of}
use Rattle.framehop_unwinder.specs.WalkViews.{walk_of}
use Rattle.framehop_unwinder.specs.declared.iterator.StackWalk.{StackWalk}
use Rattle.backtrace_walks.specs.Walks.{Advance, Ends, FrameWith, Next, Reaches}
use Rattle.backtrace_walks.specs.declared.walks.NextFrame.{NextFrame}
use Rattle.backtrace_walks.specs.declared.walks.NextFrame.TheVariants as next
use Rattle.backtrace_walks.specs.declared.walks.WalkedFrame.{WalkedFrame}

-- A frame, by how it was reached and its code address.
abbrev pub frame_seen : {Registers : Type 0} → WalkedFrame Registers → FrameWith Registers
frame_seen frame = record { frame = frame_of frame.address; registers = frame.registers }

-- What a walk has next.
abbrev pub next_seen : {Registers : Type 0} → NextFrame Registers → Next Registers
next_seen (next.Frame frame) = Reaches (frame_seen frame)
next_seen (next.End end) = Ends end

-- A call returns what is next, and leaves the walk where it goes on.
abbrev pub IsAdvance : {Registers : Type 0} → NextFrame Registers → StackWalk Registers → Advance Registers → Type 0
IsAdvance next walk expected = record { next = next_seen next; walk = walk_of walk } ≡ expected

-- A call took the callback from one state to another. It advances a walk so, over all words that the callback answered by.
abbrev pub AdvancesAs : {S Registers : Type 0} → (S → ℕ → Result ℕ (Unit {0}) → S → Type 0) → S → S → NextFrame Registers
    → StackWalk Registers → (Words → Advance Registers) → Type 0
AdvancesAs step old new next walk expected = OverWords step old new (λ words. IsAdvance next walk (expected words))
