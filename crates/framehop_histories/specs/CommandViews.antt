-- Commands and their answers as contracts see them.
use Rattle.std.specs.Prelude.{List, map, Option, Some, None}
use Rattle.framehop_registers.specs.Callback.{Words}
use Rattle.framehop_unwinder.specs.Frames.{frame_of}
use Rattle.framehop_unwinder.specs.Walk.{Walk}
use Rattle.framehop_unwinder.specs.WalkViews.{frame_answer, walk_of}
use Rattle.framehop_unwinder.specs.declared.iterator.StackWalk.{StackWalk}
use Rattle.framehop_histories.specs.Commands.{Act, Reply}
use Rattle.framehop_histories.specs.Commands as commands
use Rattle.framehop_histories.specs.declared.commands.Answer.{Answer}
use Rattle.framehop_histories.specs.declared.commands.Answer.TheVariants.{Added, Removed, Unknown, GenerationsExhausted, OutOfMemory, Stepped, Moved}
use Rattle.framehop_histories.specs.declared.commands.Command.{Command}
use Rattle.framehop_histories.specs.declared.commands.Command.TheVariants.{NewUnwinder, NewCache, Load, Unload, Clone, RemoveUnwinder, RemoveCache, Step, NewWalk, NextFrame}

-- what a command asks, if callbacks answer by these words
abbrev pub act_of : {Data Context Registers Callback : Type 0} → (Callback → Words) → Command Data Context Registers Callback
    → Act Data Registers
act_of words NewUnwinder = commands.NewUnwinder
act_of words (NewCache slots unwind_context) = commands.NewCache slots
act_of words (Load unwinder module_) = commands.Load unwinder module_
act_of words (Unload unwinder start) = commands.Unload unwinder start
act_of words (Clone unwinder) = commands.Clone unwinder
act_of words (RemoveUnwinder unwinder) = commands.RemoveUnwinder unwinder
act_of words (RemoveCache cache) = commands.RemoveCache cache
act_of words (Step unwinder cache address regs read_stack) =
    commands.Step unwinder cache (frame_of address) regs (words read_stack)
act_of words (NewWalk pc regs) = commands.NewWalk pc regs
act_of words (NextFrame unwinder cache walk read_stack) = commands.NextFrame unwinder cache walk (words read_stack)

-- an answer; None if it is out of memory
abbrev pub reply_of : {Registers : Type 0} → Answer Registers → Option (Reply Registers)
reply_of Added = Some commands.Added
reply_of Removed = Some commands.Removed
reply_of Unknown = Some commands.Unknown
reply_of GenerationsExhausted = Some commands.Exhausted
reply_of OutOfMemory = None
reply_of (Stepped answer regs) = Some (commands.Stepped answer regs)
reply_of (Moved answer regs) = Some (commands.Moved (frame_answer answer) regs)

-- walks that are made move by move
abbrev pub walks_of : {Registers : Type 0} → List (StackWalk Registers) → List (Walk Registers)
walks_of walks = map walk_of walks

-- a statement about the callback of a command, if it has one
abbrev pub OfCallback : {Data Context Registers Callback : Type 0} → (Callback → Type 0)
    → Command Data Context Registers Callback → Type 0
OfCallback Statement NewUnwinder = Unit {0}
OfCallback Statement (NewCache slots unwind_context) = Unit {0}
OfCallback Statement (Load unwinder module_) = Unit {0}
OfCallback Statement (Unload unwinder start) = Unit {0}
OfCallback Statement (Clone unwinder) = Unit {0}
OfCallback Statement (RemoveUnwinder unwinder) = Unit {0}
OfCallback Statement (RemoveCache cache) = Unit {0}
OfCallback Statement (Step unwinder cache address regs read_stack) = Statement read_stack
OfCallback Statement (NewWalk pc regs) = Unit {0}
OfCallback Statement (NextFrame unwinder cache walk read_stack) = Statement read_stack
