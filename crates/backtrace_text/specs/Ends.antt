-- The line for how a walk ends.
use Rattle.std.specs.Prelude.{List, [], ℕ, ◌++◌, codes}
use Rattle.json_program.specs.Lines.{hexadecimal, line}
use Rattle.framehop_registers.specs.declared.error.Error.{Error}
use Rattle.framehop_registers.specs.declared.error.Error.TheVariants.{CouldNotReadStack, FramepointerUnwindingMovedBackwards, DidNotAdvance, IntegerOverflow, ReturnAddressIsNull, OutOfMemory}
use Rattle.backtrace_text.specs.declared.ends.WalkEnd.{WalkEnd}
use Rattle.backtrace_text.specs.declared.ends.WalkEnd.TheVariants.{EndOfStack, Stopped, LimitReached}

-- why a step failed
abbrev pub error_text : Error → List ℕ
error_text (CouldNotReadStack address) = codes "could not read stack memory at " ++ hexadecimal address
error_text FramepointerUnwindingMovedBackwards = codes "frame pointer unwinding moved backwards"
error_text DidNotAdvance = codes "neither the code address nor the stack pointer changed"
error_text IntegerOverflow = codes "an address is not within 64 bits"
error_text ReturnAddressIsNull = codes "the return address is null"
error_text OutOfMemory = codes "out of memory"

-- a walk to the end of the stack has no line
abbrev pub end_text : WalkEnd → List ℕ
end_text EndOfStack = []
end_text (Stopped error) = line (codes "Backtrace stopped: " ++ error_text error)
end_text LimitReached = line (codes "Backtrace stopped: limit reached")
