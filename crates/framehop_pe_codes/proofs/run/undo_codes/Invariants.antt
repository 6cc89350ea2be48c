use Rattle.std.proofs.Common.{◌≡◌}
use Rattle.std.specs.Prelude.{IsOk, Ok, List}
use Rattle.framehop_registers.specs.Callback.{OverWords}
use Rattle.framehop_pe_codes.specs.InfoViews.{OverOperations, bytes_left, operations_left}
use Rattle.framehop_pe_codes.specs.Machine.{caller_by_codes}
use Rattle.framehop_pe_codes.specs.declared.operation.UnwindOperation.{UnwindOperation}
use Rattle.framehop_pe_codes.proofs.run.undo_codes.Given as goal

-- what is left can be read, and its run from here on is the run of all
abbrev pub invariant-codes : goal.invariant-codes
invariant-codes g l = record {
  callable : goal.F-IsAlwaysCallable g l.read_stack;
  read : OverOperations l.fn.left (λ operations. IsOk (operations_left l.rest));
  run : OverWords (goal.F-step g) l.fn.read_stack l.read_stack (λ words.
      (operations : List UnwindOperation) → operations_left l.fn.left ≡ Ok operations
      → (more : List UnwindOperation) × (operations_left l.rest ≡ Ok more)
      × (caller_by_codes l.frame more l.regs words ≡ caller_by_codes l.frame operations l.fn.regs words));
}

abbrev pub decreases-codes : goal.decreases-codes
decreases-codes g l = bytes_left l.rest
