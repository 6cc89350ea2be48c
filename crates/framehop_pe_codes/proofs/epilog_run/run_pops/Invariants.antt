use Rattle.std.proofs.Common.{◌≡◌, length, List}
use Rattle.std.specs.Prelude.{Some, IsSome}
use Rattle.framehop_registers.specs.Callback.{OverWords}
use Rattle.framehop_registers.specs.declared.x86_64.unwindregs.Reg.{Reg}
use Rattle.framehop_pe_codes.specs.EpilogRuns.{caller_by_pops}
use Rattle.framehop_pe_codes.specs.Epilogs.{pops_of}
use Rattle.framehop_pe_codes.proofs.epilog_run.run_pops.Given as goal

abbrev pub invariant-pops : goal.invariant-pops
invariant-pops g l = record {
  callable : goal.F-IsAlwaysCallable g l.read_stack;
  pops : IsSome (pops_of l.rest);
  run : OverWords (goal.F-step g) l.fn.read_stack l.read_stack (λ words.
      (registers : List Reg) → pops_of l.bytes ≡ Some registers
      → (more : List Reg) × (pops_of l.rest ≡ Some more) × (caller_by_pops more l.regs words ≡ caller_by_pops registers l.fn.regs words));
}

abbrev pub decreases-pops : goal.decreases-pops
decreases-pops g l = length l.rest
