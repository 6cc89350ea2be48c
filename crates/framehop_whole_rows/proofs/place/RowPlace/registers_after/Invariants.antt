use Rattle.std.proofs.Common.{◌≡◌, ℕ, ◌<◌}
use Rattle.framehop_registers.specs.Callback.{OverWords}
use Rattle.framehop_expressions.specs.Registers.{known}
use Rattle.framehop_whole_rows.specs.Callers.{caller_register, row_frame}
use Rattle.framehop_whole_rows.proofs.place.RowPlace.registers_after.Given as goal

abbrev pub invariant-loop-number : goal.invariant-loop-number
invariant-loop-number g l = record {
  callable : goal.F-IsAlwaysCallable g l.read;
  architecture : l.caller.architecture ≡ l.self.registers.architecture;
  mask : l.caller.mask ≡ l.self.registers.mask;
  values : OverWords (goal.F-step g) l.fn.read l.read (λ words.
      (k : ℕ) → k < l.number → known l.caller k ≡ caller_register (row_frame l.self words) l.to k);
}
