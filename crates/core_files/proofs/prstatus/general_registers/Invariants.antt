use Rattle.std.proofs.Common.{◌≡◌, ℕ, ◌<◌, length, get_or}
use Rattle.core_files.specs.Prstatus.{pr_reg}
use Rattle.core_files.proofs.prstatus.general_registers.Given as goal

abbrev pub invariant-loop-number : goal.invariant-loop-number
invariant-loop-number l = record {
  all : length l.regs ≡ 31;
  read : (k : ℕ) → k < l.number → get_or l.regs k 0 ≡ pr_reg l.descriptor k;
}
