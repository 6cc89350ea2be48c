use Rattle.std.proofs.Common.{◌≡◌, ℕ, ◌<◌}
use Rattle.framehop_expressions.specs.Registers.{known}
use Rattle.framehop_whole_steps.specs.Known.{value_of}
use Rattle.framehop_whole_steps.proofs.known.known_of.Given as goal

abbrev pub invariant-loop-number : goal.invariant-loop-number
invariant-loop-number g l =
    let c = g.A.CarriesRegisters.carrying in
    record {
      architecture : l.all.architecture ≡ c.architecture;
      mask : l.all.mask ≡ c.mask l.regs.regs;
      values : (k : ℕ) → k < l.number → known l.all k ≡ value_of c l.is_first_frame l.regs k;
    }
