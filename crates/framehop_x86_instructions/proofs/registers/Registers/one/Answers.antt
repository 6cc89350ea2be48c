use Rattle.std.proofs.Common.{ap, arith}
use Rattle.std.proofs.lemmas.Nat.{one_shl}
use Rattle.framehop_x86_instructions.specs.declared.registers.Registers.{Registers}
use Rattle.framehop_x86_instructions.proofs.registers.Registers.one.Goals as goal

pub returns : goal.returns
returns c = ap (λ n. let set : Registers = record { bits = n } in set) (one_shl c.args.number 32 (omega (arith, c.requires)))
