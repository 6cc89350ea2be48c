use Rattle.std.proofs.Common.{ℕ, List, Option, None}
use Rattle.std.specs.Prelude.{replicate}
use Rattle.framehop_expressions.proofs.Unset.{AreNone, none-known}
use Rattle.framehop_expressions.proofs.registers.KnownRegisters.unknown.Goals as goal

pub returns-clause-none : goal.returns-clause-none
returns-clause-none c =
    let values : List (Option ℕ) = replicate 35 None in
    let are : AreNone values = tt in
    λ number. none-known c.args.architecture values number are
