use Rattle.std.proofs.Common.{◌≡◌, Ok}
use Rattle.cases_unwinding.specs.Little.{little}
use Rattle.cases_unwinding.specs.Codes.{words_at}
use Rattle.cases_unwinding.proofs.parts.read_core.tables.read_offsets.Given as goal

-- the offsets so far, and what is left behind them
abbrev pub invariant-loop-i : goal.invariant-loop-i
invariant-loop-i l = words_at l.i (little l.fn.input) ≡ Ok (l.offsets.items, little l.input)
