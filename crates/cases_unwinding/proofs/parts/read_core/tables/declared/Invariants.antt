use Rattle.std.proofs.Common.{◌≡◌, Ok, take}
use Rattle.cases_unwinding.specs.Little.{little}
use Rattle.cases_unwinding.specs.Codes.{declared_in}
use Rattle.cases_unwinding.proofs.parts.read_core.tables.declared.Given as goal

-- what the tables at the offsets so far declare
abbrev pub invariant-loop-offset : goal.invariant-loop-offset
invariant-loop-offset l = declared_in (take l.offset-index l.offsets) l.codes (little l.fn.section) ≡ Ok l.declared
