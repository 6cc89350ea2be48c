use Rattle.std.proofs.Common.{◌≡◌, ◌++◌, ◌+◌, drop}
use Rattle.backtrace_lint.specs.HeaderTables.{unordered_from}
use Rattle.backtrace_lint.proofs.header_tables.unordered_after.Given as goal

-- what was found, with what is found from here on
abbrev pub invariant-loop-place : goal.invariant-loop-place
invariant-loop-place l = l.found.items ++ unordered_from (l.place + 1) l.before (drop l.place l.rows) ≡ unordered_from 1 l.first l.rows
