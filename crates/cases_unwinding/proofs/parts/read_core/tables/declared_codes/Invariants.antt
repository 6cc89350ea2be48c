use Rattle.std.proofs.Common.{◌≡◌, ◌≤◌}
use Rattle.dwarf_read_core.specs.DebugAbbrev.{declarations}
use Rattle.cases_unwinding.specs.Codes.{declared_up_to}
use Rattle.cases_unwinding.proofs.parts.read_core.tables.declared_codes.Given as goal

abbrev pub invariant-loop-code : goal.invariant-loop-code
invariant-loop-code l = record {
  counted : l.declared ≡ declared_up_to l.code (declarations l.table);
  few : l.declared ≤ l.code;
}
