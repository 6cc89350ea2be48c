-- The sink holds what it held, and then the front that is written.
use Rattle.std.proofs.Common.{◌≡◌, ◌-◌, ◌≤◌, length, take, false}
use Rattle.std.specs.Io.KnownBytes.{Appends}
use Rattle.json_program.proofs.transfer.write_all.Given as goal

abbrev pub invariant-loop-written : goal.invariant-loop-written
invariant-loop-written g l = record {
  bound : l.written ≤ length l.bytes;
  front : Appends (g.S.Sink.contents l.fn.sink) (g.S.Sink.contents l.sink) (take l.written l.bytes);
  sound : g.S.Sink.has_failed l.sink ≡ false;
}

abbrev pub decreases-loop-written : goal.decreases-loop-written
decreases-loop-written g l = length l.bytes - l.written
