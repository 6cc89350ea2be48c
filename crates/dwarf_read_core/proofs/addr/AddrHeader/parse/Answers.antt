use Rattle.std.proofs.Common.{◌+◌, ◌≤◌, length, arith}
use Rattle.dwarf_readers.proofs.Laws.{initial_length_takes, leaves_is, split_takes}
use Rattle.dwarf_read_core.proofs.addr.AddrHeader.parse.Goals as goal

pub returns-clause-less : goal.returns-clause-less
returns-clause-less g c =
    let stretch = g.R.Reader.stretch in
    let s = stretch c.args.input.now in
    let t = stretch c.read_initial_length.new.self in
    let size = g.R.Offset.ReaderOffset.value c.in_ok-length.length in
    let behind_length : 4 + length t.bytes ≤ length s.bytes = leaves_is (initial_length_takes g.R.Offset.ReaderOffset.limit s) c.in_ok-length.ensures.read in
    let behind_set : size + length (stretch c.split.new.self).bytes ≤ length t.bytes = leaves_is (split_takes size t) c.in_ok-entries.ensures.read in
    omega (arith, behind_length, behind_set)
