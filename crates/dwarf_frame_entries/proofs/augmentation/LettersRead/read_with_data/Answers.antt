use Rattle.std.proofs.Common.{arith}
use Rattle.dwarf_frame_rows.specs.EncodedPointer.{origins_of}
use Rattle.dwarf_readers.proofs.Laws.{onward}
use Rattle.dwarf_frame_rows.proofs.Laws.{encoding_on}
use Rattle.dwarf_frame_entries.proofs.Onward.{omitted_on}
use Rattle.dwarf_frame_entries.proofs.augmentation.LettersRead.read_with_data.Goals as goal

pub returns-in_ok-self-in-80-clause-placed : goal.returns-in_ok-self-in-80-clause-placed
returns-in_ok-self-in-80-clause-placed g c =
    let stretch = g.R.Reader.stretch in
    let s = stretch c.args.left in
    let t = stretch c.parse_pointer_encoding-in-80.new.input in
    let u = stretch c.read_pointer.new.input in
    let encoding = onward s t _ _ (encoding_on s) c.in_ok-encoding-in-80.ensures.read in
    let pointer = onward t u _ _ (omitted_on (origins_of stretch c.args.parameters.now) c.in_ok-encoding-in-80.encoding.0 t) c.in_ok-self-in-80.ensures in
    omega (arith, c.requires)
