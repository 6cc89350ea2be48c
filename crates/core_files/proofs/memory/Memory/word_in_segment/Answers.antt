use Rattle.std.proofs.Common.{arith, sym, ◌∙◌, ap}
use Rattle.std.specs.Prelude.{Some}
use Rattle.core_files.specs.RangeViews.{range_seen}
use Rattle.core_files.specs.MemoryViews.{segments_of, files_of}
use Rattle.core_files.proofs.Words.{length-after-zeros, word-after-zeros, word-in-range}
use Rattle.core_files.proofs.memory.Memory.word_in_segment.Goals as goal

pub returns : goal.returns
returns c =
    let segment = c.in-Some.segment in
    let size = length-after-zeros segment.zeros segment.bytes.now in
    word-in-range (segments_of c.args.self.now) (files_of c.args.self.now) c.args.address c.requires.increasing (range_seen segment) (sym c.in-Some.ensures.range) c.in-Some.ensures.begins c.requires.fits
    (omega (arith, c.if-offset-segment.false)) (omega (arith, size, c.in-Some-checked_sub.ensures, c.if-at-segment.false))
    ∙ ap Some (word-after-zeros segment.zeros segment.bytes.now _ c.in-Some-checked_sub.at (omega (arith, c.in-Some-checked_sub.ensures)) ∙ sym c.u64_at.ensures)
