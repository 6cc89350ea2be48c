use Rattle.std.proofs.Common.{◌≡◌, ◌+◌, ◌-◌, arith, sym, ◌∙◌}
use Rattle.core_files.specs.RangeViews.{range_seen}
use Rattle.core_files.proofs.Words.{byte-after-zeros, file-here, zeros-dropped}
use Rattle.core_files.proofs.memory_range.MemoryRange.file_at.Goals as goal

pub returns : goal.returns
returns c =
    let range = c.args.self.now in
    let place = c.args.address - range.address in
    let is : place ≡ range.zeros + c.in-Some.at = omega (arith, c.in-Some.ensures) in
    file-here (range_seen range) c.args.address c.bytes_after.result.now (sym c.contains.ensures ∙ c.if-not-contains.false)
    (byte-after-zeros range.zeros range.bytes.now place c.in-Some.at is ∙ c.if-self-at-ne-ELF_MAGIC_0.false)
    (c.bytes_after.ensures ∙ sym (zeros-dropped range.zeros range.bytes.now place c.in-Some.at is))
