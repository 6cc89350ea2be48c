use Rattle.std.proofs.Common.{◌≡◌, ◌∙◌, ◌+◌, ◌*◌, arith, ap}
use Rattle.framehop_compact_tables.specs.Bytes.{u32_at}
use Rattle.framehop_compact_tables.specs.Index.{index_start}
use Rattle.framehop_compact_tables.proofs.Entries.{u32_at-drop}
use Rattle.framehop_compact_tables.proofs.index.IndexStarts.count_at_or_below.Goals as goal

pub returns : goal.returns
returns c =
    let index = c.args.self.now in
    let row = c.args.row + c.args.more in
    let at = 12 * row in
    let sum : 12 * c.args.row + 12 * c.args.more ≡ at = omega arith in
    let start_is : c.u32_after-start.result ≡ index_start index.bytes.now row =
    c.u32_after-start.ensures ∙ ap (λ at. u32_at index.entries.now at) sum
    ∙ ap (λ bytes. u32_at bytes at) index.from_entries ∙ u32_at-drop index.bytes.now index.offset at
    ∙ ap (λ offset. u32_at index.bytes.now (offset + at)) index.at in
    grind (arith, start_is, c.count_at_most.ensures, c.from.ensures, c.from-2.ensures)
