use Rattle.std.proofs.Common.{◌≡◌, ◌∙◌, ◌+◌, ◌-◌, ◌*◌, arith, ap, sym}
use Rattle.std.specs.Prelude.{◌/◌, ◌%◌, nat_le, if◌then◌else◌}
use Rattle.framehop_compact_tables.specs.Bytes.{capped_sum, u32_at}
use Rattle.framehop_compact_tables.specs.Pages.{entries_offset, entry_start}
use Rattle.framehop_compact_tables.proofs.Entries.{u32_at-drop}
use Rattle.framehop_compact_tables.proofs.page_entries.PageEntriesStarts.count_at_or_below.Goals as goal

pub returns-in-Regular : goal.returns-in-Regular
returns-in-Regular c =
    let entries = c.args.self.now in
    let row = c.args.row + c.args.more in
    let at = 8 * row in
    let sum : 8 * c.args.row + 8 * c.args.more ≡ at = omega arith in
    let start_is : c.u32_after-start.result ≡ entry_start entries.bytes.now entries.page row =
    c.u32_after-start.ensures ∙ ap (λ at. u32_at entries.entries.now at) sum
    ∙ ap (λ bytes. u32_at bytes at) entries.from_entries ∙ u32_at-drop entries.bytes.now (entries_offset entries.page) at
    ∙ ap (λ page. u32_at entries.bytes.now (entries_offset page + at)) c.in-Regular.is
    ∙ sym (ap (λ page. entry_start entries.bytes.now page row) c.in-Regular.is) in
    grind (arith, start_is, c.count_at_most.ensures, c.from.ensures, c.from-in-Regular.ensures)

pub returns-then-entries_offset-eq0 : goal.returns-then-entries_offset-eq0
returns-then-entries_offset-eq0 c =
    let entries = c.args.self.now in
    let row = c.args.row + c.args.more in
    let at = 4 * row in
    let sum : 4 * c.args.row + 4 * c.args.more ≡ at = omega arith in
    let word_is : c.u32_after-word.result ≡ u32_at entries.bytes.now (c.in-Compressed.entries_offset + at) =
    c.u32_after-word.ensures ∙ ap (λ at. u32_at entries.entries.now at) sum
    ∙ ap (λ bytes. u32_at bytes at) entries.from_entries ∙ u32_at-drop entries.bytes.now (entries_offset entries.page) at
    ∙ ap (λ page. u32_at entries.bytes.now (entries_offset page + at)) c.in-Compressed.is in
    c.count_of_compressed.ensures
    ∙ ap (λ word. if nat_le (capped_sum c.in-Compressed.start (word % 0x1000000)) c.args.address then 1 else 0) word_is
    ∙ sym (ap (λ page. if nat_le (entry_start entries.bytes.now page row) c.args.address then 1 else 0) c.in-Compressed.is)

pub returns-else-entries_offset-eq0 : goal.returns-else-entries_offset-eq0
returns-else-entries_offset-eq0 c =
    let entries = c.args.self.now in
    let row = c.args.row + c.args.more in
    let at = 4 * row in
    let next = 4 * c.args.row + 4 * c.args.more + 1 in
    let offset = c.in-Compressed.entries_offset in
    let sum : offset - 1 + next ≡ offset + at = omega arith in
    let number_is : u32_at entries.before.now next ≡ u32_at entries.bytes.now (offset + at) =
    ap (λ bytes. u32_at bytes next) entries.from_before ∙ u32_at-drop entries.bytes.now (entries_offset entries.page - 1) next
    ∙ ap (λ page. u32_at entries.bytes.now (entries_offset page - 1 + next)) c.in-Compressed.is ∙ ap (λ at. u32_at entries.bytes.now at) sum in
    let distance_is : c.u32_below-word.result / 256 ≡ u32_at entries.bytes.now (offset + at) % 0x1000000 =
    c.u32_below-word.ensures ∙ ap (λ number. number % 0x1000000) number_is in
    c.count_of_lower.ensures
    ∙ ap (λ distance. if nat_le (capped_sum c.in-Compressed.start distance) c.args.address then 1 else 0) distance_is
    ∙ sym (ap (λ page. if nat_le (entry_start entries.bytes.now page row) c.args.address then 1 else 0) c.in-Compressed.is)
