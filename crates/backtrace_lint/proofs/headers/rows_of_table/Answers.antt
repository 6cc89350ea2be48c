-- Each row is the next of those that are left.
use Rattle.std.proofs.Common.{◌≡◌, ◌<◌, sym, ap, ◌∙◌, arith}
use Rattle.dwarf_call_frames.specs.HeaderTable.{HeaderTable, header_table}
use Rattle.backtrace_lint.proofs.ReadRows.{error-read, none-read, row-read}
use Rattle.backtrace_lint.proofs.headers.rows_of_table.Goals as goal

pub returns-in-Ok-None : goal.returns-in-Ok-None
returns-in-Ok-None g c =
    let count : c.size_hint-count.result.0 ≡ c.args.table.now.count = ap (λ n. n.0) c.size_hint-count.ensures.exact ∙ ap (λ (t : HeaderTable). t.count) c.iter.ensures in
    let within : c.loop-index.index < c.args.table.now.count = omega (arith, c.loop-index-test.true, count) in
    none-read g.R.Offset.ReaderOffset.limit (header_table c.args.bases.now.eh_frame_hdr c.args.table.now) c.loop-index.rows.items c.loop-index.index within c.loop-index.invariant
    (sym (rw c.in-Ok-None.field-0-is at c.in-Ok-None.ensures))

pub returns-in-Err : goal.returns-in-Err
returns-in-Err g c =
    let count : c.size_hint-count.result.0 ≡ c.args.table.now.count = ap (λ n. n.0) c.size_hint-count.ensures.exact ∙ ap (λ (t : HeaderTable). t.count) c.iter.ensures in
    let within : c.loop-index.index < c.args.table.now.count = omega (arith, c.loop-index-test.true, count) in
    error-read g.R.Offset.ReaderOffset.limit (header_table c.args.bases.now.eh_frame_hdr c.args.table.now) c.loop-index.rows.items c.loop-index.index within c.loop-index.invariant
    c.in-Err.error (sym c.in-Err.ensures)

pub loop-index-preserved : goal.loop-index-preserved
loop-index-preserved g c =
    let count : c.size_hint-count.result.0 ≡ c.args.table.now.count = ap (λ n. n.0) c.size_hint-count.ensures.exact ∙ ap (λ (t : HeaderTable). t.count) c.iter.ensures in
    let within : c.loop-index.index < c.args.table.now.count = omega (arith, c.loop-index-test.true, count) in
    row-read g.R.Offset.ReaderOffset.limit (header_table c.args.bases.now.eh_frame_hdr c.args.table.now) c.loop-index.rows.items c.loop-index.index within c.loop-index.invariant
    c.in-Ok-Some.row c.push.new.self.items (sym (rw c.in-Ok-Some.field-0-is at c.in-Ok-Some.ensures)) c.in_ok-push-in-Ok-Some.ensures.items
