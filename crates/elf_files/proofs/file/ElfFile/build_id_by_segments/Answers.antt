use Rattle.std.proofs.Common.{◌≡◌, sym, ap, ◌∙◌}
use Rattle.std.specs.Prelude.{Some, None, Ok}
use Rattle.std.specs.Option.{option_copied}
use Rattle.elf_files.specs.BuildIds.{segment_build_id}
use Rattle.elf_files.specs.SegmentViews.{segment_in, segments_in}
use Rattle.elf_files.specs.Tables.{first_found}
use Rattle.elf_files.proofs.FileTables.{by_segments-is}
use Rattle.elf_files.proofs.Tables.{found, passed}
use Rattle.elf_files.proofs.file.ElfFile.build_id_by_segments.Goals as goal

pub returns-in-Some-clause-ok : goal.returns-in-Some-clause-ok
returns-in-Some-clause-ok c =
    let bytes = c.args.self.now.bytes.now in
    let header = c.args.self.now.header in
    let table = c.in_ok-table.table in
    let attempt = segment_build_id bytes in
    let read : attempt (segment_in table c.loop-index.index) ≡ Ok (Some c.in-Some.id.now) =
    ap attempt (sym c.get.ensures) ∙ c.in_ok-id.ensures.ok ∙ ap (λ found. Ok (option_copied found)) c.in-Some.is in
    by_segments-is bytes header table c.in_ok-table.ensures.ok
    ∙ found attempt (segment_in table) c.loop-index.index table.count (first_found attempt (segments_in table)) c.in-Some.id.now c.loop-index-test.true read c.loop-index.invariant

pub loop-index-preserved : goal.loop-index-preserved
loop-index-preserved c =
    let bytes = c.args.self.now.bytes.now in
    let table = c.in_ok-table.table in
    let attempt = segment_build_id bytes in
    let read : attempt (segment_in table c.loop-index.index) ≡ Ok None =
    ap attempt (sym c.get.ensures) ∙ c.in_ok-id.ensures.ok ∙ ap (λ found. Ok (option_copied found)) c.in-None.is in
    passed attempt (segment_in table) c.loop-index.index table.count (first_found attempt (segments_in table)) c.loop-index-test.true read c.loop-index.invariant
