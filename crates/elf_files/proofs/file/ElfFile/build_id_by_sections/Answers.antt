use Rattle.std.proofs.Common.{◌≡◌, sym, ap, ◌∙◌}
use Rattle.std.proofs.lemmas.Result.{err_from_is_err_and}
use Rattle.std.specs.Prelude.{Some, None, Ok, Err}
use Rattle.std.specs.Option.{option_copied}
use Rattle.elf_files.specs.BuildIds.{section_build_id}
use Rattle.elf_files.specs.SectionViews.{section_in, sections_in}
use Rattle.elf_files.specs.Tables.{first_found}
use Rattle.elf_files.proofs.FileTables.{by_sections-is}
use Rattle.elf_files.proofs.Tables.{failed, found, passed}
use Rattle.elf_files.proofs.file.ElfFile.build_id_by_sections.Goals as goal

pub returns-in_err-id-clause-err : goal.returns-in_err-id-clause-err
returns-in_err-id-clause-err c =
    let bytes = c.args.self.now.bytes.now in
    let header = c.args.self.now.header in
    let table = c.in_ok-table.table in
    let attempt = section_build_id bytes in
    let read : attempt (section_in table c.loop-index.index) ≡ Err c.in_err-id.field-0.0 = ap attempt (sym c.get.ensures) ∙ c.in_err-id.ensures.err in
    let fails = failed attempt (section_in table) c.loop-index.index table.count (first_found attempt (sections_in table)) c.in_err-id.field-0.0 c.loop-index-test.true read c.loop-index.invariant in
    let all = by_sections-is bytes header table c.in_ok-table.ensures.ok ∙ fails in
    let given = err_from_is_err_and c.from_residual-in_err-id.result c.from_residual-in_err-id.ensures.1 in
    rw (given.1, given.2) all

pub returns-in-Some-clause-ok : goal.returns-in-Some-clause-ok
returns-in-Some-clause-ok c =
    let bytes = c.args.self.now.bytes.now in
    let header = c.args.self.now.header in
    let table = c.in_ok-table.table in
    let attempt = section_build_id bytes in
    let read : attempt (section_in table c.loop-index.index) ≡ Ok (Some c.in-Some.id.now) =
    ap attempt (sym c.get.ensures) ∙ c.in_ok-id.ensures.ok ∙ ap (λ found. Ok (option_copied found)) c.in-Some.is in
    by_sections-is bytes header table c.in_ok-table.ensures.ok
    ∙ found attempt (section_in table) c.loop-index.index table.count (first_found attempt (sections_in table)) c.in-Some.id.now c.loop-index-test.true read c.loop-index.invariant

pub loop-index-preserved : goal.loop-index-preserved
loop-index-preserved c =
    let bytes = c.args.self.now.bytes.now in
    let table = c.in_ok-table.table in
    let attempt = section_build_id bytes in
    let read : attempt (section_in table c.loop-index.index) ≡ Ok None =
    ap attempt (sym c.get.ensures) ∙ c.in_ok-id.ensures.ok ∙ ap (λ found. Ok (option_copied found)) c.in-None.is in
    passed attempt (section_in table) c.loop-index.index table.count (first_found attempt (sections_in table)) c.loop-index-test.true read c.loop-index.invariant
