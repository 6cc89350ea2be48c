use Rattle.std.proofs.Common.{sym, ◌∙◌}
use Rattle.std.specs.Prelude.{Ok, Err}
use Rattle.std.specs.Option.{option_map}
use Rattle.elf_files.specs.SymbolViews.{symbol_seen}
use Rattle.elf_files.proofs.FileTables.{if_err-same, if_ok-same, symbol-is}
use Rattle.elf_files.proofs.file.ElfFile.symbol_for_address.Goals as goal

pub returns-in-Some-clause-ok : goal.returns-in-Some-clause-ok
returns-in-Some-clause-ok c =
    let file = c.args.self.now in
    let same = symbol-is file.bytes.now file.header c.args.address c.in_ok-sections.sections c.in-Some.section c.in_ok-sections.ensures.ok (sym c.symbol_table.ensures ∙ c.in-Some.is) in
    if_ok-same c.function_in.result (λ found. Ok (option_map symbol_seen found)) _ _ same c.function_in.ensures.ok

pub returns-in-Some-clause-err : goal.returns-in-Some-clause-err
returns-in-Some-clause-err c =
    let file = c.args.self.now in
    let same = symbol-is file.bytes.now file.header c.args.address c.in_ok-sections.sections c.in-Some.section c.in_ok-sections.ensures.ok (sym c.symbol_table.ensures ∙ c.in-Some.is) in
    if_err-same c.function_in.result (λ e. Err e) _ _ same c.function_in.ensures.err
