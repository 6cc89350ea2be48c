use Rattle.std.proofs.Common.{◌*◌, ◌/◌, length, arith}
use Rattle.elf_segments.specs.TableSymbols.{symbol_from}
use Rattle.elf_segments.proofs.FunctionLists.{one_before}
use Rattle.elf_segments.proofs.table_symbols.function_at.Goals as goal

pub symbols-preserved : goal.symbols-preserved
symbols-preserved c =
    let table = c.args.table.now in
    let known = c.symbols.invariant in
    record {
      within = omega arith;
      same = one_before c.args.address (λ index. symbol_from table (24 * index)) c.symbols.left (length table / 24) c.symbol_from.result c.symbols.found c.with_earlier-found.result
          c.symbols-test.true known.within c.symbol_from.ensures known.same c.with_earlier-found.ensures;
    }
