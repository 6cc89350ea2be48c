use Rattle.std.proofs.Common.{◌≡◌, ◌++◌, ◌<◌, List, length, map, ap, ◌∙◌, arith}
use Rattle.std.specs.Option.{option_to_list}
use Rattle.std.proofs.lemmas.Bool.Decides.{nat_tests}
use Rattle.kernel_symbols.specs.Lines.{LineParts, SymbolParts, first_line, symbol_in, symbols_of}
use Rattle.kernel_symbols.specs.LineViews.{symbol_seen}
use Rattle.kernel_symbols.proofs.FirstLines.{rest-shorter, symbols-next}
use Rattle.kernel_symbols.proofs.symbols.symbols_of.Goals as goal

pub lines-preserved : goal.lines-preserved
lines-preserved c =
    let before = map symbol_seen c.lines.symbols.items in
    ap (λ (symbols : List SymbolParts). symbols ++ symbols_of c.first_line-line.result.rest.now) c.in_ok-push_symbol.ensures
    ∙ ap (λ (line : LineParts). (before ++ option_to_list (symbol_in line.bytes)) ++ symbols_of line.rest) c.first_line-line.ensures
    ∙ symbols-next before c.lines.rest.now
    ∙ c.lines.invariant

pub lines-smaller : goal.lines-smaller
lines-smaller c =
    let some : 0 < length c.lines.rest.now = grind (arith, nat_tests) in
    let rest : c.first_line-line.result.rest.now ≡ (first_line c.lines.rest.now).rest = ap (λ (line : LineParts). line.rest) c.first_line-line.ensures in
    omega (arith, ap length rest, rest-shorter c.lines.rest.now some)
