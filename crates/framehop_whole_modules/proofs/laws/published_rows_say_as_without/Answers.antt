use Rattle.std.proofs.Common.{None, cond, ap}
use Rattle.framehop.specs.ArchMeanings.{meanings_with}
use Rattle.framehop_loads.specs.declared.load_options.Rows.{Rows}
use Rattle.framehop_whole_modules.specs.Attempts.{attempt_with}
use Rattle.framehop_whole_modules.specs.ModuleRows.{is_whole, row_by_format}
use Rattle.framehop_whole_modules.proofs.laws.published_rows_say_as_without.Goals as goal

pub returns : goal.returns
returns g c limits given relative first published =
    let rows = g.A.DwarfUnwinding.rows in
    let m = meanings_with g.A.UnwindRule.UnwindRule.meaning g.A.UnwindRule.UnwindRule.fallback rows g.A.PeUnwinding.pe_attempt g.A.CompactUnwindInfoUnwinding.compact
    g.A.WayUnwinding.first_rule limits in
    ap (λ (asked : Rows). attempt_with g.A.CarriesRegisters.carrying first (cond (is_whole asked) (row_by_format limits.rows rows.vendor given.format relative) None)
    (m.attempt given relative first)) published
