use Rattle.std.proofs.Common.{◌≡◌, ◌-◌, ◌≤◌, ◌<◌, ◌∙◌, ap, sym, arith}
use Rattle.framehop_compact_tables.specs.Rows.{last_row}
use Rattle.framehop_compact_tables.proofs.Halving.{last-here, last-before, last-of-none}
use Rattle.framehop_compact_tables.proofs.search.last_row.Goals as goal

pub returns-then-counted_start-address : goal.returns-then-counted_start-address
returns-then-counted_start-address g c =
    let low : g.T.Starts.start c.args.table.now (c.rows.left - 1) ≤ c.args.address = omega (arith, c.counted_start.ensures.start) in
    sym (last-here c.rows.left (c.rows.left - 1) (g.T.Starts.start c.args.table.now) c.args.address (omega arith) low) ∙ c.rows.invariant.same

pub rows-preserved : goal.rows-preserved
rows-preserved g c =
    let high : c.args.address < g.T.Starts.start c.args.table.now (c.rows.left - 1) = omega (arith, c.counted_start.ensures.start) in
    record {
      within = omega (arith, c.rows.invariant.within);
      same = sym (last-before c.rows.left (c.rows.left - 1) (g.T.Starts.start c.args.table.now) c.args.address (omega arith) high) ∙ c.rows.invariant.same;
    }

pub returns : goal.returns
returns g c =
    let done : c.rows.left ≡ 0 = omega arith in
    sym (last-of-none (g.T.Starts.start c.args.table.now) c.args.address)
    ∙ ap (λ left. last_row left (g.T.Starts.start c.args.table.now) c.args.address) (sym done)
    ∙ c.rows.invariant.same
