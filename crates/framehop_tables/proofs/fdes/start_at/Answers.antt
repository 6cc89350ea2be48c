use Rattle.std.proofs.Common.{ℕ, ◌∙◌, sym, ap}
use Rattle.std.specs.Prelude.{min}
use Rattle.framehop_tables.proofs.IndexLaws.{start-some, start-none}
use Rattle.framehop_tables.proofs.fdes.start_at.Goals as goal

pub returns-in-Some-clause-start : goal.returns-in-Some-clause-start
returns-in-Some-clause-start c =
    c.min.ensures ∙ ap (λ (n : ℕ). min n c.args.end) c.from.ensures
    ∙ sym (start-some c.args.end c.args.fdes.now c.args.place c.in-Some.fde.now c.in-Some.ensures.lookup.0 c.in-Some.ensures.lookup.1)

pub returns-in-None-clause-start : goal.returns-in-None-clause-start
returns-in-None-clause-start c = sym (start-none c.args.end c.args.fdes.now c.args.place c.in-None.ensures.lookup.0)
