use Rattle.std.proofs.Common.{◌-◌, arith, sym}
use Rattle.perf_processes.specs.Changes.{contains}
use Rattle.perf_processes.specs.Processes.{mapping_at}
use Rattle.perf_processes.proofs.Filters.{passing-before, none-passing}
use Rattle.perf_processes.proofs.lists.mapping_at.Goals as goal

pub returns-then-contains : goal.returns-then-contains
unfolding mapping_at
returns-then-contains c =
    let known = c.mappings.invariant in
    sym (passing-before (contains c.args.pid c.args.address) c.args.all.now c.mappings.left (c.mappings.left - 1) _ (omega arith) known.within known.passed (sym c.if-contains.ensures))

pub returns : goal.returns
unfolding mapping_at
returns c = sym (none-passing (contains c.args.pid c.args.address) c.args.all.now c.mappings.left (omega arith) c.mappings.invariant.passed)
