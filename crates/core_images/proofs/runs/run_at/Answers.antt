use Rattle.std.proofs.Common.{◌≤◌, ◌+◌, sym, arith}
use Rattle.core_files.specs.RangeViews.{range_seen}
use Rattle.core_images.proofs.KnownRuns.{if-known-in-memory, range-has}
use Rattle.core_images.proofs.runs.run_at.Goals as goal

pub overflow_sub-address : goal.overflow_sub-address
overflow_sub-address c = (range-has c.args.segments.now c.args.address (range_seen c.in-Some.range) (sym c.in-Some.ensures)).0

pub overflow_sub-range : goal.overflow_sub-range
overflow_sub-range c =
    let has = range-has c.args.segments.now c.args.address (range_seen c.in-Some.range) (sym c.in-Some.ensures) in
    omega (arith, has.0, has.1)

pub run_in-requires-clause-begins : goal.run_in-requires-clause-begins
run_in-requires-clause-begins c = (range-has c.args.segments.now c.args.address (range_seen c.in-Some.range) (sym c.in-Some.ensures)).0

pub run_in-requires-clause-size : goal.run_in-requires-clause-size
run_in-requires-clause-size c =
    let has = range-has c.args.segments.now c.args.address (range_seen c.in-Some.range) (sym c.in-Some.ensures) in
    c.size_before_next.ensures.some (omega (arith, has.0, has.1, c.min-most.ensures, c.requires))

pub returns-clause-known : goal.returns-clause-known
returns-clause-known c =
    let range = range_seen c.in-Some.range in
    let has = range-has c.args.segments.now c.args.address range (sym c.in-Some.ensures) in
    let many = c.size_before_next.result in
    let within : c.args.address + many ≤ range.address + range.size = omega (arith, has.0, has.1, c.min-most.ensures, c.size_before_next.ensures.most) in
    if-known-in-memory c.args.segments.now c.args.address range (sym c.in-Some.ensures) many c.run_in.result c.run_in.ensures.known c.run_in.ensures.most within c.size_before_next.ensures.none
