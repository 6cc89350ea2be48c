use Rattle.std.proofs.Common.{◌≡◌, ◌≤◌, ◌+◌, ◌-◌, sym, arith}
use Rattle.core_files.specs.FileViews.{mapping_of}
use Rattle.core_files.specs.RangeViews.{ranges_seen}
use Rattle.core_images.proofs.KnownRuns.{if-known-in-file, if-none-in-file, mapping-has}
use Rattle.core_images.proofs.mappings.run_of_file.Goals as goal

pub overflow_sub-left : goal.overflow_sub-left
overflow_sub-left c =
    let has = mapping-has (ranges_seen c.args.segments.now) c.args.mappings.now c.args.offset (mapping_of c.in-Some.mapping) (sym c.in-Some.ensures) in
    omega (arith, has.0, has.1)

pub overflow_sub-left-2 : goal.overflow_sub-left-2
overflow_sub-left-2 c = (mapping-has (ranges_seen c.args.segments.now) c.args.mappings.now c.args.offset (mapping_of c.in-Some.mapping) (sym c.in-Some.ensures)).0

pub overflow_sub-left-3 : goal.overflow_sub-left-3
overflow_sub-left-3 c =
    let has = mapping-has (ranges_seen c.args.segments.now) c.args.mappings.now c.args.offset (mapping_of c.in-Some.mapping) (sym c.in-Some.ensures) in
    omega (arith, has.0, has.1)

pub run_at-requires : goal.run_at-requires
run_at-requires c =
    let has = mapping-has (ranges_seen c.args.segments.now) c.args.mappings.now c.args.offset (mapping_of c.in-Some.mapping) (sym c.in-Some.ensures) in
    c.size_before_next.ensures.some (omega (arith, has.0, has.1))

pub returns-clause-known : goal.returns-clause-known
returns-clause-known c =
    let mapping = mapping_of c.in-Some.mapping in
    let has = mapping-has (ranges_seen c.args.segments.now) c.args.mappings.now c.args.offset mapping (sym c.in-Some.ensures) in
    let many = c.size_before_next.result in
    let within : c.args.offset + many ≤ mapping.offset + (mapping.end - mapping.start) = omega (arith, has.0, has.1, c.size_before_next.ensures.most) in
    let is : mapping.end - (mapping.end - mapping.start - (c.args.offset - mapping.offset)) ≡ mapping.start + (c.args.offset - mapping.offset) = omega (arith, has.0, has.1) in
    if-known-in-file (ranges_seen c.args.segments.now) c.args.mappings.now c.args.offset mapping (sym c.in-Some.ensures) _ is many c.run_at.result c.run_at.ensures.known c.run_at.ensures.most within c.size_before_next.ensures.none

pub returns-clause-none : goal.returns-clause-none
returns-clause-none c =
    let mapping = mapping_of c.in-Some.mapping in
    let has = mapping-has (ranges_seen c.args.segments.now) c.args.mappings.now c.args.offset mapping (sym c.in-Some.ensures) in
    let is : mapping.end - (mapping.end - mapping.start - (c.args.offset - mapping.offset)) ≡ mapping.start + (c.args.offset - mapping.offset) = omega (arith, has.0, has.1) in
    if-none-in-file (ranges_seen c.args.segments.now) c.args.mappings.now c.args.offset mapping (sym c.in-Some.ensures) _ is c.run_at.result c.run_at.ensures.none
