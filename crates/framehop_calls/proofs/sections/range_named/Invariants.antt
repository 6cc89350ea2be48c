use Rattle.std.proofs.Common.{◌≡◌, drop}
use Rattle.framehop_calls.specs.Sections.{range_named}
use Rattle.framehop_calls.proofs.sections.range_named.Given as goal

-- the sections that are left have the range that all have under the name
abbrev pub invariant-loop-section : goal.invariant-loop-section
invariant-loop-section l = range_named l.name l.kind (drop l.section-index l.sections) ≡ range_named l.name l.kind l.sections
