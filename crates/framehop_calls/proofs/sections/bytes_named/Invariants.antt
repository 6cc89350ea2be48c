use Rattle.std.proofs.Common.{◌≡◌, drop}
use Rattle.framehop_calls.specs.Sections.{bytes_named}
use Rattle.framehop_calls.proofs.sections.bytes_named.Given as goal

-- the sections that are left have the bytes that all have under the name
abbrev pub invariant-loop-section : goal.invariant-loop-section
invariant-loop-section l = bytes_named l.name l.kind (drop l.section-index l.sections) ≡ bytes_named l.name l.kind l.sections
