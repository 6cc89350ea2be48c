use Rattle.std.proofs.Common.{◌≡◌, drop}
use Rattle.unwind_run_document.specs.CommandViews.{sections_view}
use Rattle.unwind_run_program.specs.Sections.{stated_range_named}
use Rattle.unwind_run_program.proofs.sections.range_of.Given as goal

-- the sections that are left have the range that all have under the name
abbrev pub invariant-loop-section : goal.invariant-loop-section
invariant-loop-section l = stated_range_named l.name (sections_view (drop l.section-index l.sections)) ≡ stated_range_named l.name (sections_view l.sections)
