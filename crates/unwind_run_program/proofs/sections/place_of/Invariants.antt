use Rattle.std.proofs.Common.{◌≡◌, drop}
use Rattle.unwind_run_document.specs.CommandViews.{sections_view}
use Rattle.unwind_run_program.specs.Sections.{first_data_named}
use Rattle.unwind_run_program.proofs.sections.place_of.Given as goal

-- the sections that are left have the data that all have under the name
abbrev pub invariant-loop-i : goal.invariant-loop-i
invariant-loop-i l = first_data_named l.name (sections_view (drop l.i l.sections)) ≡ first_data_named l.name (sections_view l.sections)
