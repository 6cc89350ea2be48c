use Rattle.std.proofs.Common.{◌≡◌, ◌++◌, drop}
use Rattle.std.specs.List.{filter}
use Rattle.perf_processes.specs.Processes.{is_mapped_by}
use Rattle.perf_processes.proofs.lists.mappings_of.Given as goal

-- what was found, with those of the mappings that are left
abbrev pub invariant-loop-mapped : goal.invariant-loop-mapped
invariant-loop-mapped l =
    l.found.items ++ filter (is_mapped_by l.pid) (drop l.mapped-index l.all) ≡ filter (is_mapped_by l.pid) l.all
