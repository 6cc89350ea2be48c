use Rattle.std.proofs.Common.{◌≡◌, ◌++◌, drop, map}
use Rattle.std.specs.List.{filter}
use Rattle.perf_processes.specs.Processes.{copied_to, is_mapped_by}
use Rattle.perf_processes.proofs.lists.copies_of.Given as goal

-- the copies, with those of the mappings that are left
abbrev pub invariant-loop-mapped : goal.invariant-loop-mapped
invariant-loop-mapped l =
    l.copies.items ++ map (copied_to l.pid) (filter (is_mapped_by l.parent) (drop l.mapped-index l.all))
    ≡ map (copied_to l.pid) (filter (is_mapped_by l.parent) l.all)
