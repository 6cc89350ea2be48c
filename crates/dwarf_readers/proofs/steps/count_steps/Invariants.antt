use Rattle.dwarf_readers.proofs.steps.count_steps.Given as goal

-- the ledger is the one that the blank names
abbrev pub ghosts-count_by : goal.ghosts-count_by
ghosts-count_by g a = record { name = a.blank.name; parts = a.blank.parts }
