-- The exit status of a run over several files.
use Rattle.std.specs.Prelude.{ℕ, ◌&&◌, Bool, nat_lt, if◌then◌else◌, Option, Some, None}

-- the status of the files before one, and whether this one has findings, or can't be read: 0 if nothing is found, 2 if a file can't be
-- read, and else 1
abbrev pub status_with : (before : ℕ) → (found : Option Bool) → ℕ
status_with before (Some found) = if found && nat_lt before 1 then 1 else before
status_with before None = 2
