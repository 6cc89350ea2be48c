-- The limits that a step's policy sets.
use Rattle.std.specs.Prelude.{ℕ, Option, Some, None}
use Rattle.dwarf_frame_rows.specs.Effects.{Limits, limits_of}

-- The limits that a policy sets: of rows and their rules, and of the values of an expression, if these have one.
pub record StepLimits : Type 0 where
  pub rows : Limits
  pub values : Option ℕ

-- a policy's limits by these two
abbrev pub step_limits : Limits → Option ℕ → StepLimits
step_limits rows values = record { rows = rows; values = values }

-- the limits of rows, which each policy sets: they have room for the rules of 192 registers, and there is room for 4 rows
abbrev pub row_limits : Limits
row_limits = limits_of (Some 192) (Some 4)

-- the limits if steps may allocate: those of rows, and room for any number of values of an expression
abbrev pub limits_may_allocate : StepLimits
limits_may_allocate = step_limits row_limits None

-- the limits if they must not: there is room for 64 values of an expression
abbrev pub limits_must_not_allocate : StepLimits
limits_must_not_allocate = step_limits row_limits (Some 64)
