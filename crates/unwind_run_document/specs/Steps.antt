-- Steps and walks, decoded from their JSON values.
use Rattle.std.specs.Prelude.{ℕ, ◌&&◌, nat_le, if◌then◌else◌, List, [], ◌∷◌, codes, Ok, Err}
use Rattle.serde_json.specs.Data.{Data}
use Rattle.json_program.specs.declared.fault.FaultName.TheVariants.{BadCommand, BadNumber}
use Rattle.unwind_run_document.specs.declared.command.FrameKind.{FrameKind}
use Rattle.unwind_run_document.specs.declared.document.Architecture.{Architecture}
use Rattle.unwind_run_document.specs.declared.registers.StatedRegisters.{StatedRegisters}
use Rattle.unwind_run_document.specs.declared.document.TheConstants.{WALK_LIMIT}
use Rattle.json_program.specs.Faults.{Checked, ◌⊛◌, ◌>>=◌}
use Rattle.json_program.specs.Json.{address_value, number_value, field, has_only}
use Rattle.unwind_run_document.specs.Tasks.{StackWords, Stepping, Walking}
use Rattle.unwind_run_document.specs.Made.{Made, made_number}
use Rattle.unwind_run_document.specs.Registers.{registers_in}
use Rattle.unwind_run_document.specs.Frames.{frame_in}
use Rattle.unwind_run_document.specs.Stacks.{stack_in}

-- the fields of a step
abbrev pub step_names : List (List ℕ)
step_names = codes "do" ∷ codes "unwinder" ∷ codes "cache" ∷ codes "kind" ∷ codes "address" ∷ codes "regs" ∷ codes "stack" ∷ []

-- the step of these parts
abbrev pub stepping_of : ℕ → ℕ → FrameKind × ℕ → StatedRegisters → StackWords → Stepping
stepping_of unwinder cache frame regs stack = record {
  unwinder = unwinder;
  cache = cache;
  kind = frame.0;
  address = frame.1;
  registers = regs;
  stack = stack;
}

-- a value that has to be a step
abbrev pub step_in : Architecture → Made → Data → Checked Stepping
step_in machine made d =
    if has_only step_names d
    then Ok stepping_of ⊛ made_number made.unwinders (codes "unwinder") d ⊛ made_number made.caches (codes "cache") d
    ⊛ frame_in d ⊛ field (registers_in machine) (codes "regs") d ⊛ field stack_in (codes "stack") d
    else Err BadCommand

-- a value that has to be the most frames of a walk, from 1 to 65,536
abbrev pub limit_value : Data → Checked ℕ
limit_value d = do
  limit ← number_value d
  if nat_le 1 limit && nat_le limit WALK_LIMIT then Ok limit else Err BadNumber

-- the fields of a walk
abbrev pub walk_names : List (List ℕ)
walk_names =
    codes "do" ∷ codes "unwinder" ∷ codes "cache" ∷ codes "pc" ∷ codes "limit" ∷ codes "regs" ∷ codes "stack" ∷ []

-- the walk of these parts
abbrev pub walking_of : ℕ → ℕ → ℕ → ℕ → StatedRegisters → StackWords → Walking
walking_of unwinder cache pc limit regs stack = record {
  unwinder = unwinder;
  cache = cache;
  pc = pc;
  limit = limit;
  registers = regs;
  stack = stack;
}

-- a value that has to be a walk
abbrev pub walk_in : Architecture → Made → Data → Checked Walking
walk_in machine made d =
    if has_only walk_names d
    then Ok walking_of ⊛ made_number made.unwinders (codes "unwinder") d ⊛ made_number made.caches (codes "cache") d
    ⊛ field address_value (codes "pc") d ⊛ field limit_value (codes "limit") d
    ⊛ field (registers_in machine) (codes "regs") d ⊛ field stack_in (codes "stack") d
    else Err BadCommand
