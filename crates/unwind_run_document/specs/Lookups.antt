-- Steps by each lookup, decoded from their JSON values.
use Rattle.std.specs.Prelude.{ℕ, if◌then◌else◌, List, [], ◌∷◌, codes, Ok, Err}
use Rattle.serde_json.specs.Data.{Data}
use Rattle.json_program.specs.declared.fault.FaultName.TheVariants.{BadCommand}
use Rattle.unwind_run_document.specs.declared.command.FrameKind.{FrameKind}
use Rattle.unwind_run_document.specs.declared.document.Architecture.{Architecture}
use Rattle.unwind_run_document.specs.declared.registers.StatedRegisters.{StatedRegisters}
use Rattle.json_program.specs.Faults.{Checked, ◌⊛◌}
use Rattle.json_program.specs.Json.{address_value, bytes_value, field, has_only}
use Rattle.unwind_run_document.specs.Tasks.{StackWords, TableData, RoadSteps}
use Rattle.unwind_run_document.specs.Registers.{registers_in}
use Rattle.unwind_run_document.specs.Frames.{frame_in}
use Rattle.unwind_run_document.specs.Stacks.{stack_in}

-- the tables of these parts
abbrev pub tables_of : List ℕ → ℕ → List ℕ → ℕ → ℕ → TableData
tables_of section section_start header header_start base_svma = record {
  section = section;
  section_start = section_start;
  header = header;
  header_start = header_start;
  base_svma = base_svma;
}

-- the fields of a section and its header
abbrev pub tables_in : Data → Checked TableData
tables_in d =
    Ok tables_of ⊛ field bytes_value (codes "section") d ⊛ field address_value (codes "section_start") d
    ⊛ field bytes_value (codes "header") d ⊛ field address_value (codes "header_start") d
    ⊛ field address_value (codes "base_svma") d

-- the fields of the command `roads`
abbrev pub roads_names : List (List ℕ)
roads_names =
    codes "do" ∷ codes "section" ∷ codes "section_start" ∷ codes "header" ∷ codes "header_start" ∷ codes "base_svma"
    ∷ codes "kind" ∷ codes "address" ∷ codes "regs" ∷ codes "stack" ∷ []

-- the steps of these parts
abbrev pub road_steps_of : TableData → FrameKind × ℕ → StatedRegisters → StackWords → RoadSteps
road_steps_of tables frame regs stack = record {
  tables = tables;
  kind = frame.0;
  address = frame.1;
  registers = regs;
  stack = stack;
}

-- a value that has to be the command `roads`
abbrev pub roads_in : Architecture → Data → Checked RoadSteps
roads_in machine d =
    if has_only roads_names d
    then Ok road_steps_of ⊛ tables_in d ⊛ frame_in d ⊛ field (registers_in machine) (codes "regs") d
    ⊛ field stack_in (codes "stack") d
    else Err BadCommand
