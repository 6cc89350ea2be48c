-- What contracts see of a command of a document.
use Rattle.std.specs.Prelude.{Result}
use Rattle.framehop_unwinder.specs.Attempt.{Meanings}
use Rattle.framehop_unwinder.specs.State.{SessionState}
use Rattle.unwind_run_document.specs.Made.{Made}
use Rattle.unwind_run_document.specs.Sound.{IsSoundTask}
use Rattle.unwind_run_document.specs.Tasks.{Task}
use Rattle.unwind_run_program.specs.Outputs.{Outputs}
use Rattle.unwind_run_program.specs.declared.commands.Written.{Written}
use Rattle.unwind_run_program.specs.Registers.{RegisterForms}
use Rattle.unwind_run_program.specs.Sections.{DataForms}
use Rattle.unwind_run_program.specs.Text.{output_of}

-- For every model that the session was at, a call that carries out a command gives the command's output, unless it fails.
abbrev pub CarriesOut : {Data Rule Registers E : Type 0} → Meanings Data Rule Registers → RegisterForms Registers → DataForms Data → Task
    → SessionState Data Rule → SessionState Data Rule → Result Written E → Type 0
CarriesOut m forms data_of task before after result = Outputs (λ model. output_of m forms data_of model task) before after result

-- what a command names was made before it, for some number of unwinders and caches
abbrev pub IsSound : Task → Type 0
IsSound task = (made : Made) × IsSoundTask made task
