-- What a run writes for a document: the lines of each step, walk and count and of the steps by each lookup, or the line of the
-- document's first fault.
use Rattle.std.specs.Prelude.{ℕ, ◌-◌, ◌/◌, ◌%◌, List, [], ◌∷◌, ◌++◌, ◌&&◌, codes, None, Result, Ok, Err, slice_get, ◌==◌, nat_le, if◌then◌else◌}
use Rattle.json_program.specs.Faults.{fault_line}
use Rattle.json_program.specs.Lines.{line}
use Rattle.json_program.specs.declared.fault.Fault.{Fault}
use Rattle.json_program.specs.declared.status.Outcome.{Outcome as RunOutcome}
use Rattle.json_program.specs.declared.status.Outcome.TheVariants.{Completed, Faulted}
use Rattle.framehop_registers.specs.Callback.{Words}
use Rattle.framehop_unwinder.specs.Attempt.{Meanings}
use Rattle.framehop_loads.specs.StepLimits.{StepLimits, limits_may_allocate, limits_must_not_allocate}
use Rattle.framehop_whole_modules.specs.StepMeanings.{whole_aarch64, whole_x86_64}
use Rattle.framehop_loads.specs.UnwindData.{UnwindData}
use Rattle.framehop_loads.specs.declared.load_options.TableArch.{TableArch}
use Rattle.framehop_loads.specs.declared.load_options.TableArch.TheVariants as tables
use Rattle.unwind_run_program.specs.Sections.{DataForms, data_stated, plain, scanning}
use Rattle.framehop_unwinder.specs.Frames.{Frame, first_frame, later_frame}
use Rattle.framehop_unwinder.specs.Judge.{judge}
use Rattle.framehop_unwinder.specs.Modules.{Loaded}
use Rattle.framehop_histories.specs.Commands.{NewUnwinder, NewCache, Clone, Load, RemoveCache, RemoveUnwinder, Unload, Step}
use Rattle.unwind_run_document.specs.declared.command.FrameKind.{FrameKind}
use Rattle.unwind_run_document.specs.declared.command.FrameKind.TheVariants.{Ip, Ra}
use Rattle.unwind_run_document.specs.declared.document.Architecture.{Architecture}
use Rattle.unwind_run_document.specs.declared.document.Architecture.TheVariants as arch
use Rattle.unwind_run_document.specs.declared.document.Policy.{Policy}
use Rattle.unwind_run_document.specs.declared.document.Policy.TheVariants.{May, Must}
use Rattle.unwind_run_document.specs.declared.registers.StatedRegisters.{StatedRegisters}
use Rattle.unwind_run_document.specs.Tasks.{StackWords, Loading, RoadSteps, Task, make_unwinder, make_cache, clone_unwinder, remove_unwinder, remove_cache, load_module, unload_module, take_step, take_walk, show_counts, show_occupancy, take_roads}
use Rattle.unwind_run_document.specs.Document.{Content, content_of}
use Rattle.unwind_run_program.specs.Lines.{outcome_line, step_line}
use Rattle.unwind_run_program.specs.Registers.{RegisterForms, forms_aarch64, forms_x86_64, whole_forms}
use Rattle.unwind_run_program.specs.Roads.{stated_section, stated_header, module_at}
use Rattle.framehop_unwinder.specs.Progress.{SessionModel}
use Rattle.unwind_run_program.specs.Outputs.{CommandOutput, beginning, writes, output_of_act, output_of_occupancy, output_of_stats, output_of_walk}

-- the words of a stack: one at each eighth byte from its start, as far as they go
abbrev pub words_of : StackWords → Words
words_of stack at =
    if nat_le stack.start at && ((at - stack.start) % 8 == 0)
    then slice_get stack.words ((at - stack.start) / 8) else None

-- an instruction pointer is the address of a first frame, a return address that of a later one
abbrev pub frame_at : FrameKind → ℕ → Frame
frame_at Ip address = first_frame address
frame_at Ra address = later_frame address

-- the limits of a policy
abbrev pub limits_of_policy : Policy → StepLimits
limits_of_policy May = limits_may_allocate
limits_of_policy Must = limits_must_not_allocate

-- the module that a command loads, with the unwind data of its sections and segments
abbrev pub loaded_by : {Data : Type 0} → DataForms Data → Loading → Loaded Data
loaded_by data_of l = record {
  name = l.name;
  start = l.start;
  end = l.end;
  base = l.base;
  unwind_data = data_of l.options l.base_svma l.sections l.segments;
}

-- the line of a step over modules, from a frame with stated registers and a stated stack
abbrev pub line_at : {Data Rule Registers : Type 0} → Meanings Data Rule Registers → RegisterForms Registers → List (Loaded Data) → Frame
    → StatedRegisters → StackWords → List ℕ
line_at m forms modules frame stated stack =
    let registers = forms.stated stated in
    outcome_line forms.text registers (judge m modules frame registers (words_of stack))

-- the line of the step by one lookup: over a module with this unwind data
abbrev pub road_line : {Data Rule Registers : Type 0} → Meanings Data Rule Registers → RegisterForms Registers → RoadSteps → Data → List ℕ
road_line m forms r given =
    line_at m forms (module_at r.tables.base_svma given ∷ []) (frame_at r.kind r.address) r.registers r.stack

-- the lines of the steps by all three: by the header, by an index of the section, and by reading the section
abbrev pub road_lines : {Data Rule Registers : Type 0} → Meanings Data Rule Registers → RegisterForms Registers → DataForms Data → RoadSteps → List ℕ
road_lines m forms data_of r =
    let base = r.tables.base_svma in
    let section = stated_section r.tables in
    codes "header " ++ road_line m forms r (data_of plain base (section ∷ stated_header r.tables ∷ []) [])
    ++ codes "index " ++ road_line m forms r (data_of plain base (section ∷ []) [])
    ++ codes "scan " ++ road_line m forms r (data_of scanning base (section ∷ []) [])

-- the output of a command, whose steps have the lines of an architecture
abbrev pub output_of : {Data Rule Registers : Type 0} → Meanings Data Rule Registers → RegisterForms Registers → DataForms Data → SessionModel Data → Task
    → CommandOutput Data
output_of m forms data_of model make_unwinder = output_of_act m (step_line forms.text) NewUnwinder model
output_of m forms data_of model (make_cache slots) = output_of_act m (step_line forms.text) (NewCache slots) model
output_of m forms data_of model (clone_unwinder unwinder) = output_of_act m (step_line forms.text) (Clone unwinder) model
output_of m forms data_of model (remove_unwinder unwinder) =
    output_of_act m (step_line forms.text) (RemoveUnwinder unwinder) model
output_of m forms data_of model (remove_cache cache) = output_of_act m (step_line forms.text) (RemoveCache cache) model
output_of m forms data_of model (load_module l) =
    output_of_act m (step_line forms.text) (Load l.unwinder (loaded_by data_of l)) model
output_of m forms data_of model (unload_module u) = output_of_act m (step_line forms.text) (Unload u.unwinder u.start) model
output_of m forms data_of model (take_step s) =
    output_of_act m (step_line forms.text)
    (Step s.unwinder s.cache (frame_at s.kind s.address) (forms.stated s.registers) (words_of s.stack)) model
output_of m forms data_of model (take_walk w) =
    output_of_walk m (words_of w.stack) w.limit w.unwinder w.cache w.pc (forms.stated w.registers) model
output_of m forms data_of model (show_counts cache) = output_of_stats cache model
output_of m forms data_of model (show_occupancy cache) = output_of_occupancy cache model
output_of m forms data_of model (take_roads r) = writes (road_lines m forms data_of r) model

-- what commands write, one after another, up to one that is refused
abbrev pub lines_of : {Data Rule Registers : Type 0} → Meanings Data Rule Registers → RegisterForms Registers → DataForms Data → SessionModel Data
    → List Task → List ℕ
lines_of m forms data_of model [] = []
lines_of m forms data_of model (task ∷ tasks) =
    (output_of m forms data_of model task).text
    ++ (if (output_of m forms data_of model task).is_refused then [] else lines_of m forms data_of (output_of m forms data_of model task).model tasks)

-- the lines of commands by what steps go by within limits, from a generation on
abbrev pub lines_under : {Rule Registers : Type 0} → (StepLimits → Meanings UnwindData Rule Registers) → RegisterForms Registers → TableArch
    → StepLimits → ℕ → List Task → List ℕ
lines_under meanings forms arch limits generation tasks = lines_of (meanings limits) forms (data_stated arch) (beginning generation) tasks

-- the lines of commands on an architecture, from a generation on
abbrev pub lines_on : Architecture → StepLimits → ℕ → List Task → List ℕ
lines_on arch.X86_64 limits generation tasks = lines_under whole_x86_64 (whole_forms forms_x86_64) tables.X86_64 limits generation tasks
lines_on arch.Aarch64 limits generation tasks = lines_under whole_aarch64 (whole_forms forms_aarch64) tables.Aarch64 limits generation tasks

-- the lines of a document's commands: its policy sets the limits, its counter begins with its generation
abbrev pub content_lines : Content → List ℕ
content_lines content = lines_on content.arch (limits_of_policy content.policy) content.generation content.tasks

-- what is written for the commands of a document, or for its fault
abbrev pub answer_to : Result Content Fault → List ℕ
answer_to (Ok content) = content_lines content
answer_to (Err fault) = line (fault_line fault)

-- what is written for the bytes of a document
abbrev pub text_of : List ℕ → List ℕ
text_of bytes = answer_to (content_of bytes)

-- how the run ends
abbrev pub ending_for : Result Content Fault → RunOutcome
ending_for (Ok content) = Completed
ending_for (Err fault) = Faulted

-- how the run of a document ends
abbrev pub ending_of : List ℕ → RunOutcome
ending_of bytes = ending_for (content_of bytes)
