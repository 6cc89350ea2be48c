-- Decoded commands as the values that definitions are about.
use Rattle.std.specs.Prelude.{List, map, option_map, string_bytes}
use Rattle.unwind_run_document.specs.declared.command.Command.{Command}
use Rattle.unwind_run_document.specs.declared.command.Command.TheVariants as commands
use Rattle.unwind_run_document.specs.declared.command.LoadCommand.{LoadCommand}
use Rattle.unwind_run_document.specs.declared.command.RoadsCommand.{RoadsCommand}
use Rattle.unwind_run_document.specs.declared.command.StatedSection.{StatedSection as Section}
use Rattle.unwind_run_document.specs.declared.command.Stack.{Stack}
use Rattle.unwind_run_document.specs.declared.command.StepCommand.{StepCommand}
use Rattle.unwind_run_document.specs.declared.command.StatedTables.{StatedTables}
use Rattle.unwind_run_document.specs.declared.command.UnloadCommand.{UnloadCommand}
use Rattle.unwind_run_document.specs.declared.command.WalkCommand.{WalkCommand}
use Rattle.unwind_run_document.specs.declared.document.Document.{Document}
use Rattle.unwind_run_document.specs.declared.made.Made as memory
use Rattle.unwind_run_document.specs.Document.{Content}
use Rattle.unwind_run_document.specs.Made.{Made}
use Rattle.unwind_run_document.specs.Tasks.{StatedSection, Loading, Unloading, StackWords, Stepping, Walking, TableData, RoadSteps, Task, make_unwinder, make_cache, clone_unwinder, remove_unwinder, remove_cache, load_module, unload_module, take_step, take_walk, show_counts, show_occupancy, take_roads}

-- a section
abbrev pub section_view : Section → StatedSection
section_view s = record { name = string_bytes s.name; range = s.range; bytes = option_map (λ b. b.items) s.bytes }

-- sections
abbrev pub sections_view : List Section → List StatedSection
sections_view ss = map section_view ss

-- a load
abbrev pub load_view : LoadCommand → Loading
load_view l = record {
  unwinder = l.unwinder;
  name = string_bytes l.name;
  start = l.start;
  end = l.end;
  base = l.base;
  base_svma = l.base_svma;
  sections = sections_view l.sections.items;
  segments = sections_view l.segments.items;
  options = l.options;
}

-- a stack
abbrev pub words_view : Stack → StackWords
words_view s = record { start = s.start; words = s.words.items }

-- a step
abbrev pub step_view : StepCommand → Stepping
step_view s = record {
  unwinder = s.unwinder;
  cache = s.cache;
  kind = s.kind;
  address = s.address;
  registers = s.registers;
  stack = words_view s.stack;
}

-- a walk
abbrev pub walk_view : WalkCommand → Walking
walk_view w = record {
  unwinder = w.unwinder;
  cache = w.cache;
  pc = w.pc;
  limit = w.limit;
  registers = w.registers;
  stack = words_view w.stack;
}

-- a section and its header
abbrev pub tables_view : StatedTables → TableData
tables_view t = record {
  section = t.section.items;
  section_start = t.section_start;
  header = t.header.items;
  header_start = t.header_start;
  base_svma = t.base_svma;
}

-- the steps by each lookup
abbrev pub roads_view : RoadsCommand → RoadSteps
roads_view r = record {
  tables = tables_view r.tables;
  kind = r.kind;
  address = r.address;
  registers = r.registers;
  stack = words_view r.stack;
}

-- an unload
abbrev pub unload_view : UnloadCommand → Unloading
unload_view u = record { unwinder = u.unwinder; start = u.start }

-- a command
abbrev pub task_of : Command → Task
task_of commands.Unwinder = make_unwinder
task_of (commands.Cache slots) = make_cache slots
task_of (commands.Clone u) = clone_unwinder u
task_of (commands.RemoveUnwinder u) = remove_unwinder u
task_of (commands.RemoveCache c) = remove_cache c
task_of (commands.Load l) = load_module (load_view l)
task_of (commands.Unload u) = unload_module (unload_view u)
task_of (commands.Step s) = take_step (step_view s)
task_of (commands.Walk w) = take_walk (walk_view w)
task_of (commands.Stats c) = show_counts c
task_of (commands.Occupancy c) = show_occupancy c
task_of (commands.Roads r) = take_roads (roads_view r)

-- commands
abbrev pub tasks_of : List Command → List Task
tasks_of cs = map task_of cs

-- a document
abbrev pub content_view : Document → Content
content_view d = record { arch = d.arch; policy = d.policy; generation = d.generation; tasks = tasks_of d.commands.items }

-- what earlier commands made
abbrev pub made_view : memory.Made → Made
made_view m = record { unwinders = m.unwinders; caches = m.caches }
