-- What holds of the commands of a decoded document: each names what was made before it.
use Rattle.std.specs.Prelude.{◌≡◌, ◌≢◌, ◌<◌, ◌+◌, ◌-◌, ◌*◌, ◌^◌, List, [], ◌∷◌, length}
use Rattle.unwind_run_document.specs.declared.command.FrameKind.TheVariants.{Ra}
use Rattle.unwind_run_document.specs.Tasks.{Stepping, Walking, RoadSteps, Task, make_unwinder, make_cache, clone_unwinder, remove_unwinder, remove_cache, load_module, unload_module, take_step, take_walk, show_counts, show_occupancy, take_roads}
use Rattle.unwind_run_document.specs.Made.{Made, made_after}

-- what a step names was made before it, no return address is 0, and the last word of the stack has an address
pub record IsSoundStep (made : Made) (step : Stepping) : Type 0 where
  pub unwinder : step.unwinder < made.unwinders
  pub cache : step.cache < made.caches
  pub address : step.kind ≡ Ra → step.address ≢ 0
  pub words : step.stack.start + 8 * (length step.stack.words - 1) < 2 ^ 64

-- what a walk names was made before it, and the last word of the stack has an address
pub record IsSoundWalk (made : Made) (walk : Walking) : Type 0 where
  pub unwinder : walk.unwinder < made.unwinders
  pub cache : walk.cache < made.caches
  pub words : walk.stack.start + 8 * (length walk.stack.words - 1) < 2 ^ 64

-- no return address is 0, and the last word of the stack has an address
pub record AreSoundRoads (roads : RoadSteps) : Type 0 where
  pub address : roads.kind ≡ Ra → roads.address ≢ 0
  pub words : roads.stack.start + 8 * (length roads.stack.words - 1) < 2 ^ 64

-- what a command names was made before it
abbrev pub IsSoundTask : Made → Task → Type 0
IsSoundTask made make_unwinder = Unit {0}
IsSoundTask made (make_cache slots) = Unit {0}
IsSoundTask made (clone_unwinder unwinder) = unwinder < made.unwinders
IsSoundTask made (remove_unwinder unwinder) = unwinder < made.unwinders
IsSoundTask made (remove_cache cache) = cache < made.caches
IsSoundTask made (load_module load) = load.unwinder < made.unwinders
IsSoundTask made (unload_module unload) = unload.unwinder < made.unwinders
IsSoundTask made (take_step step) = IsSoundStep made step
IsSoundTask made (take_walk walk) = IsSoundWalk made walk
IsSoundTask made (show_counts cache) = cache < made.caches
IsSoundTask made (show_occupancy cache) = cache < made.caches
IsSoundTask made (take_roads roads) = AreSoundRoads roads

-- each of the commands, one after the other
abbrev pub AreSound : Made → List Task → Type 0
AreSound made [] = Unit {0}
AreSound made (task ∷ tasks) = IsSoundTask made task × AreSound (made_after made task) tasks
