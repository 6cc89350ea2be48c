-- A module as contracts see it.
use Rattle.std.specs.String.{string_bytes}
use Rattle.framehop_unwinder.specs.Modules.{Loaded}
use Rattle.framehop_unwinder.specs.declared.module.ModuleInner.{ModuleInner}

-- what contracts see of a module's parts
abbrev pub loaded : {Data : Type 0} → ModuleInner Data → Loaded Data
loaded inner = record {
  name = string_bytes inner.name;
  start = inner.avma_range.start;
  end = inner.avma_range.end;
  base = inner.base_avma;
  unwind_data = inner.unwind_data;
}
