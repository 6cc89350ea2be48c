-- The commands of a document, as they are decoded.
use Rattle.std.specs.Prelude.{ℕ, List, Option}
use Rattle.unwind_run_document.specs.declared.command.FrameKind.{FrameKind}
use Rattle.unwind_run_document.specs.declared.command.AddressRange.{AddressRange}
use Rattle.unwind_run_document.specs.declared.command.StatedOptions.{StatedOptions}
use Rattle.unwind_run_document.specs.declared.registers.StatedRegisters.{StatedRegisters}

-- a section or a segment of a module: its name, its range as the file states it, and its bytes
pub record StatedSection : Type 0 where
  pub name : List ℕ
  pub range : Option AddressRange
  pub bytes : Option (List ℕ)

-- a module for an unwinder: its range in memory, its base there and in the file, its sections and its segments, and what is asked for beside
-- these
pub record Loading : Type 0 where
  pub unwinder : ℕ
  pub name : List ℕ
  pub start : ℕ
  pub end : ℕ
  pub base : ℕ
  pub base_svma : ℕ
  pub sections : List StatedSection
  pub segments : List StatedSection
  pub options : StatedOptions

-- the words of a stack, eight bytes each, from an address on
pub record StackWords : Type 0 where
  pub start : ℕ
  pub words : List ℕ

-- one step of an unwinder with a cache: the frame's address and how it is meant, the registers and the stack
pub record Stepping : Type 0 where
  pub unwinder : ℕ
  pub cache : ℕ
  pub kind : FrameKind
  pub address : ℕ
  pub registers : StatedRegisters
  pub stack : StackWords

-- a walk over the frames of an unwinder with a cache: the instruction pointer, the most frames that it gives, the registers
-- and the stack
pub record Walking : Type 0 where
  pub unwinder : ℕ
  pub cache : ℕ
  pub pc : ℕ
  pub limit : ℕ
  pub registers : StatedRegisters
  pub stack : StackWords

-- the module of an unwinder that is unloaded, by its start
pub record Unloading : Type 0 where
  pub unwinder : ℕ
  pub start : ℕ

-- a section of call frames and a header of it, each with its stated start, and the base that stated addresses are relative to
pub record TableData : Type 0 where
  pub section : List ℕ
  pub section_start : ℕ
  pub header : List ℕ
  pub header_start : ℕ
  pub base_svma : ℕ

-- a step by each of the three lookups of the entry for an address: over a module that has these tables, or the section alone
pub record RoadSteps : Type 0 where
  pub tables : TableData
  pub kind : FrameKind
  pub address : ℕ
  pub registers : StatedRegisters
  pub stack : StackWords

-- a command
pub data Task : Type 0 where
  make_unwinder : Task
  make_cache : (slots : ℕ) → Task
  clone_unwinder : ℕ → Task
  remove_unwinder : ℕ → Task
  remove_cache : ℕ → Task
  load_module : Loading → Task
  unload_module : Unloading → Task
  take_step : Stepping → Task
  take_walk : Walking → Task
  show_counts : ℕ → Task
  show_occupancy : ℕ → Task
  take_roads : RoadSteps → Task
