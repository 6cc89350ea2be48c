-- Samples (Linux, include/uapi/linux/perf_event.h, PERF_RECORD_SAMPLE; kernel/events/core.c, perf_output_sample).
use Rattle.std.specs.Prelude.{ℕ, ◌+◌, ◌*◌, ◌/◌, ◌%◌, ◌==◌, nat_lt, if◌then◌else◌, List, [], length, take}
use Rattle.perf_files.specs.declared.attributes.Attributes.{Attributes}
use Rattle.perf_files.specs.declared.error.FieldError.TheVariants.{StackTooLarge}
use Rattle.perf_files.specs.declared.field.Field.TheVariants.{Sample}
use Rattle.perf_files.specs.declared.field.SampleField.{SampleField}
use Rattle.perf_files.specs.declared.field.SampleField.TheVariants.{Read, CallChain, Raw, BranchStack, UserRegisters, UserStack, Weight, DataSource, Transaction, InterruptRegisters, PhysicalAddress, Cgroup, DataPageSize, CodePageSize, Aux}
use Rattle.perf_files.specs.declared.registers.SavedRegisters.{SavedRegisters}
use Rattle.perf_files.specs.declared.sample_head.SampleHead.{SampleHead}
use Rattle.perf_files.specs.Attributes.{has_field, has_weight}
use Rattle.perf_files.specs.Bytes.{has_bit}
use Rattle.perf_files.specs.FieldResults.{FieldResult}
use Rattle.perf_files.specs.Fields.{Take, ◌>>=◌, given, refused, taken_if, read_of, bytes_field, number_field}
use Rattle.perf_files.specs.Registers.{no_registers, registers_field}
use Rattle.perf_files.specs.SampleHeads.{head_of, sample_word}
use Rattle.perf_files.specs.Words.{words_in}

-- A sample: its first fields, the call chain, the registers of user code, and the bytes of the user's stack that were copied.
pub record SampleParts : Type 0 where
  pub head : SampleHead
  pub call_chain : List ℕ
  pub user_registers : SavedRegisters
  pub user_stack : List ℕ

-- Bytes that are passed over.
abbrev pub skipped : ℕ → SampleField → Take (Unit {0})
skipped size field = bytes_field size (Sample field) >>= (λ bytes. given tt)

-- ---- PERF_SAMPLE_READ: struct read_format

-- The times that are read: PERF_FORMAT_TOTAL_TIME_ENABLED and PERF_FORMAT_TOTAL_TIME_RUNNING.
abbrev pub time_words : ℕ → ℕ
time_words format = format / 1 % 2 + format / 2 % 2

-- The words of a counter: its value, PERF_FORMAT_ID and PERF_FORMAT_LOST.
abbrev pub entry_words : ℕ → ℕ
entry_words format = 1 + format / 4 % 2 + format / 16 % 2

-- The counters of a group.
unfoldable pub read_group : ℕ → Take (Unit {0})
read_group format = do
  count ← number_field 8 (Sample Read)
  times ← bytes_field (8 * time_words format) (Sample Read)
  values ← bytes_field (8 * entry_words format * count) (Sample Read)
  given tt

-- The values of a counter, or of a group (PERF_FORMAT_GROUP).
unfoldable pub read_values : Attributes → Take (Unit {0})
read_values attributes =
    let format = attributes.read_format in
    taken_if (has_field attributes Read) tt (
    if has_bit format 8 then read_group format else skipped (8 * (time_words format + entry_words format)) Read)

-- ---- the call chain, raw data, branches

-- The bytes of the call chain's words.
unfoldable pub chain_of : Attributes → Take (List ℕ)
chain_of attributes =
    taken_if (has_field attributes CallChain) [] (number_field 8 (Sample CallChain) >>= (λ count. bytes_field (8 * count) (Sample CallChain)))

-- Raw data, with 32 bits for their size.
unfoldable pub raw_of : Attributes → Take (Unit {0})
raw_of attributes = taken_if (has_field attributes Raw) tt (number_field 4 (Sample Raw) >>= (λ size. skipped size Raw))

-- Branches: their number, an index (PERF_SAMPLE_BRANCH_HW_INDEX), 24 bytes for each, and counters (PERF_SAMPLE_BRANCH_COUNTERS).
abbrev pub branches_field : ℕ → Take (Unit {0})
branches_field kind = do
  count ← number_field 8 (Sample BranchStack)
  index ← bytes_field (8 * (kind / 0x20000 % 2)) (Sample BranchStack)
  branches ← bytes_field (24 * count) (Sample BranchStack)
  counters ← bytes_field (8 * (kind / 0x80000 % 2) * count) (Sample BranchStack)
  given tt

-- The branch stack.
unfoldable pub branches_of : Attributes → Take (Unit {0})
branches_of attributes = taken_if (has_field attributes BranchStack) tt (branches_field attributes.branch_sample_type)

-- ---- registers and stack

-- Registers, if samples have them.
unfoldable pub sample_registers : Attributes → SampleField → ℕ → Take SavedRegisters
sample_registers attributes field mask = taken_if (has_field attributes field) (no_registers mask) (registers_field mask (Sample field))

-- The bytes of a stack: how many there is room for, and, if there is room, how many were copied (dyn_size).
unfoldable pub stack_field : Take (List ℕ)
stack_field =
    number_field 8 (Sample UserStack) >>= (λ size.
    bytes_field size (Sample UserStack) >>= (λ room.
    if size == 0 then given room else
    number_field 8 (Sample UserStack) >>= (λ copied.
    if nat_lt (length room) copied then refused StackTooLarge else given (take copied room))))

-- The bytes of the user's stack.
unfoldable pub stack_of : Attributes → Take (List ℕ)
stack_of attributes = taken_if (has_field attributes UserStack) [] stack_field

-- ---- the fields after the stack, which are passed over

-- The weight.
unfoldable pub weight_of : Attributes → Take (Unit {0})
weight_of attributes = taken_if (has_weight attributes) tt (number_field 8 (Sample Weight) >>= (λ weight. given tt))

-- Fields of one word.
unfoldable pub other_words : Attributes → Take (Unit {0})
other_words attributes = do
  physical ← sample_word attributes PhysicalAddress
  cgroup ← sample_word attributes Cgroup
  data_page ← sample_word attributes DataPageSize
  code_page ← sample_word attributes CodePageSize
  given tt

-- Data of a trace, with their size.
unfoldable pub aux_of : Attributes → Take (Unit {0})
aux_of attributes = taken_if (has_field attributes Aux) tt (number_field 8 (Sample Aux) >>= (λ size. skipped size Aux))

-- All fields after the stack.
unfoldable pub others_of : Attributes → Take (Unit {0})
others_of attributes = do
  weight ← weight_of attributes
  source ← sample_word attributes DataSource
  transaction ← sample_word attributes Transaction
  registers ← sample_registers attributes InterruptRegisters attributes.interrupt_registers
  words ← other_words attributes
  aux_of attributes

-- ---- the sample

-- All fields of a sample.
unfoldable pub sample_fields : Attributes → Take SampleParts
sample_fields attributes = do
  head ← head_of attributes
  counters ← read_values attributes
  chain ← chain_of attributes
  raw ← raw_of attributes
  branches ← branches_of attributes
  registers ← sample_registers attributes UserRegisters attributes.user_registers
  stack ← stack_of attributes
  others ← others_of attributes
  given (record { head = head; call_chain = words_in chain; user_registers = registers; user_stack = stack })

-- The sample in a payload. What follows its last field is padding.
unfoldable pub sample_in : Attributes → List ℕ → FieldResult SampleParts
sample_in attributes payload = read_of (sample_fields attributes) payload
