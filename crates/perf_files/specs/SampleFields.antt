-- The fields of samples, each with its bit of sample_type (Linux, include/uapi/linux/perf_event.h, enum perf_event_sample_format).
use Rattle.std.specs.Prelude.{ℕ}
use Rattle.perf_files.specs.declared.field.SampleField.{SampleField}
use Rattle.perf_files.specs.declared.field.SampleField.TheVariants.{Identifier, InstructionPointer, Thread, Time, Address, Id, StreamId, Cpu, Period, Read, CallChain, Raw, BranchStack, UserRegisters, UserStack, Weight, DataSource, Transaction, InterruptRegisters, PhysicalAddress, Cgroup, DataPageSize, CodePageSize, Aux}

-- The bit of a field.
unfoldable pub sample_bit : SampleField → ℕ
sample_bit InstructionPointer = 0x1
sample_bit Thread = 0x2
sample_bit Time = 0x4
sample_bit Address = 0x8
sample_bit Read = 0x10
sample_bit CallChain = 0x20
sample_bit Id = 0x40
sample_bit Cpu = 0x80
sample_bit Period = 0x100
sample_bit StreamId = 0x200
sample_bit Raw = 0x400
sample_bit BranchStack = 0x800
sample_bit UserRegisters = 0x1000
sample_bit UserStack = 0x2000
sample_bit Weight = 0x4000
sample_bit DataSource = 0x8000
sample_bit Identifier = 0x10000
sample_bit Transaction = 0x20000
sample_bit InterruptRegisters = 0x40000
sample_bit PhysicalAddress = 0x80000
sample_bit Aux = 0x100000
sample_bit Cgroup = 0x200000
sample_bit DataPageSize = 0x400000
sample_bit CodePageSize = 0x800000
