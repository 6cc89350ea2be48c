-- What contracts see of a sample.
use Rattle.perf_files.specs.declared.sample.Sample.{Sample}
use Rattle.perf_files.specs.Samples.{SampleParts}

-- Its fields.
abbrev pub sample_seen : Sample → SampleParts
sample_seen sample =
    record { head = sample.head; call_chain = sample.call_chain; user_registers = sample.user_registers; user_stack = sample.user_stack.now }
