-- Calls for steps and walks as their contracts see them.
use Rattle.framehop_unwinder.specs.Frames.{frame_of}
use Rattle.framehop_calls.specs.SampleWalks.{walk_of}
use Rattle.framehop_calls.specs.Steps.{StepCall, WalkCall}
use Rattle.framehop_calls.specs.declared.steps.SampleStepCall.{SampleStepCall}
use Rattle.framehop_calls.specs.declared.walks.SampleWalkCall.{SampleWalkCall}

-- a call for a step
abbrev pub step_call : {Registers : Type 0} → SampleStepCall Registers → StepCall Registers
step_call call = record {
  unwinder = call.unwinder;
  cache = call.cache;
  frame = frame_of call.address;
  registers = call.regs;
  return_address = call.return_address;
  word_address = call.word_address;
}

-- a call for a walk
abbrev pub viewed : {Registers : Type 0} → SampleWalkCall Registers → WalkCall Registers
viewed call = record {
  unwinder = call.unwinder;
  cache = call.cache;
  walk = walk_of call.walk;
  count = call.count;
  word_address = call.word_address;
}
