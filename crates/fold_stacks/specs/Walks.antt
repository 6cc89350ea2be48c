-- The walks of samples.
use Rattle.std.specs.Prelude.{◌≡◌, true, Result, IfOk, Vec}
use Rattle.std.specs.Global.{Global}
use Rattle.std.specs.declared.alloc.AllocError.{AllocError}
use Rattle.framehop_loads.specs.UnwindData.{UnwindData}
use Rattle.framehop_registers.specs.declared.code_address.FrameAddress.{FrameAddress}
use Rattle.framehop_unwinder.specs.IdViews.{has_both}
use Rattle.framehop_unwinder.specs.State.{SessionState}
use Rattle.framehop_unwinder.specs.declared.ids.CacheId.{CacheId}
use Rattle.sample_stacks.specs.Modules.{ModuleRanges, module_code}
use Rattle.sample_stacks.specs.SampleFrames.{frames_in}
use Rattle.sample_stacks.specs.SampleMeanings.{SampleMeanings}
use Rattle.sample_stacks.specs.WalkViews.{frames_seen}
use Rattle.sample_stacks.specs.declared.arch.SampleStart.{SampleStart}
use Rattle.sample_stacks.specs.declared.stack_copy.StackCopy.{StackCopy}
use Rattle.sample_stacks.specs.declared.walks.WalkEnd.{WalkEnd}

-- Frames and the end of a walk are the judge's, by the modules that the session has of the process now, the words of the copy and the code
-- of the process. Without its unwinder there are none.
abbrev pub AreFrames : {Rule Registers : Type 0} → SampleMeanings Rule Registers → SessionState UnwindData Rule → CacheId → ModuleRanges → StackCopy
    → SampleStart Registers → Vec FrameAddress Global → Result WalkEnd AllocError → Type 0
AreFrames samples session cache modules copy start frames result =
    has_both session modules.unwinder cache ≡ true
    → IfOk result (λ end. frames_seen frames.items end ≡ frames_in samples session modules.unwinder copy (module_code modules) start)
