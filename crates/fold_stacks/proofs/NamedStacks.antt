-- The names in stacks that were found one after another.
use Rattle.std.proofs.Common.{ℕ, List, Option, Some, None}
use Rattle.std.specs.List.{AllZip}
use Rattle.fold_options.specs.declared.options.FoldOptions.{FoldOptions}
use Rattle.perf_files.specs.declared.fields.ThreadId.{ThreadId}
use Rattle.sample_stacks.specs.declared.walks.WalkEnd.{WalkEnd}
use Rattle.fold_stacks.specs.FrameNames.{HasName, KeepsLabels, LabelState, NamesFrame, NamesKernelFrame}
use Rattle.fold_stacks.specs.FrameTexts.{process_text}
use Rattle.fold_stacks.specs.Frames.{end_text}
use Rattle.fold_stacks.specs.StackNames.{NamesIf, NamesParts, kernel_frames, shown_thread}
use Rattle.fold_stacks.specs.declared.frames.UserFrame.{UserFrame}
use Rattle.fold_stacks.specs.declared.order.StackParts.{StackParts}
use Rattle.fold_stacks.proofs.LaterNames.{frames-later, kernel-frames-later}
use Rattle.fold_stacks.proofs.NamedFrames.{labels-twice}

-- names that were found in these states, each with what was known before
pub parts-named : (options : FoldOptions) (comm : List ℕ) (thread : ThreadId) (frames : List UserFrame) (chain : List ℕ) (end : WalkEnd) (parts : StackParts)
    (one two three four : LabelState) → KeepsLabels one two → KeepsLabels two three → KeepsLabels three four
    → HasName one.names parts.process (process_text comm (shown_thread options thread))
    → AllZip (NamesFrame two options.addresses) frames parts.user.now
    → AllZip (NamesKernelFrame three options.addresses) (kernel_frames options chain) parts.kernel.now
    → NamesIf four.names (end_text end) parts.end → NamesParts options four comm thread frames chain end parts
parts-named options comm thread frames chain end parts one two three four first second third process user kernel ends = record {
  process = (labels-twice one two four first (labels-twice two three four second third)).names parts.process (process_text comm (shown_thread options thread)) process;
  user = frames-later two four (labels-twice two three four second third) options.addresses frames parts.user.now user;
  kernel = kernel-frames-later three four third options.addresses (kernel_frames options chain) parts.kernel.now kernel;
  ends = ends;
}
