-- The names in the stack of a sample.
use Rattle.std.specs.Prelude.{◌≡◌, ℕ, if◌then◌else◌, List, [], Option, Some, None}
use Rattle.std.specs.List.{AllZip}
use Rattle.fold_options.specs.declared.options.FoldOptions.{FoldOptions}
use Rattle.perf_files.specs.declared.fields.ThreadId.{ThreadId}
use Rattle.sample_stacks.specs.KernelFrames.{kernel_addresses}
use Rattle.sample_stacks.specs.declared.walks.WalkEnd.{WalkEnd}
use Rattle.fold_stacks.specs.FrameNames.{HasName, LabelState, NamesFrame, NamesKernelFrame}
use Rattle.fold_stacks.specs.FrameTexts.{process_text}
use Rattle.fold_stacks.specs.Frames.{end_text}
use Rattle.fold_stacks.specs.Stacks.{stack_numbers}
use Rattle.fold_stacks.specs.declared.frames.UserFrame.{UserFrame}
use Rattle.fold_stacks.specs.declared.order.StackParts.{StackParts}

-- the thread that a stack begins with, if each has stacks of its own
abbrev pub shown_thread : FoldOptions → ThreadId → Option ThreadId
shown_thread options thread = if options.per_thread then Some thread else None

-- the addresses of a sample's frames of the kernel, by its call chain, if they are asked for
abbrev pub kernel_frames : FoldOptions → List ℕ → List ℕ
kernel_frames options chain = if options.no_kernel then [] else kernel_addresses chain

-- A number is that of a name, if there is one.
abbrev pub NamesIf : List (List ℕ) → Option (List ℕ) → Option ℕ → Type 0
NamesIf names None None = Unit {0}
NamesIf names None (Some number) = ⊥
NamesIf names (Some text) None = ⊥
NamesIf names (Some text) (Some number) = HasName names number text

-- Numbers are those of the names of the frames of the kernel in a call chain.
abbrev pub NamesKernelFrames : FoldOptions → LabelState → List ℕ → List ℕ → Type 0
NamesKernelFrames options state chain numbers = AllZip (NamesKernelFrame state options.addresses) (kernel_frames options chain) numbers

-- The parts of a stack have the names of a thread that is called so, of frames of user code, of those of the kernel in a call chain, and of how
-- the walk ended.
pub record NamesParts (options : FoldOptions) (state : LabelState) (comm : List ℕ) (thread : ThreadId) (frames : List UserFrame) (chain : List ℕ)
    (end : WalkEnd) (parts : StackParts) : Type 0 where
  pub process : HasName state.names parts.process (process_text comm (shown_thread options thread))
  pub user : AllZip (NamesFrame state options.addresses) frames parts.user.now
  pub kernel : NamesKernelFrames options state chain parts.kernel.now
  pub ends : NamesIf state.names (end_text end) parts.end

-- A stack has these names in their order, of the frames of some walk.
abbrev pub IsStackOf : FoldOptions → LabelState → List ℕ → ThreadId → List ℕ → List ℕ → Type 0
IsStackOf options state comm thread chain stack =
    (frames : List UserFrame) × (end : WalkEnd) × (parts : StackParts) × NamesParts options state comm thread frames chain end parts
    × (stack ≡ stack_numbers parts options.inverted)
