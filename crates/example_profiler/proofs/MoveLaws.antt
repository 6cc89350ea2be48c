-- Moves of a walk over the frames of a process, and the frames of a sample by them.
use Rattle.std.proofs.Common.{◌≡◌, ◌≢◌, ◌∙◌, ℕ, List, [], Bool, true, false, Option, Some, Result, Err, refl, sym, ap}
use Rattle.std.specs.Prelude.{◌&&◌, option_map}
use Rattle.framehop_registers.specs.Callback.{Words}
use Rattle.framehop_registers.specs.FrameAddress.{address_of}
use Rattle.framehop_registers.specs.declared.code_address.FrameAddress.{FrameAddress}
use Rattle.framehop_registers.specs.declared.code_address.FrameAddress.TheVariants.{InstructionPointer, ReturnAddress}
use Rattle.framehop_registers.specs.declared.error.Error.{Error}
use Rattle.framehop_registers.specs.declared.error.Error.TheVariants.{CouldNotReadStack, FramepointerUnwindingMovedBackwards, DidNotAdvance, IntegerOverflow, ReturnAddressIsNull, OutOfMemory}
use Rattle.framehop_unwinder.specs.Attempt.{Meanings}
use Rattle.framehop_unwinder.specs.ByNumber.{held, is_held}
use Rattle.framehop_unwinder.specs.Frames.{Frame, frame_of}
use Rattle.framehop_unwinder.specs.IdViews.{modules_by, unwinder_number}
use Rattle.framehop_unwinder.specs.Judge.{judge}
use Rattle.framehop_unwinder.specs.Modules.{Loaded, Loads}
use Rattle.framehop_unwinder.specs.State.{SessionState, unwinder_at}
use Rattle.framehop_unwinder.specs.Trials.{wants_memory}
use Rattle.framehop_unwinder.specs.Walk.{Walk, move}
use Rattle.framehop_unwinder.specs.WalkViews.{MovesAs, frame_answer}
use Rattle.framehop_unwinder.specs.declared.ids.UnwinderId.{UnwinderId}
use Rattle.example_profiler.specs.Stacks.{FrameList, frames_by_modules, frames_of}
use Rattle.example_profiler.specs.declared.process.Sample.{Sample}
use Rattle.example_profiler.proofs.Held.{if-some}

pub same-address : (address : FrameAddress) → address_of address ≡ (frame_of address).address
same-address (InstructionPointer at) = refl
same-address (ReturnAddress at) = refl

-- an error of a step that isn't out of memory
pub not-wanted : (error : Error) → error ≢ OutOfMemory → wants_memory {A = Option FrameAddress} (Err error) ≡ false
not-wanted (CouldNotReadStack address) other = refl
not-wanted FramepointerUnwindingMovedBackwards other = refl
not-wanted DidNotAdvance other = refl
not-wanted IntegerOverflow other = refl
not-wanted ReturnAddressIsNull other = refl
not-wanted OutOfMemory other = absurd (other refl)

both-left : (one other : Bool) → (one && other) ≡ true → one ≡ true
both-left true other is = refl
both-left false other is = is

-- a process that a call found was followed before
pub was-followed : {Data : Type 0} (now before : List (Option (Loads (Loaded Data)))) (number : ℕ) (has-cache : Bool)
    → now ≡ before → (is_held now number && has-cache) ≡ true → is_held before number ≡ true
was-followed {Data} now before number has-cache same there =
    sym (ap (λ (us : List (Option (Loads (Loaded Data)))). is_held us number) same) ∙ both-left (is_held now number) has-cache there

-- a move that isn't out of memory, by the modules that a process had before
pub moved-as : {Data Rule Registers : Type 0} (m : Meanings Data Rule Registers) (now before : List (Option (Loads (Loaded Data)))) (number : ℕ) (words : Words)
    (answer : Result (Option FrameAddress) Error) (meant : Result (Option Frame) Error) (old new : Walk Registers)
    → now ≡ before → frame_answer answer ≡ meant → wants_memory answer ≡ false → MovesAs (judge m (unwinder_at now number).modules) words old answer new
    → record { answer = meant; walk = new } ≡ move (judge m (unwinder_at before number).modules) words old
moved-as {Data} m now before number words answer meant old new same is wanted moves =
    ap (λ (a : Result (Option Frame) Error). record { answer = a; walk = new }) (sym is) ∙ moves wanted
    ∙ ap (λ (us : List (Option (Loads (Loaded Data)))). move (judge m (unwinder_at us number).modules) words old) same

-- the frames of a sample in a process that is followed
pub frames-are : {Data Rule Registers : Type 0} (m : Meanings Data Rule Registers) (session : SessionState Data Rule) (process : UnwinderId) (sample : Sample)
    (registers : Registers) (frames : FrameList) → is_held session.unwinders (unwinder_number process) ≡ true
    → frames ≡ frames_by_modules m sample registers (modules_by session process) → Some frames ≡ frames_of m session process sample registers
frames-are {Data} m session process sample registers frames there is =
    ap (λ (f : FrameList). Some f) is
    ∙ ap (option_map (frames_by_modules m sample registers))
    (sym (if-some (λ (loads : Loads (Loaded Data)). loads.modules) (held session.unwinders (unwinder_number process)) (record { modules = []; generation = 0 }) there))
