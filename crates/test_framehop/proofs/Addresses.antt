-- The code addresses of the frames of a walk, one after the other.
use Rattle.std.proofs.Common.{◌≡◌, ◌≢◌, ◌∙◌, ℕ, suc, List, [], ◌∷◌, ◌++◌, Bool, false, Option, Some, None, Result, Ok, Err, refl, sym, ap, append_assoc}
use Rattle.std.proofs.lemmas.List.{append-nil}
use Rattle.framehop_registers.specs.Callback.{Words}
use Rattle.framehop_registers.specs.FrameAddress.{address_of}
use Rattle.framehop_registers.specs.declared.code_address.FrameAddress.{FrameAddress}
use Rattle.framehop_registers.specs.declared.code_address.FrameAddress.TheVariants.{InstructionPointer, ReturnAddress}
use Rattle.framehop_registers.specs.declared.error.Error.{Error}
use Rattle.framehop_registers.specs.declared.error.Error.TheVariants.{CouldNotReadStack, FramepointerUnwindingMovedBackwards, DidNotAdvance, IntegerOverflow, ReturnAddressIsNull, OutOfMemory}
use Rattle.framehop_unwinder.specs.Attempt.{Meanings}
use Rattle.framehop_unwinder.specs.EndingWalks.{EndsAs, ended, ending}
use Rattle.framehop_unwinder.specs.Frames.{Frame, frame_of}
use Rattle.framehop_unwinder.specs.Judge.{judge}
use Rattle.framehop_unwinder.specs.Modules.{Loaded, Loads}
use Rattle.framehop_unwinder.specs.State.{unwinder_at}
use Rattle.framehop_unwinder.specs.Trials.{wants_memory}
use Rattle.framehop_unwinder.specs.Walk.{Judgment, Move, Walk, move}
use Rattle.framehop_unwinder.specs.WalkViews.{frame_answer}
use Rattle.test_framehop.specs.Callers.{addresses_by, addresses_from}

pub same-address : (address : FrameAddress) → address_of address ≡ (frame_of address).address
same-address (InstructionPointer at) = refl
same-address (ReturnAddress at) = refl

-- an error of a step that isn't out of memory
pub not-wanted : (error : Error) → error ≢ OutOfMemory → wants_memory {A = Option FrameAddress} (Err error) ≡ false
not-wanted (CouldNotReadStack address) other = refl
not-wanted FramepointerUnwindingMovedBackwards other = refl
not-wanted DidNotAdvance other = refl
not-wanted IntegerOverflow other = refl
not-wanted ReturnAddressIsNull other = refl
not-wanted OutOfMemory other = absurd (other refl)

-- a move that isn't out of memory, by the modules that an unwinder had before
pub moved-as : {Data Rule Registers : Type 0} (m : Meanings Data Rule Registers) (now before : List (Option (Loads (Loaded Data)))) (number number-before : ℕ) (words : Words)
    (answer : Result (Option FrameAddress) Error) (meant : Result (Option Frame) Error) (old new : Walk Registers)
    → now ≡ before → number ≡ number-before → frame_answer answer ≡ meant → wants_memory answer ≡ false
    → EndsAs (judge m (unwinder_at now number).modules) words old answer new
    → record { answer = meant; walk = new } ≡ ending (move (judge m (unwinder_at before number-before).modules) words old)
moved-as {Data} m now before number number-before words answer meant old new same of is wanted moves =
    ap (λ (a : Result (Option Frame) Error). record { answer = a; walk = new }) (sym is) ∙ moves wanted
    ∙ ap (λ (us : List (Option (Loads (Loaded Data)))). ending (move (judge m (unwinder_at us number).modules) words old)) same
    ∙ ap (λ (n : ℕ). ending (move (judge m (unwinder_at before n).modules) words old)) of

-- a walk that ends at 0 has the same addresses left
same-left : {Registers : Type 0} (answer : Result (Option Frame) Error) (walk : Walk Registers) (rest : Walk Registers → List ℕ)
    → addresses_by answer (rest (ended answer walk)) ≡ addresses_by answer (rest walk)
same-left (Ok (Some frame)) walk rest = refl
same-left (Ok None) walk rest = refl
same-left (Err error) walk rest = refl

module _ {Registers : Type 0} (judgment : Judgment Registers) (words : Words) (walk : Walk Registers) where
  -- the addresses of a walk begin with what its next move gives
  more : (left : ℕ) → addresses_from judgment words (suc left) walk
      ≡ addresses_by (move judgment words walk).answer (addresses_from judgment words left (move judgment words walk).walk)
  unfolding addresses_from
  more left = refl

  none : addresses_from judgment words 0 walk ≡ []
  unfolding addresses_from
  none = refl

module _ {Registers : Type 0} (judgment : Judgment Registers) (words : Words) (all addresses : List ℕ) (before left : ℕ) (walk : Walk Registers)
    (one-more : before ≡ suc left) (passed : addresses ++ addresses_from judgment words before walk ≡ all) where
  -- what is left, by the next move
  by-move : (made : Move Registers) → made ≡ ending (move judgment words walk)
      → addresses ++ addresses_by made.answer (addresses_from judgment words left made.walk) ≡ all
  by-move made is =
      let moved = move judgment words walk in
      ap (λ (m : Move Registers). addresses ++ addresses_by m.answer (addresses_from judgment words left m.walk)) is
      ∙ ap (λ (xs : List ℕ). addresses ++ xs) (same-left moved.answer moved.walk (addresses_from judgment words left))
      ∙ ap (λ (xs : List ℕ). addresses ++ xs) (sym (more judgment words walk left))
      ∙ ap (λ (n : ℕ). addresses ++ addresses_from judgment words n walk) (sym one-more) ∙ passed

  -- one frame more is passed
  pub goes-on : (frame : Frame) (next : Walk Registers) (more : List ℕ) → record { answer = Ok (Some frame); walk = next } ≡ ending (move judgment words walk)
      → more ≡ addresses ++ frame.address ∷ [] → more ++ addresses_from judgment words left next ≡ all
  goes-on frame next more is added =
      let rest = addresses_from judgment words left next in
      ap (λ (xs : List ℕ). xs ++ rest) added ∙ append_assoc addresses (frame.address ∷ []) rest
      ∙ by-move (record { answer = Ok (Some frame); walk = next }) is

  -- the stack ends
  pub ends : (next : Walk Registers) → record { answer = Ok None; walk = next } ≡ ending (move judgment words walk) → addresses ≡ all
  ends next is = sym (append-nil addresses) ∙ by-move (record { answer = Ok None; walk = next }) is

  -- no step is known
  pub breaks : (error : Error) (next : Walk Registers) → record { answer = Err error; walk = next } ≡ ending (move judgment words walk) → addresses ≡ all
  breaks error next is = sym (append-nil addresses) ∙ by-move (record { answer = Err error; walk = next }) is

-- there are as many as are looked for
pub gives-up : {Registers : Type 0} (judgment : Judgment Registers) (words : Words) (all addresses : List ℕ) (left : ℕ) (walk : Walk Registers)
    → left ≡ 0 → addresses ++ addresses_from judgment words left walk ≡ all → addresses ≡ all
gives-up judgment words all addresses left walk is passed =
    sym (append-nil addresses) ∙ ap (λ (xs : List ℕ). addresses ++ xs) (sym (none judgment words walk))
    ∙ ap (λ (n : ℕ). addresses ++ addresses_from judgment words n walk) (sym is) ∙ passed

-- none is passed yet
pub begins : {Registers : Type 0} (judgment : Judgment Registers) (words : Words) (most left : ℕ) (addresses : List ℕ) (walk : Walk Registers)
    → left ≡ most → addresses ≡ [] → addresses ++ addresses_from judgment words left walk ≡ addresses_from judgment words most walk
begins judgment words most left addresses walk is empty =
    ap (λ (xs : List ℕ). xs ++ addresses_from judgment words left walk) empty ∙ ap (λ (n : ℕ). addresses_from judgment words n walk) is
