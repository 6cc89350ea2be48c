-- Moves of a walk over a sample, by the steps that they make.
use Rattle.std.proofs.Common.{◌≡◌, ℕ, zero, suc, ◌==◌, Bool, true, false, if◌then◌else◌, Option, Some, None, Result, Ok, Err, ap, sym, subst, refl, eqb-true}
use Rattle.std.proofs.lemmas.Bool.{eq-eqb}
use Rattle.framehop_registers.specs.Callback.{Words}
use Rattle.framehop_registers.specs.declared.code_address.FrameAddress.{FrameAddress}
use Rattle.framehop_registers.specs.declared.code_address.FrameAddress.TheVariants.{InstructionPointer}
use Rattle.framehop_registers.specs.declared.error.Error.{Error}
use Rattle.framehop_registers.specs.declared.error.Error.TheVariants.{CouldNotReadStack, FramepointerUnwindingMovedBackwards, DidNotAdvance, IntegerOverflow, ReturnAddressIsNull, OutOfMemory}
use Rattle.framehop_rules.specs.Outcome.{Outcome, Caller, Ends, Refuses, Answers, IsStep, answer_of_outcome}
use Rattle.framehop_unwinder.specs.Frames.{Frame, first_frame, frame_of, later_frame}
use Rattle.framehop_unwinder.specs.State.{SessionState, StepsThrough}
use Rattle.framehop_unwinder.specs.Trials.{wants_memory}
use Rattle.framehop_unwinder.specs.Walk.{Judgment, At, Over, Walk, move, move_by, move_to}
use Rattle.framehop_calls.specs.SampleSteps.{CountsAsStep, IsAnswered, TakesNoMemory}
use Rattle.framehop_calls.specs.SampleWalks.{CountsAsMove, Gives, GoesBy, GoesOn, MoveNeeds, MovesBy, MovesCaches, MovesWithoutMemory, StopsBy, Through, WalkIn, walk_in, walk_of}
use Rattle.framehop_calls.specs.declared.sample.Sample.{Sample}
use Rattle.framehop_calls.specs.declared.sample_steps.SampleStep.TheVariants.{Answered}
use Rattle.framehop_calls.specs.declared.sample_walks.SampleMove.{SampleMove}
use Rattle.framehop_calls.specs.declared.sample_walks.SampleMove.TheVariants.{Stops}
use Rattle.framehop_calls.specs.declared.sample_walks.WalkEnd.TheVariants.{EndOfStack, Failed}
use Rattle.framehop_calls.specs.declared.sample_walks.WalkPlace.{WalkPlace}
use Rattle.framehop_calls.specs.declared.sample_walks.WalkPlace.TheVariants as place

module _ {Registers : Type 0} (frame : Frame) (registers : Registers) where
  -- the walk at the frame
  abbrev here : Walk Registers
  here = record { position = At frame; registers = registers }

  -- a caller is gone to, unless its return address is 0
  caller-moved : (return_address : ℕ) (new : Registers) (made : SampleMove) (walk : Walk Registers)
      → GoesOn return_address made (record { position = At frame; registers = new }) walk
      → MovesBy made here (move_by frame registers (Answers (record { return_address = return_address; registers = new }))) walk
  caller-moved return_address new made walk goes = by (return_address == 0) refl
    where
      by : (b : Bool) → (return_address == 0) ≡ b
          → MovesBy made here (if b then move_to (Err ReturnAddressIsNull) (At frame) new else move_to (Ok (Some (later_frame return_address))) (At (later_frame return_address)) new) walk
      by true is =
          let null = goes.null (eqb-true return_address 0 is) in
          subst (λ m. MovesBy m here (move_to (Err ReturnAddressIsNull) (At frame) new) walk) (sym null.0)
          (record { position = At frame; registers = new }, refl, (λ i. record { position = null.1 i; registers = goes.registers i }))
      by false is =
          let later = goes.later (λ e. let t = eq-eqb return_address 0 e in absurd cc) in
          let walk-is : walk ≡ record { position = At (later_frame return_address); registers = new } = λ i. record { position = later.1 i; registers = goes.registers i } in
          subst (λ m. MovesBy m here (move_to (Ok (Some (later_frame return_address))) (At (later_frame return_address)) new) walk) (sym later.0)
          (later_frame return_address, refl, ap (λ w. record { answer = Ok (Some (later_frame return_address)); walk = w }) (sym walk-is))

  -- a step that gives a caller moves there
  stepped : (return_address : ℕ) (new : Registers) (made : SampleMove) (walk : Walk Registers) (outcome : Outcome (Caller Registers))
      → IsStep (Ok (Some return_address)) registers new outcome
      → GoesOn return_address made (record { position = At frame; registers = new }) walk
      → MovesBy made here (move_by frame registers outcome) walk
  stepped return_address new made walk Ends is goes = let e = is.answer in absurd cc
  stepped return_address new made walk (Refuses error) is goes = let e = is.answer in absurd cc
  stepped return_address new made walk (Answers caller) is goes =
      let answer = is.answer in
      let same : return_address ≡ caller.return_address = cc in
      subst (λ c. MovesBy made here (move_by frame registers (Answers c)) walk) (λ i. record { return_address = same i; registers = is.registers i })
      (caller-moved return_address new made walk goes)

  -- a step at the end of the stack ends the walk
  ended : (new : Registers) (outcome : Outcome (Caller Registers)) → IsStep (Ok None) registers new outcome
      → move_by frame registers outcome ≡ record { answer = Ok None; walk = record { position = Over; registers = new } }
  ended new Ends is = ap (λ r. record { answer = Ok None; walk = record { position = Over; registers = r } }) (sym is.registers)
  ended new (Refuses error) is = let e = is.answer in absurd cc
  ended new (Answers caller) is = let e = is.answer in absurd cc

  -- a step that fails leaves the walk
  refused : (error : Error) (outcome : Outcome (Caller Registers)) → Err error ≡ answer_of_outcome outcome
      → move_by frame registers outcome ≡ record { answer = Err error; walk = here }
  refused error Ends is = absurd cc
  refused error (Refuses other) is = let same : error ≡ other = cc in ap (λ e. record { answer = Err e; walk = here }) (sym same)
  refused error (Answers caller) is = absurd cc

  failed : (error : Error) (new : Registers) (outcome : Outcome (Caller Registers)) → IsAnswered (Err error) registers new outcome
      → StopsBy (Failed error) here (move_by frame registers outcome) (record { position = At frame; registers = new })
  failed (CouldNotReadStack address) new outcome is = (here, refused (CouldNotReadStack address) outcome (is.step refl).answer, ap (λ r. record { position = At frame; registers = r }) is.stays.registers.error)
  failed FramepointerUnwindingMovedBackwards new outcome is = (here, refused FramepointerUnwindingMovedBackwards outcome (is.step refl).answer, ap (λ r. record { position = At frame; registers = r }) is.stays.registers.error)
  failed DidNotAdvance new outcome is = (here, refused DidNotAdvance outcome (is.step refl).answer, ap (λ r. record { position = At frame; registers = r }) is.stays.registers.error)
  failed IntegerOverflow new outcome is = (here, refused IntegerOverflow outcome (is.step refl).answer, ap (λ r. record { position = At frame; registers = r }) is.stays.registers.error)
  failed ReturnAddressIsNull new outcome is = absurd is.stays.errors
  failed OutOfMemory new outcome is = ap (λ r. record { position = At frame; registers = r }) is.stays.registers.error

  -- where a step led, the move leads
  pub led : (answer : Result (Option ℕ) Error) (new : Registers) (made : SampleMove) (walk : Walk Registers) (outcome : Outcome (Caller Registers))
      → IsAnswered answer registers new outcome → GoesBy answer made (record { position = At frame; registers = new }) walk
      → MovesBy made here (move_by frame registers outcome) walk
  led (Ok (Some return_address)) new made walk outcome is goes = stepped return_address new made walk outcome (is.step refl) goes
  led (Ok None) new made walk outcome is goes =
      subst (λ m. MovesBy m here (move_by frame registers outcome) walk) (sym goes.0)
      (subst (λ w. MovesBy (Stops EndOfStack) here (move_by frame registers outcome) w) (sym goes.1) (ended new outcome (is.step refl)))
  led (Err error) new made walk outcome is goes =
      subst (λ m. MovesBy m here (move_by frame registers outcome) walk) (sym goes.0)
      (subst (λ w. StopsBy (Failed error) here (move_by frame registers outcome) w) (sym goes.1) (failed error new outcome is))

module _ {Registers : Type 0} (judgment : Judgment Registers) (words : Words) (at : WalkPlace) (registers : Registers) where
  -- a walk begins at its instruction pointer
  pub begins : (pc : ℕ) (address : FrameAddress) → at ≡ place.Starts pc → address ≡ InstructionPointer pc
      → Gives pc (move judgment words (walk_of (record { place = at; regs = registers }))) (walk_of (record { place = place.At address; regs = registers }))
  begins pc address is-start is-pc =
      subst (λ p. Gives pc (move judgment words (walk_of (record { place = p; regs = registers }))) (walk_of (record { place = place.At address; regs = registers }))) (sym is-start)
      (subst (λ a. Gives pc (move judgment words (walk_of (record { place = place.Starts pc; regs = registers }))) (walk_of (record { place = place.At a; regs = registers }))) (sym is-pc)
      (first_frame pc, refl, refl))

  -- a walk goes on from a frame
  pub goes-on : (address : FrameAddress) (answer : Result (Option ℕ) Error) (new : Registers) (made : SampleMove) (walk : Walk Registers) → at ≡ place.At address
      → IsAnswered answer registers new (judgment (frame_of address) registers words)
      → GoesBy answer made (walk_of (record { place = at; regs = new })) walk
      → MovesBy made (walk_of (record { place = at; regs = registers })) (move judgment words (walk_of (record { place = at; regs = registers }))) walk
  goes-on address answer new made walk is-at answered =
      subst (λ p. GoesBy answer made (walk_of (record { place = p; regs = new })) walk
      → MovesBy made (walk_of (record { place = p; regs = registers })) (move judgment words (walk_of (record { place = p; regs = registers }))) walk) (sym is-at)
      (led (frame_of address) registers answer new made walk (judgment (frame_of address) registers words) answered)

-- by a step that is answered a move asks for no word, and isn't full
pub needs-none : {Registers : Type 0} (sample : Sample) (answer : Result (Option ℕ) Error) (made : SampleMove) (old new : Walk Registers) → GoesBy answer made old new → MoveNeeds made sample
needs-none sample (Ok (Some zero)) made old new goes = subst (λ m. MoveNeeds m sample) (sym (goes.null refl).0) ((λ e. absurd cc), tt)
needs-none sample (Ok (Some (suc n))) made old new goes = subst (λ m. MoveNeeds m sample) (sym (goes.later (λ e. absurd cc)).0) tt
needs-none sample (Ok None) made old new goes = subst (λ m. MoveNeeds m sample) (sym goes.0) ((λ e. absurd cc), tt)
needs-none sample (Err error) made old new goes = subst (λ m. MoveNeeds m sample) (sym goes.0) ((λ e. absurd cc), tt)

-- by a step that isn't out of memory a move isn't
pub wants-none : {Registers : Type 0} (answer : Result (Option ℕ) Error) (made : SampleMove) (old new : Walk Registers) → TakesNoMemory (Answered answer) → GoesBy answer made old new → MovesWithoutMemory made
wants-none (Ok (Some zero)) made old new none goes = subst MovesWithoutMemory (sym (goes.null refl).0) (λ e. absurd cc)
wants-none (Ok (Some (suc n))) made old new none goes = subst MovesWithoutMemory (sym (goes.later (λ e. absurd cc)).0) (λ e. absurd cc)
wants-none (Ok None) made old new none goes = subst MovesWithoutMemory (sym goes.0) (λ e. absurd cc)
wants-none (Err error) made old new none goes =
    subst MovesWithoutMemory (sym goes.0) (λ e. let same : error ≡ OutOfMemory = cc in none (ap (λ x. Answered (Err x)) same))

module _ {Data Rule Registers : Type 0} (t : Through Data Rule Registers) (at : WalkPlace) (registers : Registers) (old new : SessionState Data Rule) (walk : Walk Registers) where
  -- the walk before a move, and after it
  abbrev before : WalkIn Data Rule Registers
  before = walk_in (record { place = at; regs = registers }) old

  abbrev after : WalkIn Data Rule Registers
  after = record { walk = walk; session = new }

  -- from a frame a move makes of the caches what its step does
  from-frame : (address : FrameAddress) (wanted : Bool) → at ≡ place.At address
      → StepsThrough t.meanings wanted (frame_of address) t.unwinder t.cache old new → MovesCaches t wanted before after
  from-frame address wanted is stepped =
      subst (λ p. MovesCaches t wanted (walk_in (record { place = p; regs = registers }) old) after) (sym is) stepped

  -- so it does where the step is answered
  pub counts-answered : (address : FrameAddress) (answer : Result (Option ℕ) Error) (made : SampleMove) (here : Walk Registers) → at ≡ place.At address
      → GoesBy answer made here walk → CountsAsStep t.meanings (Answered answer) (frame_of address) t.unwinder t.cache old new
      → CountsAsMove t made before after
  counts-answered address (Ok (Some zero)) made here is goes stepped =
      subst (λ m. CountsAsMove t m before after) (sym (goes.null refl).0) (from-frame address false is stepped)
  counts-answered address (Ok (Some (suc n))) made here is goes stepped =
      subst (λ m. CountsAsMove t m before after) (sym (goes.later (λ e. absurd cc)).0) (from-frame address false is stepped)
  counts-answered address (Ok None) made here is goes stepped =
      subst (λ m. CountsAsMove t m before after) (sym goes.0) (from-frame address false is stepped)
  counts-answered address (Err error) made here is goes stepped =
      subst (λ m. CountsAsMove t m before after) (sym goes.0) (from-frame address (wants_memory {A = Option ℕ} (Err error)) is stepped)

module _ {Data Rule Registers : Type 0} (t : Through Data Rule Registers) (at : WalkPlace) (registers : Registers) (session : SessionState Data Rule) (walk : Walk Registers) where
  -- the caches stay before the first frame
  pub counts-start : (pc : ℕ) → at ≡ place.Starts pc
      → MovesCaches t false (walk_in (record { place = at; regs = registers }) session) (record { walk = walk; session = session })
  counts-start pc is =
      subst (λ p. MovesCaches t false (walk_in (record { place = p; regs = registers }) session) (record { walk = walk; session = session })) (sym is)
      (record { unwinders = refl; next = refl; held = refl; histories = λ histories have. have })
