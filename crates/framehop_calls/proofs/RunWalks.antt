-- Walks over a sample by runs of steps.
use Rattle.std.proofs.Common.{◌≡◌, ◌≢◌, ◌∙◌, ℕ, zero, suc, Bool, true, false, ◌+◌, ◌<◌, ◌≤◌, List, [], ◌∷◌, ◌++◌, length, take, Option, Some, None, Result, Ok, Err, ap, sym, subst, refl, arith, add-one}
use Rattle.std.specs.Prelude.{slice_set}
use Rattle.std.proofs.lemmas.List.{take-append-le}
use Rattle.framehop_registers.specs.Callback.{AnswersBy}
use Rattle.framehop_registers.specs.declared.code_address.FrameAddress.{FrameAddress}
use Rattle.framehop_registers.specs.declared.error.Error.{Error}
use Rattle.framehop_registers.specs.declared.error.Error.TheVariants.{CouldNotReadStack, FramepointerUnwindingMovedBackwards, DidNotAdvance, IntegerOverflow, ReturnAddressIsNull, OutOfMemory}
use Rattle.framehop_unwinder.specs.Attempt.{Meanings}
use Rattle.framehop_unwinder.specs.Frames.{Frame, frame_of}
use Rattle.framehop_unwinder.specs.HitReads.{RuleReads}
use Rattle.framehop_unwinder.specs.IdViews.{modules_by}
use Rattle.framehop_unwinder.specs.Judge.{judge}
use Rattle.framehop_unwinder.specs.Runs.{GoesTo, PassesFrames, RunPoint, Runs, RunsIfHeld, RunsOver, StepsIn, Stops, last_answer, point}
use Rattle.framehop_unwinder.specs.State.{SessionState, StepsThrough}
use Rattle.framehop_unwinder.specs.Trials.{wants_memory}
use Rattle.framehop_unwinder.specs.Walk.{At, Over, Walk}
use Rattle.framehop_unwinder.specs.declared.ids.CacheId.{CacheId}
use Rattle.framehop_unwinder.specs.declared.ids.UnwinderId.{UnwinderId}
use Rattle.framehop_unwinder.specs.declared.runs.Run.{Run}
use Rattle.framehop_unwinder.specs.declared.runs.RunEnd.{RunEnd}
use Rattle.framehop_unwinder.specs.declared.runs.RunEnd.TheVariants as run
use Rattle.framehop_calls.specs.Samples.{words_of}
use Rattle.framehop_calls.specs.SampleSteps.{KeepsModules}
use Rattle.framehop_calls.specs.SampleWalks.{CountsAsMove, GoesBy, GoesOn, MovesIn, Passes, Through, WalkIn, WalksOver, place_after, through, walk_end, walk_in}
use Rattle.framehop_calls.specs.declared.sample.Sample.{Sample}
use Rattle.framehop_calls.specs.declared.sample_walks.SampleMove.{SampleMove}
use Rattle.framehop_calls.specs.declared.sample_walks.SampleMove.TheVariants as moved
use Rattle.framehop_calls.specs.declared.sample_walks.WalkEnd.{WalkEnd}
use Rattle.framehop_calls.specs.declared.sample_walks.WalkEnd.TheVariants as ending
use Rattle.framehop_calls.specs.declared.sample_walks.WalkPlace.{WalkPlace}
use Rattle.framehop_calls.specs.declared.sample_walks.WalkPlace.TheVariants as place
use Rattle.framehop_calls.proofs.Moves.{led}

module _ {Data Rule Registers Stack : Type 0} (step : Stack → ℕ → Result ℕ (Unit {0}) → Stack → Type 0) (reads : RuleReads Rule Registers) (m : Meanings Data Rule Registers)
    (unwinder : UnwinderId) (cache : CacheId) (sample : Sample) where
  abbrev Point : Type 0
  Point = RunPoint Registers Stack (SessionState Data Rule)

  abbrev Step : Result (Option ℕ) Error → Point → Point → Type 0
  Step = StepsIn step reads m unwinder cache

  abbrev t : Through Data Rule Registers
  t = through m unwinder cache sample

  -- the walk of a run that is at a frame
  abbrev walking : Point → WalkIn Data Rule Registers
  walking p = record { walk = record { position = At p.frame; registers = p.registers }; session = p.held }

  abbrev to : Walk Registers → Point → WalkIn Data Rule Registers
  to walk p = record { walk = walk; session = p.held }

  counted : (answer : Result (Option ℕ) Error) (old new : Point) (made : SampleMove) (here walk : Walk Registers) → GoesBy answer made here walk
      → StepsThrough m (wants_memory answer) old.frame t.unwinder t.cache old.held new.held → CountsAsMove t made (walking old) (to walk new)
  counted (Ok (Some zero)) old new made here walk goes counts = subst (λ x. CountsAsMove t x (walking old) (to walk new)) (sym (goes.null refl).0) counts
  counted (Ok (Some (suc n))) old new made here walk goes counts = subst (λ x. CountsAsMove t x (walking old) (to walk new)) (sym (goes.later (λ e. absurd cc)).0) counts
  counted (Ok None) old new made here walk goes counts = subst (λ x. CountsAsMove t x (walking old) (to walk new)) (sym goes.0) counts
  counted (Err error) old new made here walk goes counts = subst (λ x. CountsAsMove t x (walking old) (to walk new)) (sym goes.0) counts

  -- a step is a move, where it leads
  moves : (answer : Result (Option ℕ) Error) (old new : Point) (made : SampleMove) (walk : Walk Registers) → AnswersBy step old.stack (words_of sample) → Step answer old new
      → GoesBy answer made (record { position = At old.frame; registers = new.registers }) walk → MovesIn t made (walking old) (to walk new)
  moves answer old new made walk answers steps goes = (
    led old.frame old.registers answer new.registers made walk (judge m (modules_by old.held unwinder) old.frame old.registers (words_of sample))
        (record { step = steps.over.said (words_of sample) answers; stays = steps.stays }) goes,
    counted answer old new made _ walk goes steps.caches,
  )

  passes : (old : Point) (addresses : List ℕ) (new : Point) → AnswersBy step old.stack (words_of sample) → PassesFrames Step old addresses new
      → Passes t (walking old) addresses (walking new) × AnswersBy step new.stack (words_of sample)
  passes old [] new answers same = (ap walking same, subst (λ (p : Point). AnswersBy step p.stack (words_of sample)) (sym same) answers)
  passes old (address ∷ more) new answers (mid, goes, passed) =
      let rest = passes mid more new (goes.step.over.still (words_of sample) answers) passed in
      let here : Walk Registers = record { position = At old.frame; registers = mid.registers } in
      let there : Walk Registers = record { position = At mid.frame; registers = mid.registers } in
      let leads : GoesOn address (moved.Frame address) here there = record { registers = refl; null = λ e. absurd (goes.some e); later = λ e. (refl, ap At goes.frame) } in (
        (walking mid, moves (Ok (Some address)) old mid (moved.Frame address) there answers goes.step leads, rest.0),
        rest.1,
      )

  -- where the last step fails the walk stays at the frame
  fails : (error : Error) (last : Point) (at : FrameAddress) (regs : Registers) (stack : Stack) (session : SessionState Data Rule) → AnswersBy step last.stack (words_of sample)
      → Step (Err error) last (point at regs stack session) → frame_of at ≡ last.frame
      → MovesIn t (moved.Stops (ending.Failed error)) (walking last) (walking (point at regs stack session))
  fails error last at regs stack session answers steps same =
      moves (Err error) last (point at regs stack session) (moved.Stops (ending.Failed error)) (record { position = At (frame_of at); registers = regs }) answers steps
      (refl, ap (λ (f : Frame). record { position = At f; registers = regs }) same)

  stops : (last : Point) (end : RunEnd) (at : FrameAddress) (regs : Registers) (stack : Stack) (session : SessionState Data Rule) → AnswersBy step last.stack (words_of sample)
      → Stops Step (last_answer end) last (point at regs stack session)
      → MovesIn t (moved.Stops (walk_end end)) (walking last) (walk_in (record { place = place_after end at; regs = regs }) session)
  stops last run.Full at regs stack session answers same = (ap (λ (p : Point). record { position = At p.frame; registers = p.registers }) same, ap (λ (p : Point). p.held) same)
  stops last run.EndOfStack at regs stack session answers stop =
      moves (Ok None) last (point at regs stack session) (moved.Stops ending.EndOfStack) (record { position = Over; registers = regs }) answers stop.step (refl, refl)
  stops last (run.Failed (CouldNotReadStack word)) at regs stack session answers stop = fails (CouldNotReadStack word) last at regs stack session answers stop.step stop.frame
  stops last (run.Failed FramepointerUnwindingMovedBackwards) at regs stack session answers stop = fails FramepointerUnwindingMovedBackwards last at regs stack session answers stop.step stop.frame
  stops last (run.Failed DidNotAdvance) at regs stack session answers stop = fails DidNotAdvance last at regs stack session answers stop.step stop.frame
  stops last (run.Failed IntegerOverflow) at regs stack session answers stop = fails IntegerOverflow last at regs stack session answers stop.step stop.frame
  stops last (run.Failed ReturnAddressIsNull) at regs stack session answers stop =
      moves (Ok (Some 0)) last (point at regs stack session) (moved.Stops (ending.Failed ReturnAddressIsNull)) (record { position = Over; registers = regs }) answers stop.step
      (record { registers = refl; null = λ e. (refl, refl); later = λ e. absurd (e refl) })
  stops last (run.Failed OutOfMemory) at regs stack session answers stop = fails OutOfMemory last at regs stack session answers stop.step stop.frame

  -- a run over the words of a sample is a walk over it
  pub walks : (from : FrameAddress) (before : Registers) (first : Stack) (old : SessionState Data Rule) (addresses : List ℕ) (end : RunEnd)
      (at : FrameAddress) (regs : Registers) (stack : Stack) (session : SessionState Data Rule)
      → RunsOver Step (point from before first old) addresses end (point at regs stack session) → AnswersBy step first (words_of sample)
      → WalksOver t (walking (point from before first old)) addresses (walk_end end) (walk_in (record { place = place_after end at; regs = regs }) session)
  walks from before first old addresses end at regs stack session (last, passed, stopped) answers =
      let way = passes (point from before first old) addresses last answers passed in
      (walking last, way.0, stops last end at regs stack session way.1 stopped)

keeps-both : {Data Rule : Type 0} (one two three : SessionState Data Rule) → KeepsModules one two → KeepsModules two three → KeepsModules one three
keeps-both one two three first second = record {
  unwinders = second.unwinders ∙ first.unwinders;
  next = second.next ∙ first.next;
  held = second.held ∙ first.held;
}

module _ {Data Rule Registers Stack : Type 0} (step : Stack → ℕ → Result ℕ (Unit {0}) → Stack → Type 0) (reads : RuleReads Rule Registers) (m : Meanings Data Rule Registers)
    (unwinder : UnwinderId) (cache : CacheId) where
  keeps-passed : (old : RunPoint Registers Stack (SessionState Data Rule)) (addresses : List ℕ) (new : RunPoint Registers Stack (SessionState Data Rule))
      → PassesFrames (StepsIn step reads m unwinder cache) old addresses new → KeepsModules old.held new.held
  keeps-passed old [] new same =
      subst (λ (p : RunPoint Registers Stack (SessionState Data Rule)). KeepsModules old.held p.held) (sym same) (record { unwinders = refl; next = refl; held = refl })
  keeps-passed old (address ∷ more) new (mid, goes, passed) =
      let counts = goes.step.caches in
      keeps-both old.held mid.held new.held (record { unwinders = counts.unwinders; next = counts.next; held = counts.held }) (keeps-passed mid more new passed)

  keeps-stopped : (answer : Option (Result (Option ℕ) Error)) (old new : RunPoint Registers Stack (SessionState Data Rule))
      → Stops (StepsIn step reads m unwinder cache) answer old new → KeepsModules old.held new.held
  keeps-stopped None old new same =
      subst (λ (p : RunPoint Registers Stack (SessionState Data Rule)). KeepsModules old.held p.held) (sym same) (record { unwinders = refl; next = refl; held = refl })
  keeps-stopped (Some answer) old new stop =
      let counts = stop.step.caches in record { unwinders = counts.unwinders; next = counts.next; held = counts.held }

  -- a run leaves a session its modules
  pub run_keeps : (old : RunPoint Registers Stack (SessionState Data Rule)) (addresses : List ℕ) (end : RunEnd) (new : RunPoint Registers Stack (SessionState Data Rule))
      → RunsOver (StepsIn step reads m unwinder cache) old addresses end new → KeepsModules old.held new.held
  run_keeps old addresses end new (last, passed, stopped) =
      keeps-both old.held last.held new.held (keeps-passed old addresses last passed) (keeps-stopped (last_answer end) last new stopped)

-- a run that was made
pub run_made : {Registers Stack Held E : Type 0} (Step : Result (Option ℕ) Error → RunPoint Registers Stack Held → RunPoint Registers Stack Held → Type 0)
    (old new : RunPoint Registers Stack Held) (result : Result Run E) (made : Run) (frames : List ℕ) → result ≡ Ok made → RunsIfHeld Step old result frames new
    → Runs Step old made frames new
run_made {E} Step old new result made frames is = subst (λ (r : Result Run E). RunsIfHeld Step old r frames new) is

-- a walk that is over stays so
pub stays-over : {Data Rule Registers : Type 0} (t : Through Data Rule Registers) (at : WalkPlace) (registers : Registers) (session : SessionState Data Rule) → at ≡ place.Over
    → MovesIn t (moved.Stops ending.EndOfStack) (walk_in (record { place = at; regs = registers }) session) (walk_in (record { place = at; regs = registers }) session)
stays-over t at registers session is =
    subst (λ p. MovesIn t (moved.Stops ending.EndOfStack) (walk_in (record { place = p; regs = registers }) session) (walk_in (record { place = p; regs = registers }) session)) (sym is)
    (refl, record { unwinders = refl; next = refl; held = refl; histories = λ histories have. have })

-- the first of what is written, and then others
pub first-then : (frames part rest : List ℕ) (first n : ℕ) → 0 < length frames → n ≤ length part
    → take (n + 1) (take 1 (slice_set frames 0 first) ++ (part ++ rest)) ≡ first ∷ take n part
first-then [] part rest first n some fits = absurd (omega (arith, some))
first-then (f ∷ frames) part rest first n some fits =
    ap (λ (k : ℕ). take k (first ∷ (part ++ rest))) (add-one n) ∙ ap (λ (xs : List ℕ). first ∷ xs) (take-append-le n part rest fits)
