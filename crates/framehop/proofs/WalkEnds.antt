-- Walks whose steps raise the stack pointer within 64 bits end.
use Rattle.std.proofs.Common.{◌≡◌, ℕ, zero, suc, ◌+◌, ◌^◌, ◌<◌, ◌≤◌, arith, refl, Bool, true, false}
use Rattle.std.specs.Prelude.{◌==◌, Some, Ok, Err, if◌then◌else◌}
use Rattle.framehop_registers.specs.Callback.{Words}
use Rattle.framehop_registers.specs.declared.error.Error.TheVariants.{ReturnAddressIsNull}
use Rattle.framehop_rules.specs.Outcome.{Outcome, Ends, Refuses, Answers, Caller}
use Rattle.framehop_unwinder.specs.Frames.{Frame, first_frame, later_frame}
use Rattle.framehop_unwinder.specs.Walk.{Judgment, At, move_by, move_to}
use Rattle.framehop_unwinder.specs.WalkViews.{walk_from}
use Rattle.framehop.specs.WalkLengths.{GivesFrames, IsFrame, RaisesSp}

module _ {Registers : Type 0} (judgment : Judgment Registers) (words : Words) (sp : Registers → ℕ) (Known Made : Frame → Registers → Type 0) (raises : RaisesSp judgment words sp Known Made) where
  -- If a move from a frame gives one, its step gave a caller, and the walk goes on from there.
  record GoesOn (frame : Frame) (registers : Registers) (count : ℕ) : Type 0 where
    caller : Caller Registers
    answered : judgment frame registers words ≡ Answers caller
    more : GivesFrames judgment words Made count (record { position = At (later_frame caller.return_address); registers = caller.registers })

  abbrev Goes : Frame → Registers → ℕ → Outcome (Caller Registers) → Type 0
  Goes frame registers count outcome = IsFrame (move_by frame registers outcome).answer × GivesFrames judgment words Made count (move_by frame registers outcome).walk

  goes-on : (frame : Frame) (registers : Registers) (count : ℕ) (outcome : Outcome (Caller Registers)) → judgment frame registers words ≡ outcome → Goes frame registers count outcome → GoesOn frame registers count
  goes-on frame registers count Ends is goes = absurd goes.0
  goes-on frame registers count (Refuses error) is goes = absurd goes.0
  goes-on frame registers count (Answers caller) is goes = by (caller.return_address == 0) goes
    where
      by : (b : Bool)
          → (let m = if b then move_to (Err ReturnAddressIsNull) (At frame) caller.registers else move_to (Ok (Some (later_frame caller.return_address))) (At (later_frame caller.return_address)) caller.registers in
          IsFrame m.answer × GivesFrames judgment words Made count m.walk)
          → GoesOn frame registers count
      by true goes = absurd goes.0
      by false goes = record { caller = caller; answered = is; more = goes.1 }

  -- from a later frame on
  later-frames : (count to : ℕ) (registers : Registers) → Known (later_frame to) registers → GivesFrames judgment words Made (suc count) (record { position = At (later_frame to); registers = registers }) → sp registers + suc count < 2 ^ 64
  later-frames zero to registers known goes =
      let on = goes-on (later_frame to) registers 0 (judgment (later_frame to) registers words) refl goes.1 in
      let up = raises.raised to registers on.caller known goes.0 on.answered in
      let higher = up.higher in
      let fits = up.fits in
      omega arith
  later-frames (suc count) to registers known goes =
      let on = goes-on (later_frame to) registers (suc count) (judgment (later_frame to) registers words) refl goes.1 in
      let up = (raises.raised to registers on.caller known goes.0 on.answered).higher in
      let further = later-frames count on.caller.return_address on.caller.registers (raises.known (later_frame to) registers on.caller known goes.0 on.answered) on.more in
      omega arith

  -- from the instruction pointer on
  pub ends : (pc count : ℕ) (registers : Registers) → Known (first_frame pc) registers → GivesFrames judgment words Made count (walk_from pc registers) → count ≤ 2 ^ 64 + 1
  ends pc zero registers known goes = omega arith
  ends pc (suc zero) registers known goes = omega arith
  ends pc (suc (suc zero)) registers known goes = omega arith
  ends pc (suc (suc (suc count))) registers known goes =
      let first = goes.1.1 in
      let on = goes-on (first_frame pc) registers (suc count) (judgment (first_frame pc) registers words) refl first.1 in
      let further = later-frames count on.caller.return_address on.caller.registers (raises.known (first_frame pc) registers on.caller known first.0 on.answered) on.more in
      omega arith
