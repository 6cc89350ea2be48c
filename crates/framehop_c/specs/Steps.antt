-- Steps of sessions of either architecture, with frames as C has them.
use Rattle.std.specs.Prelude.{ℕ, ◌≡◌, ◌==◌, Option, Some, None, option_map, if◌then◌else◌}
use Rattle.framehop_registers.specs.declared.aarch64.unwindregs.UnwindRegsAarch64.{UnwindRegsAarch64}
use Rattle.framehop_registers.specs.declared.x86_64.unwindregs.UnwindRegsX86_64.{UnwindRegsX86_64}
use Rattle.framehop_calls.specs.declared.sample.Sample.{Sample}
use Rattle.framehop.specs.StepMeanings.{meanings_aarch64, meanings_x86_64}
use Rattle.framehop_loads.specs.StepLimits.{limits_may_allocate}
use Rattle.framehop_calls.specs.Places.{frame_numbered}
use Rattle.framehop_calls.specs.Registers.{from_aarch64, from_x86_64, to_aarch64, to_x86_64}
use Rattle.framehop_calls.specs.Statuses.{bad_argument, no_value, ok, other_architecture}
use Rattle.framehop_calls.specs.Steps.{StepCall, StepsByNumber}
use Rattle.framehop_c.specs.declared.session.AnySession.{AnySession}
use Rattle.framehop_c.specs.declared.session.AnySession.TheVariants.{X86_64, Aarch64}
use Rattle.framehop_c.specs.declared.steps.FrameAarch64.{FrameAarch64}
use Rattle.framehop_c.specs.declared.steps.FrameX86_64.{FrameX86_64}

-- nothing is done with a handle's session and what a call is given beside it, for this reason
abbrev pub DoesNothing : {Given : Type 0} → (status reason : ℕ) → Given → Given → Option AnySession → Option AnySession → Type 0
DoesNothing status reason given left old new = (status ≡ reason) × (left ≡ given) × (new ≡ old)

-- the call for a step that a frame on x86_64 says, if its place is one of a frame
abbrev pub call_x86_64 : FrameX86_64 → Option (StepCall UnwindRegsX86_64)
call_x86_64 c = option_map (λ frame. record {
  unwinder = c.unwinder;
  cache = c.cache;
  frame = frame;
  registers = to_x86_64 c.registers;
  return_address = c.return_address;
  word_address = c.word_address;
}) (frame_numbered c.place c.address)

-- the frame after the call: the registers are the caller's if there is one, else they stay
abbrev pub left_x86_64 : ℕ → FrameX86_64 → StepCall UnwindRegsX86_64 → FrameX86_64
left_x86_64 status frame call = record frame {
  registers = if status == ok then from_x86_64 call.registers else frame.registers;
  return_address = call.return_address;
  word_address = call.word_address;
}

-- a step on x86_64 by a call, if there is one: else nothing is done, nor without a session, nor by one on aarch64
abbrev pub StepsX86_64 : ℕ → Sample → Option (StepCall UnwindRegsX86_64) → FrameX86_64 → FrameX86_64 → Option AnySession → Option AnySession → Type 0
StepsX86_64 status sample None given left old new = DoesNothing status bad_argument given left old new
StepsX86_64 status sample (Some call) given left None new = DoesNothing status no_value given left None new
StepsX86_64 status sample (Some call) given left (Some (Aarch64 old)) new = DoesNothing status other_architecture given left (Some (Aarch64 old)) new
StepsX86_64 status sample (Some call) given left (Some (X86_64 old)) None = ⊥
StepsX86_64 status sample (Some call) given left (Some (X86_64 old)) (Some (Aarch64 new)) = ⊥
StepsX86_64 status sample (Some call) given left (Some (X86_64 old)) (Some (X86_64 new)) =
    (made : StepCall UnwindRegsX86_64)
    × StepsByNumber (meanings_x86_64 limits_may_allocate) status sample call made old new × (left ≡ left_x86_64 status given made)

-- the call for a step that a frame on aarch64 says, if its place is one of a frame
abbrev pub call_aarch64 : FrameAarch64 → Option (StepCall UnwindRegsAarch64)
call_aarch64 c = option_map (λ frame. record {
  unwinder = c.unwinder;
  cache = c.cache;
  frame = frame;
  registers = to_aarch64 c.registers;
  return_address = c.return_address;
  word_address = c.word_address;
}) (frame_numbered c.place c.address)

-- the frame after the call: the registers are the caller's if there is one, else they stay
abbrev pub left_aarch64 : ℕ → FrameAarch64 → StepCall UnwindRegsAarch64 → FrameAarch64
left_aarch64 status frame call = record frame {
  registers = if status == ok then from_aarch64 call.registers else frame.registers;
  return_address = call.return_address;
  word_address = call.word_address;
}

-- a step on aarch64 by a call, if there is one: else nothing is done, nor without a session, nor by one on x86_64
abbrev pub StepsAarch64 : ℕ → Sample → Option (StepCall UnwindRegsAarch64) → FrameAarch64 → FrameAarch64 → Option AnySession → Option AnySession → Type 0
StepsAarch64 status sample None given left old new = DoesNothing status bad_argument given left old new
StepsAarch64 status sample (Some call) given left None new = DoesNothing status no_value given left None new
StepsAarch64 status sample (Some call) given left (Some (X86_64 old)) new = DoesNothing status other_architecture given left (Some (X86_64 old)) new
StepsAarch64 status sample (Some call) given left (Some (Aarch64 old)) None = ⊥
StepsAarch64 status sample (Some call) given left (Some (Aarch64 old)) (Some (X86_64 new)) = ⊥
StepsAarch64 status sample (Some call) given left (Some (Aarch64 old)) (Some (Aarch64 new)) =
    (made : StepCall UnwindRegsAarch64)
    × StepsByNumber (meanings_aarch64 limits_may_allocate) status sample call made old new × (left ≡ left_aarch64 status given made)

-- a step by a call of a session on x86_64; one on aarch64 answers no status, and stays
abbrev pub StepsOnX86_64 : Option ℕ → Sample → (old_call new_call : StepCall UnwindRegsX86_64) → AnySession → AnySession → Type 0
StepsOnX86_64 (Some status) sample old_call new_call (X86_64 old) (X86_64 new) =
    StepsByNumber (meanings_x86_64 limits_may_allocate) status sample old_call new_call old new
StepsOnX86_64 (Some status) sample old_call new_call (X86_64 old) (Aarch64 new) = ⊥
StepsOnX86_64 (Some status) sample old_call new_call (Aarch64 old) new = ⊥
StepsOnX86_64 None sample old_call new_call (X86_64 old) new = ⊥
StepsOnX86_64 None sample old_call new_call (Aarch64 old) new = new ≡ Aarch64 old

-- a step by a call of a session on aarch64; one on x86_64 answers no status, and stays
abbrev pub StepsOnAarch64 : Option ℕ → Sample → (old_call new_call : StepCall UnwindRegsAarch64) → AnySession → AnySession → Type 0
StepsOnAarch64 (Some status) sample old_call new_call (Aarch64 old) (Aarch64 new) =
    StepsByNumber (meanings_aarch64 limits_may_allocate) status sample old_call new_call old new
StepsOnAarch64 (Some status) sample old_call new_call (Aarch64 old) (X86_64 new) = ⊥
StepsOnAarch64 (Some status) sample old_call new_call (X86_64 old) new = ⊥
StepsOnAarch64 None sample old_call new_call (Aarch64 old) new = ⊥
StepsOnAarch64 None sample old_call new_call (X86_64 old) new = new ≡ X86_64 old
