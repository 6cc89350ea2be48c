-- Walks of sessions of either architecture, with walks as C has them.
use Rattle.std.specs.Prelude.{ℕ, ◌≡◌, List, [], ◌∷◌, Bool, true, false, Option, Some, None, option_map}
use Rattle.framehop_registers.specs.declared.aarch64.unwindregs.UnwindRegsAarch64.{UnwindRegsAarch64}
use Rattle.framehop_registers.specs.declared.x86_64.unwindregs.UnwindRegsX86_64.{UnwindRegsX86_64}
use Rattle.framehop_calls.specs.declared.sample.Sample.{Sample}
use Rattle.framehop.specs.StepMeanings.{meanings_aarch64, meanings_x86_64}
use Rattle.framehop_loads.specs.StepLimits.{limits_may_allocate}
use Rattle.framehop_calls.specs.Places.{position_numbered}
use Rattle.framehop_calls.specs.Registers.{from_aarch64, from_x86_64, to_aarch64, to_x86_64}
use Rattle.framehop_calls.specs.Statuses.{bad_argument, is_among, no_cache, no_unwinder, no_value, other_architecture}
use Rattle.framehop_calls.specs.Steps.{WalkCall, WalksByNumber}
use Rattle.framehop_c.specs.Steps.{DoesNothing}
use Rattle.framehop_c.specs.declared.session.AnySession.{AnySession}
use Rattle.framehop_c.specs.declared.session.AnySession.TheVariants.{X86_64, Aarch64}
use Rattle.framehop_c.specs.declared.walks.WalkAarch64.{WalkAarch64}
use Rattle.framehop_c.specs.declared.walks.WalkX86_64.{WalkX86_64}

-- the status says that there is no such unwinder, or no such cache
abbrev pub is_missing : ℕ → Bool
is_missing status = is_among status (no_unwinder ∷ no_cache ∷ [])

-- the call that a walk on x86_64 says, if its place is one
abbrev pub walk_call_x86_64 : WalkX86_64 → Option (WalkCall UnwindRegsX86_64)
walk_call_x86_64 c = option_map (λ position. record {
  unwinder = c.unwinder;
  cache = c.cache;
  walk = record { position = position; registers = to_x86_64 c.registers };
  count = c.count;
  word_address = c.word_address;
}) (position_numbered c.place c.address)

-- What is left of a walk on x86_64 by its call: all of it stays if there is no such unwinder or cache, else it is where the call's is.
pub record LeavesX86_64 (status : ℕ) (given left : WalkX86_64) (call : WalkCall UnwindRegsX86_64) : Type 0 where
  pub missing : is_missing status ≡ true → left ≡ given
  pub place : is_missing status ≡ false → position_numbered left.place left.address ≡ Some call.walk.position
  pub others : is_missing status ≡ false → left ≡ record left {
    unwinder = given.unwinder;
    cache = given.cache;
    registers = from_x86_64 call.walk.registers;
    count = call.count;
    word_address = call.word_address;
  }

-- a walk on x86_64 by a call, if there is one: else nothing is done, nor without a session, nor by one on aarch64
abbrev pub WalksByX86_64 : ℕ → Sample → Option (WalkCall UnwindRegsX86_64) → WalkX86_64 × List ℕ → WalkX86_64 × List ℕ
    → Option AnySession → Option AnySession → Type 0
WalksByX86_64 status sample None before after old new = DoesNothing status bad_argument before after old new
WalksByX86_64 status sample (Some call) before after None new = DoesNothing status no_value before after None new
WalksByX86_64 status sample (Some call) before after (Some (Aarch64 old)) new = DoesNothing status other_architecture before after (Some (Aarch64 old)) new
WalksByX86_64 status sample (Some call) before after (Some (X86_64 old)) None = ⊥
WalksByX86_64 status sample (Some call) before after (Some (X86_64 old)) (Some (Aarch64 new)) = ⊥
WalksByX86_64 status sample (Some call) before after (Some (X86_64 old)) (Some (X86_64 new)) =
    (made : WalkCall UnwindRegsX86_64)
    × WalksByNumber (meanings_x86_64 limits_may_allocate) status sample (call, before.1) (made, after.1) old new
    × LeavesX86_64 status before.0 after.0 made

-- the call that a walk on aarch64 says, if its place is one
abbrev pub walk_call_aarch64 : WalkAarch64 → Option (WalkCall UnwindRegsAarch64)
walk_call_aarch64 c = option_map (λ position. record {
  unwinder = c.unwinder;
  cache = c.cache;
  walk = record { position = position; registers = to_aarch64 c.registers };
  count = c.count;
  word_address = c.word_address;
}) (position_numbered c.place c.address)

-- What is left of a walk on aarch64 by its call: all of it stays if there is no such unwinder or cache, else it is where the call's is.
pub record LeavesAarch64 (status : ℕ) (given left : WalkAarch64) (call : WalkCall UnwindRegsAarch64) : Type 0 where
  pub missing : is_missing status ≡ true → left ≡ given
  pub place : is_missing status ≡ false → position_numbered left.place left.address ≡ Some call.walk.position
  pub others : is_missing status ≡ false → left ≡ record left {
    unwinder = given.unwinder;
    cache = given.cache;
    registers = from_aarch64 call.walk.registers;
    count = call.count;
    word_address = call.word_address;
  }

-- a walk on aarch64 by a call, if there is one: else nothing is done, nor without a session, nor by one on x86_64
abbrev pub WalksByAarch64 : ℕ → Sample → Option (WalkCall UnwindRegsAarch64) → WalkAarch64 × List ℕ → WalkAarch64 × List ℕ
    → Option AnySession → Option AnySession → Type 0
WalksByAarch64 status sample None before after old new = DoesNothing status bad_argument before after old new
WalksByAarch64 status sample (Some call) before after None new = DoesNothing status no_value before after None new
WalksByAarch64 status sample (Some call) before after (Some (X86_64 old)) new = DoesNothing status other_architecture before after (Some (X86_64 old)) new
WalksByAarch64 status sample (Some call) before after (Some (Aarch64 old)) None = ⊥
WalksByAarch64 status sample (Some call) before after (Some (Aarch64 old)) (Some (X86_64 new)) = ⊥
WalksByAarch64 status sample (Some call) before after (Some (Aarch64 old)) (Some (Aarch64 new)) =
    (made : WalkCall UnwindRegsAarch64)
    × WalksByNumber (meanings_aarch64 limits_may_allocate) status sample (call, before.1) (made, after.1) old new
    × LeavesAarch64 status before.0 after.0 made

-- a walk by a call of a session on x86_64; one on aarch64 answers no status, and stays
abbrev pub WalksOnX86_64 : Option ℕ → Sample → (before after : WalkCall UnwindRegsX86_64 × List ℕ) → AnySession → AnySession → Type 0
WalksOnX86_64 (Some status) sample before after (X86_64 old) (X86_64 new) =
    WalksByNumber (meanings_x86_64 limits_may_allocate) status sample before after old new
WalksOnX86_64 (Some status) sample before after (X86_64 old) (Aarch64 new) = ⊥
WalksOnX86_64 (Some status) sample before after (Aarch64 old) new = ⊥
WalksOnX86_64 None sample before after (X86_64 old) new = ⊥
WalksOnX86_64 None sample before after (Aarch64 old) new = (new ≡ Aarch64 old) × (after.1 ≡ before.1)

-- a walk by a call of a session on aarch64; one on x86_64 answers no status, and stays
abbrev pub WalksOnAarch64 : Option ℕ → Sample → (before after : WalkCall UnwindRegsAarch64 × List ℕ) → AnySession → AnySession → Type 0
WalksOnAarch64 (Some status) sample before after (Aarch64 old) (Aarch64 new) =
    WalksByNumber (meanings_aarch64 limits_may_allocate) status sample before after old new
WalksOnAarch64 (Some status) sample before after (Aarch64 old) (X86_64 new) = ⊥
WalksOnAarch64 (Some status) sample before after (X86_64 old) new = ⊥
WalksOnAarch64 None sample before after (Aarch64 old) new = ⊥
WalksOnAarch64 None sample before after (X86_64 old) new = (new ≡ X86_64 old) × (after.1 ≡ before.1)

-- a walk of a handle's session, as a walk on x86_64 says it
abbrev pub WalksX86_64 : ℕ → Sample → WalkX86_64 × List ℕ → WalkX86_64 × List ℕ → Option AnySession → Option AnySession → Type 0
WalksX86_64 status sample before after old new = WalksByX86_64 status sample (walk_call_x86_64 before.0) before after old new

-- a walk of a handle's session, as a walk on aarch64 says it
abbrev pub WalksAarch64 : ℕ → Sample → WalkAarch64 × List ℕ → WalkAarch64 × List ℕ → Option AnySession → Option AnySession → Type 0
WalksAarch64 status sample before after old new = WalksByAarch64 status sample (walk_call_aarch64 before.0) before after old new
