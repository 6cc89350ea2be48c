-- What calls do with a session of either architecture, and with a handle of one.
use Rattle.std.specs.Prelude.{ℕ, ◌==◌, Option, Some, None, if◌then◌else◌}
use Rattle.framehop_rules.specs.declared.aarch64.unwind_rule.UnwindRuleAarch64.{UnwindRuleAarch64}
use Rattle.framehop_rules.specs.declared.x86_64.unwind_rule.UnwindRuleX86_64.{UnwindRuleX86_64}
use Rattle.framehop_unwinder.specs.State.{SessionState, empty_state}
use Rattle.framehop_loads.specs.UnwindData.{UnwindData}
use Rattle.framehop_c.specs.declared.session.AnySession.{AnySession}
use Rattle.framehop_c.specs.declared.session.AnySession.TheVariants.{X86_64, Aarch64}

-- what is said of the state of a session before and after a call, on either architecture
abbrev pub Relation : Type 1
Relation = (Rule : Type 0) → SessionState UnwindData Rule → SessionState UnwindData Rule → Type 0

-- it is so of a session, which keeps its architecture
abbrev pub Does : Relation → AnySession → AnySession → Type 0
Does so (X86_64 old) (X86_64 new) = so UnwindRuleX86_64 old new
Does so (X86_64 old) (Aarch64 new) = ⊥
Does so (Aarch64 old) (X86_64 new) = ⊥
Does so (Aarch64 old) (Aarch64 new) = so UnwindRuleAarch64 old new

-- it is so of a handle's session; a handle without one is left so
abbrev pub InHandle : (AnySession → AnySession → Type 0) → Option AnySession → Option AnySession → Type 0
InHandle so None None = Unit {0}
InHandle so None (Some new) = ⊥
InHandle so (Some old) None = ⊥
InHandle so (Some old) (Some new) = so old new

-- the same of a call on either architecture
abbrev pub DoesIn : Relation → Option AnySession → Option AnySession → Type 0
DoesIn so old new = InHandle (Does so) old new

-- a session without an unwinder and a cache, of the architecture of a number: 0 is x86_64, and 1 aarch64
abbrev pub new_session : ℕ → Option AnySession
new_session architecture =
    if architecture == 0 then Some (X86_64 (empty_state 0)) else (if architecture == 1 then Some (Aarch64 (empty_state 0)) else None)
