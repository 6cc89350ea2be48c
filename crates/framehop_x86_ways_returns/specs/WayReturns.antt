-- The machine that executes a way, and where it returns to.
--
-- Calls, plain instructions and stores of other registers may do anything but what the calling convention asks of a function: they leave
-- RSP, RBP and the words from which the function loads these and the return address afterwards; a call those that aren't below RSP.
use Rattle.std.specs.Prelude.{ℕ, ◌≡◌, ◌+◌, ◌<◌, ◌^◌, Bool, false, IsTrue, pos, negsuc, List, [], ◌∷◌, Option, Some, None}
use Rattle.framehop_registers.specs.Callback.{Words}
use Rattle.framehop_registers.specs.declared.x86_64.unwindregs.Reg.{Reg}
use Rattle.framehop_registers.specs.declared.x86_64.unwindregs.Reg.TheVariants.{RSP, RBP}
use Rattle.framehop_registers.specs.declared.x86_64.unwindregs.UnwindRegsX86_64.{UnwindRegsX86_64}
use Rattle.framehop_rules.specs.Outcome.{Answers, Caller}
use Rattle.framehop_rules.specs.RuleMeaning.{rule_meaning}
use Rattle.framehop_rules.specs.declared.x86_64.unwind_rule.UnwindRuleX86_64.{UnwindRuleX86_64}
use Rattle.framehop_rules.specs.declared.x86_64.unwind_rule.UnwindRuleX86_64.TheVariants.{UseFramePointer}
use Rattle.framehop_analysis.specs.Machine.{State, updated, returned}
use Rattle.framehop_analysis.specs.MachineAarch64.{moved}
use Rattle.framehop_analysis.specs.Returns.{IsAt, HasReturned}
use Rattle.framehop_x86_instructions.specs.Registers.{contains}
use Rattle.framehop_x86_instructions.specs.declared.address.Address.{Address}
use Rattle.framehop_x86_instructions.specs.declared.address.Base.{Base}
use Rattle.framehop_x86_instructions.specs.declared.address.Base.TheVariants.{StackPointer, FramePointer}
use Rattle.framehop_x86_instructions.specs.declared.effect.Effect.{Effect}
use Rattle.framehop_x86_instructions.specs.declared.effect.Effect.TheVariants.{Push, Pop, Leave, Move, Load, Store, Call, Plain, Unknown}
use Rattle.framehop_x86_ways.specs.Values.{is_carried}
use Rattle.framehop_x86_ways.specs.declared.executed.Executed.{Executed}

-- What a base holds.
abbrev pub base_in : State → Base → ℕ
base_in s StackPointer = s.sp
base_in s FramePointer = s.bp

-- Another value of RSP or RBP. Of other registers nothing is said.
abbrev pub put : Reg → ℕ → State → State
put RSP value s = record s { sp = value }
put RBP value s = record s { bp = value }
put other value s = s

-- What a register holds, if that is RSP or RBP.
abbrev pub IsValueOf : State → Reg → ℕ → Type 0
IsValueOf s RSP word = word ≡ s.sp
IsValueOf s RBP word = word ≡ s.bp
IsValueOf s other word = Unit {0}

abbrev pub IsPushed : State → Option Reg → ℕ → Type 0
IsPushed s None word = Unit {0}
IsPushed s (Some register) word = IsValueOf s register word

-- A push: RSP goes down by 8, and the word is there.
abbrev pub state_after_push : ℕ → State → State
state_after_push word s = record s { sp = moved s.sp (negsuc 7); memory = updated s.memory (moved s.sp (negsuc 7)) word }

-- A pop: RSP goes up by 8, and then a register holds the word that was there.
abbrev pub state_after_pop : Option Reg → State → State
state_after_pop None s = record s { sp = moved s.sp (pos 8) }
state_after_pop (Some register) s = put register (s.memory s.sp) (record s { sp = moved s.sp (pos 8) })

-- LEAVE: a pop of RBP from where RBP leads.
abbrev pub state_after_leave : State → State
state_after_leave s = record s { sp = moved s.bp (pos 8); bp = s.memory s.bp }

-- Where an address leads.
abbrev pub address_in : State → Address → ℕ
address_in s address = moved (base_in s address.base) address.bytes

-- A store of RSP or RBP.
abbrev pub memory_after_store : State → Reg → Address → (ℕ → ℕ)
memory_after_store s RSP to = updated s.memory (address_in s to) s.sp
memory_after_store s RBP to = updated s.memory (address_in s to) s.bp
memory_after_store s other to = s.memory

-- The words of a set stay, all or those that are at RSP or higher, in the half of the address space that follows it.
abbrev pub Keeps : (ℕ → Bool) → State → State → Type 0
Keeps kept s t = (at : ℕ) → IsTrue (kept at) → t.memory at ≡ s.memory at

abbrev pub KeepsAbove : (ℕ → Bool) → State → State → Type 0
KeepsAbove kept s t =
    (bytes : ℕ) → bytes < 2 ^ 63 → IsTrue (kept (moved s.sp (pos bytes))) → t.memory (moved s.sp (pos bytes)) ≡ s.memory (moved s.sp (pos bytes))

-- The states agree in RSP, RBP and the words of a set.
pub record Agrees (kept : ℕ → Bool) (s t : State) : Type 0 where
  pub sp : t.sp ≡ s.sp
  pub bp : t.bp ≡ s.bp
  pub words : Keeps kept s t

-- A word from which RSP or RBP is loaded is one of the set.
abbrev pub IsLoaded : (ℕ → Bool) → Option Reg → ℕ → Type 0
IsLoaded kept None at = Unit {0}
IsLoaded kept (Some register) at = IsTrue (is_carried register) → IsTrue (kept at)

-- An instruction leads from one state to another.
abbrev pub IsStep : (ℕ → Bool) → Effect → State → State → Type 0
IsStep kept (Push register) s t = (word : ℕ) × IsPushed s register word × Agrees kept (state_after_push word s) t
IsStep kept (Pop register) s t = IsLoaded kept register s.sp × Agrees kept (state_after_pop register s) t
IsStep kept Leave s t = IsTrue (kept s.bp) × Agrees kept (state_after_leave s) t
IsStep kept (Move to base bytes) s t = Agrees kept (put to (moved (base_in s base) bytes) s) t
IsStep kept (Load to from) s t = IsLoaded kept (Some to) (address_in s from) × Agrees kept (put to (s.memory (address_in s from)) s) t
IsStep kept (Store from to) s t = Agrees kept (record s { memory = memory_after_store s from to }) t
IsStep kept Call s t = (t.sp ≡ s.sp) × (t.bp ≡ s.bp) × KeepsAbove kept s t
IsStep kept (Plain registers) s t =
    (contains registers RSP ≡ false → t.sp ≡ s.sp) × (contains registers RBP ≡ false → t.bp ≡ s.bp) × Keeps kept s t
IsStep kept Unknown s t = Unit {0}
IsStep kept other s t = Agrees kept s t

-- The instructions of a way, one after the other.
abbrev pub Runs : (ℕ → Bool) → List Executed → State → State → Type 0
Runs kept [] s t = s ≡ t
Runs kept (one ∷ more) s t = (mid : State) × IsStep kept one.instruction.effect s mid × Runs kept more mid t

-- RBP isn't below RSP, as that of a frame that it leads to. A rule that goes by RBP alone asks for it.
abbrev pub HasFrame : State → Type 0
HasFrame s = (bytes : ℕ) × (bytes < 2 ^ 31) × (s.bp ≡ s.sp + bytes)

abbrev pub HasFrameIfUsed : UnwindRuleX86_64 → State → Type 0
HasFrameIfUsed UseFramePointer s = HasFrame s
HasFrameIfUsed other s = Unit {0}

-- Each caller that a rule gives to a frame, a first or a later one, where the machine is in one state is where it is in another, after its
-- return. A later frame is where its call has returned.
abbrev pub ReturnsTo : (is_first : Bool) → UnwindRuleX86_64 → State → State → Type 0
ReturnsTo is_first rule state after =
    (registers : UnwindRegsX86_64) (words : Words) (caller : Caller UnwindRegsX86_64)
    → IsAt state registers words → rule_meaning rule is_first registers words ≡ Answers caller → HasReturned after caller

-- The caller that the rule gives is where the machine is once it has executed the way, and returned by the word at RSP.
abbrev pub WayReturns : (is_first : Bool) → List Executed → UnwindRuleX86_64 → Type 0
WayReturns is_first way rule =
    (kept : ℕ → Bool) (s t : State) → s.sp < 2 ^ 64 → s.bp < 2 ^ 64 → HasFrameIfUsed rule s → Runs kept way s t → IsTrue (kept t.sp)
    → ReturnsTo is_first rule s (returned t)
