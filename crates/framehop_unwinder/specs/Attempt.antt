-- What a module says of a frame, on any architecture.
use Rattle.std.specs.Prelude.{ℕ, ◌-◌, Bool, List, Option, Some, None}
use Rattle.framehop_registers.specs.Callback.{Words}
use Rattle.framehop_rules.specs.Outcome.{Outcome, Caller}
use Rattle.framehop_unwinder.specs.Modules.{Loaded, module_found}

-- What a module says of a frame at an address: a rule; or the caller of this frame, if its registers and the words of the
-- stack give one; or nothing, for all of them.
pub data Attempt (Rule Registers : Type 0) : Type 0 where
  Says : Rule → Attempt Rule Registers
  Evaluates : (Registers → Words → Option (Caller Registers)) → Attempt Rule Registers
  SaysNothing : Attempt Rule Registers

-- What steps go by: the meaning of each rule, the rule that is executed if no module says anything, and what a module
-- with this data says of a relative address in a first or a later frame.
pub record Meanings (Data Rule Registers : Type 0) : Type 0 where
  pub meaning : Rule → Bool → Registers → Words → Outcome (Caller Registers)
  pub fallback : Rule
  pub attempt : Data → ℕ → Bool → Attempt Rule Registers

-- what steps go by, from its three parts
abbrev pub meanings_of : {Data Rule Registers : Type 0} → (Rule → Bool → Registers → Words → Outcome (Caller Registers)) → Rule
    → (Data → ℕ → Bool → Attempt Rule Registers) → Meanings Data Rule Registers
meanings_of meaning fallback attempt = record { meaning = meaning; fallback = fallback; attempt = attempt }

-- what the module that an address is in says of it; without a module nothing is said
abbrev pub attempt_of : {Data Rule Registers : Type 0} → Meanings Data Rule Registers → Bool → ℕ → Option (Loaded Data)
    → Attempt Rule Registers
attempt_of m first address None = SaysNothing
attempt_of m first address (Some module_) = m.attempt module_.unwind_data (address - module_.base) first

-- what the modules of a list say of an address
abbrev pub attempt_at : {Data Rule Registers : Type 0} → Meanings Data Rule Registers → List (Loaded Data) → Bool → ℕ
    → Attempt Rule Registers
attempt_at m modules first address = attempt_of m first address (module_found modules address)
