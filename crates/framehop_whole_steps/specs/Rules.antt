-- What the rules that steps by whole rows keep mean.
use Rattle.std.specs.Prelude.{ℕ, Bool, List, []}
use Rattle.framehop_registers.specs.Callback.{Words}
use Rattle.framehop_rules.specs.Outcome.{Outcome, Ends, Refuses, Answers, Caller}
use Rattle.framehop_whole_steps.specs.Registers.{forgotten}
use Rattle.framehop_whole_steps.specs.declared.registers.WholeRegs.{WholeRegs}
use Rattle.framehop_whole_steps.specs.declared.rule.WholeRule.{WholeRule}
use Rattle.framehop_whole_steps.specs.declared.rule.WholeRule.TheVariants as whole

-- a caller by a rule: no other of its registers is known
abbrev pub plain_caller : {Registers : Type 0} → Caller Registers → Caller (WholeRegs Registers)
plain_caller caller = record { return_address = caller.return_address; registers = forgotten caller.registers }

-- the outcome of a rule of the architecture
abbrev pub plain_outcome : {Registers : Type 0} → Outcome (Caller Registers) → Outcome (Caller (WholeRegs Registers))
plain_outcome Ends = Ends
plain_outcome (Refuses error) = Refuses error
plain_outcome (Answers caller) = Answers (plain_caller caller)

-- the meaning of a rule, by those of the architecture
abbrev pub meaning_by : {Rule Registers : Type 0} → (Rule → Bool → Registers → Words → Outcome (Caller Registers))
    → WholeRule Rule → Bool → WholeRegs Registers → Words → Outcome (Caller (WholeRegs Registers))
meaning_by meaning whole.Ends first registers words = Ends
meaning_by meaning (whole.Plain rule) first registers words = plain_outcome (meaning rule first registers.regs words)

-- the words that a rule reads
abbrev pub reads_by : {Rule Registers : Type 0} → (Rule → Bool → Registers → Words → List ℕ)
    → WholeRule Rule → Bool → WholeRegs Registers → Words → List ℕ
reads_by reads whole.Ends first registers words = []
reads_by reads (whole.Plain rule) first registers words = reads rule first registers.regs words

-- a rule that can be executed
abbrev pub is_valid_by : {Rule : Type 0} → (Rule → Type 0) → WholeRule Rule → Type 0
is_valid_by is_valid whole.Ends = Unit {0}
is_valid_by is_valid (whole.Plain rule) = is_valid rule
