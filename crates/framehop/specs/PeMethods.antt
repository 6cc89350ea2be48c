-- How the unwind data of a PE file say to unwind a frame.
use Rattle.std.specs.Prelude.{ℕ, Bool, Option, Some, None, Ok, Err}
use Rattle.framehop_rules.specs.Outcome.{Caller}
use Rattle.framehop_pe_codes.specs.Refusals.{PeResult}
use Rattle.framehop_pe_codes.specs.Sections.{PeFile}
use Rattle.framehop_pe.specs.PeAttempts.{PeAttempt, Refuses, SaysCodes, SaysRule}
use Rattle.framehop.specs.Methods.{Method, UsesCodes, UsesNothing, UsesRule}
use Rattle.framehop.specs.FormatMethods.{PeMethods}

-- a caller, which leaves out why there is none
abbrev pub caller_if_any : {Registers : Type 0} → PeResult (ℕ × Registers) → Option (Caller Registers)
caller_if_any (Ok caller) = Some (record { return_address = caller.0; registers = caller.1 })
caller_if_any (Err refusal) = None

-- by the rule, by the codes, or by nothing if they are refused
abbrev pub method_by_pe : {Rule Registers : Type 0} → PeAttempt Rule Registers → Method Rule Registers
method_by_pe (SaysRule rule) = UsesRule rule
method_by_pe (SaysCodes caller) = UsesCodes (λ registers words. caller_if_any (caller registers words))
method_by_pe (Refuses refusal) = UsesNothing

-- the same at each address of each file
abbrev pub pe_methods : {Rule Registers : Type 0} → (PeFile → ℕ → Bool → PeAttempt Rule Registers) → PeMethods Rule Registers
pe_methods attempt file relative first = method_by_pe (attempt file relative first)
