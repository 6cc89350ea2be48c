-- What every result of unwind information keeps to.
use Rattle.std.specs.Prelude.{◌≡◌, Result, Ok, Err}
use Rattle.framehop_rules.specs.declared.unwind_result.UnwindResult.{UnwindResult}
use Rattle.framehop_rules.specs.declared.unwind_result.UnwindResult.TheVariants.{ExecRule, Uncacheable}

-- a rule in an answer can be executed
abbrev pub HasValidRule : {Rule Failure : Type 0} → (Rule → Type 0) → Result (UnwindResult Rule) Failure → Type 0
HasValidRule is_valid (Ok (ExecRule rule)) = is_valid rule
HasValidRule is_valid (Ok (Uncacheable return_address)) = Unit {0}
HasValidRule is_valid (Err failure) = Unit {0}

-- only the answer of a caller changes the registers
abbrev pub KeepsUnlessDirect : {Rule Failure Registers : Type 0} → Result (UnwindResult Rule) Failure → Registers → Registers → Type 0
KeepsUnlessDirect (Ok (ExecRule rule)) before after = after ≡ before
KeepsUnlessDirect (Ok (Uncacheable return_address)) before after = Unit {0}
KeepsUnlessDirect (Err failure) before after = after ≡ before
