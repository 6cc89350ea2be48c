-- What compact unwind info means on an architecture.
use Rattle.std.specs.Prelude.{ℕ, Bool, List, Option}
use Rattle.framehop_code_rules.specs.declared.CodeRules.{CodeRules}
use Rattle.framehop_compact_tables.specs.declared.function.Function.{Function}
use Rattle.framehop_compact.specs.CompactResults.{CuiResult}

-- The rules at the start of a function, in a stub and, by the rules of code, at an offset in `__stub_helper`; and the step in a function,
-- by whether the frame is the first, the offset of the address, and the function's bytes, if they are there.
pub record CompactMeanings (Rule : Type 0) : Type 0 where
  pub start_rule : Rule
  pub stub_rule : Rule
  pub helper_rule : CodeRules → ℕ → Rule
  pub unwound : Function → Bool → ℕ → Option (List ℕ) → CuiResult Rule
