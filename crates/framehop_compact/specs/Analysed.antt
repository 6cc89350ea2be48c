-- The rule of the machine code where a first frame stands.
use Rattle.std.specs.Prelude.{ℕ, ◌≡◌, Bool, true, false, List, Option, Some, None, Ok}
use Rattle.std.specs.Borrow.{Bor}
use Rattle.std.specs.Option.{option_map}
use Rattle.framehop_analysis.specs.Found.{HasAnswer, IsFound, IsOfFirst}
use Rattle.framehop_compact.specs.CompactResults.{CuiResult}
use Rattle.framehop_compact.specs.declared.cui_unwind_result.CuiUnwindResult.TheVariants.{ExecRule}

-- The bytes that are lent, if some are.
abbrev pub lent_bytes : Option (Bor (List ℕ)) → Option (List ℕ)
lent_bytes = option_map (λ bytes. bytes.now)

-- The rules that stand at an offset of a function.
abbrev pub RulesAt : Type 0 → Type 1
RulesAt Rule = List ℕ → ℕ → Rule → Type 0

-- The rule of the prologue at each offset of each function, or else of the epilogue there, or that there is none.
abbrev pub IsKnownAt : {Rule : Type 0} → RulesAt Rule → RulesAt Rule → Type 0
IsKnownAt IsPrologueRule IsEpilogueRule = (text : List ℕ) (offset : ℕ) → HasAnswer (IsPrologueRule text offset) (IsEpilogueRule text offset)

-- The rule of the machine code. A later frame has none, nor has a function whose bytes aren't there.
abbrev pub analysed : {Rule : Type 0} → (List ℕ → ℕ → Option Rule) → Bool → ℕ → Option (List ℕ) → Option Rule
analysed rule_at true offset (Some text) = rule_at text offset
analysed rule_at true offset None = None
analysed rule_at false offset text = None

-- This is that rule.
abbrev pub IsAnalysed : {Rule : Type 0} → RulesAt Rule → RulesAt Rule → Bool → ℕ → Option (List ℕ) → Option Rule → Type 0
IsAnalysed IsPrologueRule IsEpilogueRule true offset (Some text) found = IsFound (IsOfFirst (IsPrologueRule text offset) (IsEpilogueRule text offset)) found
IsAnalysed IsPrologueRule IsEpilogueRule true offset None found = found ≡ None
IsAnalysed IsPrologueRule IsEpilogueRule false offset text found = found ≡ None

-- The rule that was found, or else this.
abbrev pub found_or : {Rule : Type 0} → Option Rule → CuiResult Rule → CuiResult Rule
found_or (Some rule) other = Ok (ExecRule rule)
found_or None other = other
