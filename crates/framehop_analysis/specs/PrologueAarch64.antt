-- The start of a function on aarch64: instructions up to the address, and the rule for them.
use Rattle.std.specs.List.{AllByRecursion}
use Rattle.std.specs.Int.{to_le_bytes, w32}
use Rattle.std.specs.Prelude.{ℕ, ◌≡◌, ◌≢◌, ◌≤◌, ◌⊎◌, ℤ, pos, List, ◌++◌, length, None}
use Rattle.framehop_analysis.specs.EpilogueInstructionsAarch64.{SetsFramePointer}
use Rattle.framehop_analysis.specs.EpilogueAarch64.{IsRuleFor, FieldsFit}
use Rattle.framehop_analysis.specs.PrologueInstructionsAarch64.{PrologueInstruction, Sign, Store, Sub, PrologueFits, prologue_word, prologue_spelling, lowering_of_all}
use Rattle.framehop_analysis.specs.declared.aarch64.instruction_analysis.pair.AddressingMode.TheVariants.{SignedOffset}
use Rattle.framehop_rules.specs.declared.aarch64.unwind_rule.UnwindRuleAarch64.{UnwindRuleAarch64}

-- A store that leaves the stack pointer is expected only if the instructions before lower it by other than 0.
abbrev pub IsExpectedInstruction : PrologueInstruction → ℤ → Type 0
IsExpectedInstruction Sign lowered = Unit {0}
IsExpectedInstruction (Store bit_30 pair) lowered = pair.mode ≡ SignedOffset → lowered ≢ pos 0
IsExpectedInstruction (Sub shift number) lowered = Unit {0}

-- The word spells an expected instruction, or sets the frame pointer.
abbrev pub IsExpectedWord : ℕ → ℤ → Type 0
IsExpectedWord word lowered = ((instruction : PrologueInstruction) × PrologueFits instruction × IsExpectedInstruction instruction lowered × (word ≡ prologue_word instruction)) ⊎ SetsFramePointer word

-- The bytes begin with such a word.
abbrev pub IsExpected : List ℕ → ℤ → Type 0
IsExpected bytes lowered = (word : ℕ) × (suffix : List ℕ) × IsExpectedWord word lowered × (bytes ≡ to_le_bytes w32 word ++ suffix)

-- The bytes end with these instructions, and with no run of such instructions that begins further back.
pub record IsLongestRun (bytes prefix : List ℕ) (instructions : List PrologueInstruction) : Type 0 where
  pub all : AllByRecursion PrologueFits instructions
  pub spelled : bytes ≡ prefix ++ prologue_spelling instructions
  pub longest : (other_prefix : List ℕ) (others : List PrologueInstruction) → AllByRecursion PrologueFits others
      → bytes ≡ other_prefix ++ prologue_spelling others → length prefix ≤ length other_prefix

-- The instructions are the longest run that ends at the address, and an expected one comes next.
pub record IsPrologue (before from : List ℕ) (instructions : List PrologueInstruction) : Type 0 where
  pub prefix : List ℕ
  pub run : IsLongestRun before prefix instructions
  pub next : IsExpected from (lowering_of_all instructions)

-- The rule raises the stack pointer by as much as the instructions lower it.
abbrev pub IsRuleOfPrologue : List PrologueInstruction → UnwindRuleAarch64 → Type 0
IsRuleOfPrologue instructions rule = IsRuleFor (lowering_of_all instructions) None None rule

-- The rules of prologues that stand between these bytes.
abbrev pub IsPrologueRule : List ℕ → List ℕ → UnwindRuleAarch64 → Type 0
IsPrologueRule before from rule =
    (instructions : List PrologueInstruction) × IsPrologue before from instructions × FieldsFit rule × IsRuleOfPrologue instructions rule
