-- The end of a function on aarch64, from an offset on, or told by what stands before the offset.
use Rattle.std.specs.Int.{to_le_bytes, w32}
use Rattle.std.specs.Prelude.{ℕ, ◌≡◌, ◌*◌, ◌-◌, ◌<◌, ◌≤◌, ◌⊎◌, List, [], ◌++◌, take, drop}
use Rattle.framehop_analysis.specs.EpilogueInstructionsAarch64.{EpilogueInstruction, Load, Add, EpilogueFits, epilogue_word}
use Rattle.framehop_analysis.specs.FunctionEndsAarch64.{IsBranch, IsRegisterBranch, BeginsWithAuthTailCall}
use Rattle.framehop_analysis.specs.EpilogueAarch64.{IsEnd, FieldsFit, IsRuleOfEpilogue}
use Rattle.framehop_rules.specs.declared.aarch64.unwind_rule.UnwindRuleAarch64.{UnwindRuleAarch64}
use Rattle.framehop_analysis.specs.declared.aarch64.instruction_analysis.pair.AddressingMode.TheVariants.{PostIndex}

-- The offset is that of a word of an authenticated tail call, after so many of its words.
pub record IsWordOf (text : List ℕ) (offset before : ℕ) : Type 0 where
  pub words : ℕ
  pub enough : 4 * before ≤ offset
  pub begins : BeginsWithAuthTailCall (drop (offset - 4 * before) text) words
  pub within : before < words

-- The offset is that of one of its words.
abbrev pub IsInAuthTailCall : List ℕ → ℕ → Type 0
IsInAuthTailCall text offset = (before : ℕ) × IsWordOf text offset before

-- A load that adds its offset afterwards, or an addition.
abbrev pub Raises : EpilogueInstruction → Type 0
Raises (Load bit_30 pair) = pair.mode ≡ PostIndex
Raises (Add shift number) = Unit {0}

-- The word spells one of these.
abbrev pub IsRaise : ℕ → Type 0
IsRaise word = (instruction : EpilogueInstruction) × EpilogueFits instruction × Raises instruction × (word ≡ epilogue_word instruction)

-- The bytes end with such a word.
abbrev pub EndsWithRaise : List ℕ → Type 0
EndsWithRaise bytes = (word : ℕ) × (prefix : List ℕ) × IsRaise word × (bytes ≡ prefix ++ to_le_bytes w32 word)

-- The bytes begin with `b` or `br`.
abbrev pub BeginsWithBranch : List ℕ → Type 0
BeginsWithBranch bytes = (word : ℕ) × (suffix : List ℕ) × (IsBranch word ⊎ IsRegisterBranch word) × (bytes ≡ to_le_bytes w32 word ++ suffix)

-- A branch comes right after a word that raises the stack pointer.
abbrev pub IsAfterRaise : List ℕ → ℕ → Type 0
IsAfterRaise text offset = EndsWithRaise (take offset text) × BeginsWithBranch (drop offset text)

-- The offset is in the end of a function, by the words before it.
abbrev pub IsInEnd : List ℕ → ℕ → Type 0
IsInEnd text offset = IsInAuthTailCall text offset ⊎ IsAfterRaise text offset

-- What stands at the offset: instructions up to where the function is left; or none, if the offset is in its end.
pub data IsEpilogue (text : List ℕ) (offset : ℕ) (instructions : List EpilogueInstruction) : Type 0 where
  Forward : IsEnd (drop offset text) instructions → IsEpilogue text offset instructions
  Back : instructions ≡ [] → IsInEnd text offset → IsEpilogue text offset instructions

-- The rules of epilogues that stand at the offset.
abbrev pub IsEpilogueRule : List ℕ → ℕ → UnwindRuleAarch64 → Type 0
IsEpilogueRule text offset rule =
    (instructions : List EpilogueInstruction) × IsEpilogue text offset instructions × FieldsFit rule × IsRuleOfEpilogue instructions rule
