-- Instructions of a prologue at the end of some bytes: the longest run is the one that is read backwards.
use Rattle.std.proofs.Common.{◌≡◌, ◌≢◌, ◌∙◌, ℕ, ◌+◌, ◌*◌, ◌<◌, ◌≤◌, ◌^◌, refl, sym, ap, subst, arith, ◌⊎◌, inl, inr, List, [], ◌∷◌, ◌++◌, length, append_assoc, append-nil, length-append, Option, Some, None}
use Rattle.std.specs.List.{AllByRecursion}
use Rattle.std.specs.Int.{to_le_bytes, w32}
use Rattle.std.specs.Prelude.{ℤ, pos, negsuc, ◌+ℤ◌, ◌≤ℤ◌, IfSome, IfNone}
use Rattle.std.proofs.lemmas.Int.{ints}
use Rattle.framehop_analysis.specs.PairsAarch64.{IsPairWord, mode_bits, imm7_of}
use Rattle.framehop_analysis.specs.EpilogueAarch64.{IsRuleFor, FieldsFit}
use Rattle.framehop_analysis.specs.PrologueInstructionsAarch64.{PrologueInstruction, Sign, Store, Sub, PrologueFits, prologue_word, prologue_spelling, lowering, lowering_of_all}
use Rattle.framehop_analysis.specs.PrologueAarch64.{IsExpectedWord, IsExpected, IsLongestRun, IsPrologue, IsPrologueRule, IsRuleOfPrologue}
use Rattle.framehop_analysis.specs.Found.{IsFound}
use Rattle.framehop_analysis.specs.declared.aarch64.instruction_analysis.epilogue.Restored.{Restored}
use Rattle.framehop_analysis.specs.declared.aarch64.instruction_analysis.pair.Pair.{Pair}
use Rattle.framehop_rules.specs.declared.aarch64.unwind_rule.UnwindRuleAarch64.{UnwindRuleAarch64}
use Rattle.framehop_analysis.proofs.DistinctWords.{same_fields, same_mode, same_words, same_pair, mode_few, words_few}
use Rattle.framehop_analysis.proofs.Found.{found}
use Rattle.framehop_analysis.proofs.OneRuleAarch64.{one_rule}
use Rattle.framehop_analysis.proofs.Words.{four, last_four, split_same}

-- ---- one instruction

pub prologue_fits : (x : PrologueInstruction) → PrologueFits x → prologue_word x < 2 ^ 32
prologue_fits Sign fits = omega arith
prologue_fits (Store bit_30 pair) fits = omega (arith, fits.0, fits.1.second, fits.1.first, mode_few pair.mode, words_few pair.offset_by_8 fits.1.low fits.1.high)
prologue_fits (Sub shift number) fits = omega (arith, fits.0, fits.1)

pub same_prologue_instruction : (one other : PrologueInstruction) → PrologueFits one → PrologueFits other → prologue_word one ≡ prologue_word other → one ≡ other
same_prologue_instruction Sign Sign fits other_fits is = refl
same_prologue_instruction (Sub shift number) (Sub shift2 number2) fits other_fits is =
    let shifts : shift ≡ shift2 = omega (arith, fits.0, fits.1, other_fits.0, other_fits.1, is) in
    let numbers : number ≡ number2 = omega (arith, fits.0, fits.1, other_fits.0, other_fits.1, is) in
    cc
same_prologue_instruction (Sub shift number) Sign fits other_fits is = absurd (omega (arith, fits.0, fits.1, is))
same_prologue_instruction Sign (Sub shift number) fits other_fits is = absurd (omega (arith, other_fits.0, other_fits.1, is))
same_prologue_instruction (Store bit_30 pair) (Store other_bit_30 pair2) fits other_fits is =
    let same = same_fields 0 bit_30 (mode_bits pair.mode) (imm7_of pair.offset_by_8) pair.second pair.first other_bit_30 (mode_bits pair2.mode) (imm7_of pair2.offset_by_8) pair2.second pair2.first
    fits.0 (mode_few pair.mode).1 (words_few pair.offset_by_8 fits.1.low fits.1.high) fits.1.second fits.1.first
    other_fits.0 (mode_few pair2.mode).1 (words_few pair2.offset_by_8 other_fits.1.low other_fits.1.high) other_fits.1.second other_fits.1.first is in
    let modes = same_mode pair.mode pair2.mode same.modes in
    let words = same_words pair.offset_by_8 pair2.offset_by_8 fits.1.low fits.1.high other_fits.1.low other_fits.1.high same.offsets in
    let firsts = same.firsts in
    let seconds = same.seconds in
    let bits_30 = same.bits_30 in
    let pairs : pair ≡ pair2 = same_pair pair pair2 modes words firsts seconds in
    ap (λ s. Store s pair) bits_30 ∙ ap (Store other_bit_30) pairs
same_prologue_instruction (Store bit_30 pair) Sign fits other_fits is =
    absurd (omega (arith, fits.0, fits.1.second, fits.1.first, mode_few pair.mode, words_few pair.offset_by_8 fits.1.low fits.1.high, is))
same_prologue_instruction Sign (Store bit_30 pair) fits other_fits is =
    absurd (omega (arith, other_fits.0, other_fits.1.second, other_fits.1.first, mode_few pair.mode, words_few pair.offset_by_8 other_fits.1.low other_fits.1.high, is))
same_prologue_instruction (Store bit_30 pair) (Sub shift number) fits other_fits is =
    absurd (omega (arith, fits.0, other_fits.0, other_fits.1, fits.1.second, fits.1.first, mode_few pair.mode, words_few pair.offset_by_8 fits.1.low fits.1.high, is))
same_prologue_instruction (Sub shift number) (Store bit_30 pair) fits other_fits is =
    absurd (omega (arith, other_fits.0, fits.0, fits.1, other_fits.1.second, other_fits.1.first, mode_few pair.mode, words_few pair.offset_by_8 other_fits.1.low other_fits.1.high, is))

-- no store, no subtraction and no signature is none of the three
pub spells_none : (word : ℕ) → ((pair : Pair) → IsPairWord 0 word pair → ⊥) → ((shift number : ℕ) → shift < 2 → number < 4096 → word ≢ prologue_word (Sub shift number)) → word ≢ prologue_word Sign
    → (instruction : PrologueInstruction) → PrologueFits instruction → word ≢ prologue_word instruction
spells_none word no_store no_sub no_sign (Store bit_30 pair) fits is = no_store pair (record { fits = fits.1; bit_30 = bit_30; bit_30_fits = fits.0; is = is })
spells_none word no_store no_sub no_sign (Sub shift number) fits is = no_sub shift number fits.0 fits.1 is
spells_none word no_store no_sub no_sign Sign fits is = no_sign is

-- ---- lists by their ends

record IsEnded (xs : List PrologueInstruction) : Type 0 where
  pub init : List PrologueInstruction
  pub last : PrologueInstruction
  pub is : xs ≡ init ++ last ∷ []

by_end : (xs : List PrologueInstruction) → (xs ≡ []) ⊎ IsEnded xs
by_end [] = inl refl
by_end (x ∷ xs) = elim (by_end xs) [
  | inl empty ↦ inr (record { init = []; last = x; is = ap (λ rest. x ∷ rest) empty })
  | inr ended ↦ inr (record { init = x ∷ ended.init; last = ended.last; is = ap (λ rest. x ∷ rest) ended.is })
]

all_parts : (xs : List PrologueInstruction) (last : PrologueInstruction) → AllByRecursion PrologueFits (xs ++ last ∷ []) → AllByRecursion PrologueFits xs × PrologueFits last
all_parts [] last all = (tt, all.0)
all_parts (x ∷ xs) last all = let rest = all_parts xs last all.1 in ((all.0, rest.0), rest.1)

spelling_end : (xs : List PrologueInstruction) (last : PrologueInstruction) → prologue_spelling (xs ++ last ∷ []) ≡ prologue_spelling xs ++ to_le_bytes w32 (prologue_word last)
spelling_end [] last = append-nil (to_le_bytes w32 (prologue_word last))
spelling_end (x ∷ xs) last = ap (λ bs. to_le_bytes w32 (prologue_word x) ++ bs) (spelling_end xs last) ∙ sym (append_assoc (to_le_bytes w32 (prologue_word x)) (prologue_spelling xs) (to_le_bytes w32 (prologue_word last)))

-- ---- a run that is read so far

abbrev GoesOn : List ℕ → List ℕ → Type 0
GoesOn prefix other_prefix = (length prefix ≤ length other_prefix) ⊎ ((more : List PrologueInstruction) × AllByRecursion PrologueFits more × (prefix ≡ other_prefix ++ prologue_spelling more))

pub record IsGreedyRun (bytes prefix : List ℕ) (instructions : List PrologueInstruction) (restored : Restored) : Type 0 where
  pub all : AllByRecursion PrologueFits instructions
  pub spelled : bytes ≡ prefix ++ prologue_spelling instructions
  pub lowered : restored.raise ≡ lowering_of_all instructions
  pub no_fp : restored.fp ≡ None
  pub no_lr : restored.lr ≡ None
  pub low : negsuc (2 ^ 34 * length instructions) ≤ℤ restored.raise
  pub high : restored.raise ≤ℤ pos (2 ^ 34 * length instructions)
  pub within : length instructions + length prefix ≤ length bytes
  pub greedy : (other_prefix : List ℕ) (others : List PrologueInstruction) → AllByRecursion PrologueFits others → bytes ≡ other_prefix ++ prologue_spelling others
      → (length prefix ≤ length other_prefix) ⊎ ((more : List PrologueInstruction) × AllByRecursion PrologueFits more × (prefix ≡ other_prefix ++ prologue_spelling more))

shorter : (prefix prefix2 : List ℕ) (x : PrologueInstruction) → prefix ≡ prefix2 ++ to_le_bytes w32 (prologue_word x) → length prefix ≡ length prefix2 + 4
shorter prefix prefix2 x is = omega (arith, ap length is, length-append prefix2 (to_le_bytes w32 (prologue_word x)))

without_last : (prefix prefix2 other_prefix : List ℕ) (x : PrologueInstruction) (more : List PrologueInstruction) → PrologueFits x → prefix ≡ prefix2 ++ to_le_bytes w32 (prologue_word x) → AllByRecursion PrologueFits more
    → prefix ≡ other_prefix ++ prologue_spelling more → GoesOn prefix2 other_prefix
without_last prefix prefix2 other_prefix x more fits is all same = elim (by_end more) [
  | inl empty ↦ inl (omega (arith, shorter prefix prefix2 x is, ap length (same ∙ ap (λ m. other_prefix ++ prologue_spelling m) empty ∙ append-nil other_prefix)))
  | inr ended ↦
      let parts = all_parts ended.init ended.last (subst (AllByRecursion PrologueFits) ended.is all) in
      let here : prefix ≡ (other_prefix ++ prologue_spelling ended.init) ++ to_le_bytes w32 (prologue_word ended.last) =
      same ∙ ap (λ m. other_prefix ++ prologue_spelling m) ended.is ∙ ap (λ bs. other_prefix ++ bs) (spelling_end ended.init ended.last)
      ∙ sym (append_assoc other_prefix (prologue_spelling ended.init) (to_le_bytes w32 (prologue_word ended.last))) in
      inr (
        ended.init,
        parts.0,
        (last_four prefix2 (other_prefix ++ prologue_spelling ended.init) (prologue_word x) (prologue_word ended.last) (prologue_fits x fits) (prologue_fits ended.last parts.1) (sym is ∙ here)).0,
      )
]

pub run_and_one : (bytes prefix prefix2 : List ℕ) (instructions : List PrologueInstruction) (x : PrologueInstruction) (lowered : ℤ) (restored after : Restored) → IsGreedyRun bytes prefix instructions restored
    → PrologueFits x → prefix ≡ prefix2 ++ to_le_bytes w32 (prologue_word x) → lowered ≡ lowering x
    → after.raise ≡ restored.raise +ℤ lowered → after.fp ≡ restored.fp → after.lr ≡ restored.lr
    → (restored.raise +ℤ negsuc (2 ^ 33)) ≤ℤ after.raise → after.raise ≤ℤ (restored.raise +ℤ pos (2 ^ 33))
    → IsGreedyRun bytes prefix2 (x ∷ instructions) after
run_and_one bytes prefix prefix2 instructions x lowered restored after run fits is seen raise_is fp_is lr_is above below =
    record {
      all = (fits, run.all);
      spelled = run.spelled ∙ ap (λ bs. bs ++ prologue_spelling instructions) is ∙ append_assoc prefix2 (to_le_bytes w32 (prologue_word x)) (prologue_spelling instructions);
      lowered = raise_is ∙ ap (λ z. restored.raise +ℤ z) seen ∙ ap (λ z. z +ℤ lowering x) run.lowered ∙ swap (lowering_of_all instructions) (lowering x);
      no_fp = fp_is ∙ run.no_fp;
      no_lr = lr_is ∙ run.no_lr;
      low = omega (arith, ints, run.low, above);
      high = omega (arith, ints, run.high, below);
      within = omega (arith, run.within, shorter prefix prefix2 x is);
      greedy = λ other_prefix others all same. elim (run.greedy other_prefix others all same) [
        | inl far ↦ inl (omega (arith, far, shorter prefix prefix2 x is))
        | inr (more, all_more, on) ↦ without_last prefix prefix2 other_prefix x more fits is all_more on
      ];
    }
  where
    swap : (y z : ℤ) → y +ℤ z ≡ z +ℤ y
    swap y z = omega (arith, ints)

-- a run that can't go on is the longest
pub whole_run : (bytes prefix : List ℕ) (instructions : List PrologueInstruction) (restored : Restored) → IsGreedyRun bytes prefix instructions restored
    → ((f : List ℕ) (x : PrologueInstruction) → PrologueFits x → prefix ≢ f ++ to_le_bytes w32 (prologue_word x)) → IsLongestRun bytes prefix instructions
whole_run bytes prefix instructions restored run none = record {
  all = run.all;
  spelled = run.spelled;
  longest = λ other_prefix others all same. elim (run.greedy other_prefix others all same) [
    | inl far ↦ far
    | inr (more, all_more, is) ↦ elim (by_end more) [
      | inl empty ↦ omega (arith, ap length (is ∙ ap (λ m. other_prefix ++ prologue_spelling m) empty ∙ append-nil other_prefix))
      | inr ended ↦ absurd (none (other_prefix ++ prologue_spelling ended.init) ended.last (all_parts ended.init ended.last (subst (AllByRecursion PrologueFits) ended.is all_more)).1
          (is ∙ ap (λ m. other_prefix ++ prologue_spelling m) ended.is ∙ ap (λ bs. other_prefix ++ bs) (spelling_end ended.init ended.last)
          ∙ sym (append_assoc other_prefix (prologue_spelling ended.init) (to_le_bytes w32 (prologue_word ended.last)))))
    ]
  ];
}

-- ---- two longest runs are the same

same_prologue : (a b : List PrologueInstruction) → AllByRecursion PrologueFits a → AllByRecursion PrologueFits b → prologue_spelling a ≡ prologue_spelling b → a ≡ b
same_prologue [] [] all_a all_b same = refl
same_prologue [] (y ∷ b) all_a all_b same = absurd (omega (arith, ap length same, length-append (to_le_bytes w32 (prologue_word y)) (prologue_spelling b)))
same_prologue (x ∷ a) [] all_a all_b same = absurd (omega (arith, ap length same, length-append (to_le_bytes w32 (prologue_word x)) (prologue_spelling a)))
same_prologue (x ∷ a) (y ∷ b) all_a all_b same =
    let heads = four (prologue_word x) (prologue_word y) (prologue_spelling a) (prologue_spelling b) (prologue_fits x all_a.0) (prologue_fits y all_b.0) same in
    ap (λ xs. x ∷ xs) (same_prologue a b all_a.1 all_b.1 heads.1) ∙ ap (λ i. i ∷ b) (same_prologue_instruction x y all_a.0 all_b.0 heads.0)

pub same_run : (bytes prefix other_prefix : List ℕ) (instructions others : List PrologueInstruction) → IsLongestRun bytes prefix instructions → IsLongestRun bytes other_prefix others → instructions ≡ others
same_run bytes prefix other_prefix instructions others run other =
    let far = run.longest other_prefix others other.all other.spelled in
    let near = other.longest prefix instructions run.all run.spelled in
    let split = split_same prefix other_prefix (prologue_spelling instructions) (prologue_spelling others) (omega (arith, far, near)) (sym run.spelled ∙ other.spelled) in
    same_prologue instructions others run.all other.all split.rests

pub expected_fits : (word : ℕ) (lowered : ℤ) → IsExpectedWord word lowered → word < 2 ^ 32
expected_fits word lowered (inl (instruction, fits, needs, is)) = omega (arith, is, prologue_fits instruction fits)
expected_fits word lowered (inr sets) = omega (arith, sets.is, sets.shift_fits, sets.number_fits)

-- ---- what is read is the prologue

pub unexpected : (before from prefix : List ℕ) (found instructions : List PrologueInstruction) (restored : Restored) → IsLongestRun before prefix found → restored.raise ≡ lowering_of_all found
    → IsPrologue before from instructions → IsExpected from restored.raise
unexpected before from prefix found instructions restored run raise_is there =
    subst (λ (z : ℤ). IsExpected from z) (ap lowering_of_all (same_run before there.prefix prefix instructions found there.run run) ∙ sym raise_is) there.next

restored_rule : (found : List PrologueInstruction) (restored : Restored) (rule : UnwindRuleAarch64) → restored.raise ≡ lowering_of_all found → restored.fp ≡ None → restored.lr ≡ None
    → IsRuleFor restored.raise restored.fp restored.lr rule → IsRuleOfPrologue found rule
restored_rule found restored rule raise_is fp_is lr_is is =
    subst (λ (z : ℤ). IsRuleFor z None None rule) raise_is
    (subst (λ (o : Option ℤ). IsRuleFor restored.raise o None rule) fp_is (subst (λ (o : Option ℤ). IsRuleFor restored.raise restored.fp o rule) lr_is is))

rule_restored : (found : List PrologueInstruction) (restored : Restored) (rule : UnwindRuleAarch64) → restored.raise ≡ lowering_of_all found → restored.fp ≡ None → restored.lr ≡ None
    → IsRuleOfPrologue found rule → IsRuleFor restored.raise restored.fp restored.lr rule
rule_restored found restored rule raise_is fp_is lr_is is =
    subst (λ (o : Option ℤ). IsRuleFor restored.raise restored.fp o rule) (sym lr_is)
    (subst (λ (o : Option ℤ). IsRuleFor restored.raise o None rule) (sym fp_is) (subst (λ (z : ℤ). IsRuleFor z None None rule) (sym raise_is) is))

pub ruled : (before from prefix : List ℕ) (found : List PrologueInstruction) (restored : Restored) (result : Option UnwindRuleAarch64) → IsLongestRun before prefix found → restored.raise ≡ lowering_of_all found
    → restored.fp ≡ None → restored.lr ≡ None → IsExpected from restored.raise
    → IfSome result (λ rule. FieldsFit rule × IsRuleFor restored.raise restored.fp restored.lr rule)
    → IfSome result (λ rule. (instructions : List PrologueInstruction) × IsPrologue before from instructions × FieldsFit rule × IsRuleOfPrologue instructions rule)
ruled before from prefix found restored None run raise_is fp_is lr_is expected is = tt
ruled before from prefix found restored (Some rule) run raise_is fp_is lr_is expected is = (
  found,
  record { prefix = prefix; run = run; next = subst (λ (z : ℤ). IsExpected from z) raise_is expected },
  is.0,
  restored_rule found restored rule raise_is fp_is lr_is is.1,
)

pub unruled : (before from prefix : List ℕ) (found : List PrologueInstruction) (restored : Restored) (result : Option UnwindRuleAarch64) → IsLongestRun before prefix found → restored.raise ≡ lowering_of_all found
    → restored.fp ≡ None → restored.lr ≡ None
    → IfNone result ((rule : UnwindRuleAarch64) → FieldsFit rule → IsRuleFor restored.raise restored.fp restored.lr rule → ⊥)
    → IfNone result ((instructions : List PrologueInstruction) (rule : UnwindRuleAarch64) → IsPrologue before from instructions → FieldsFit rule → IsRuleOfPrologue instructions rule → ⊥)
unruled before from prefix found restored None run raise_is fp_is lr_is none = λ instructions rule there fits is.
    none rule fits (rule_restored found restored rule raise_is fp_is lr_is (subst (λ (s : List PrologueInstruction). IsRuleOfPrologue s rule) (same_run before there.prefix prefix instructions found there.run run) is))
unruled before from prefix found restored (Some rule) run raise_is fp_is lr_is none = tt

-- the rule of the run that was read is the one
one_prologue_rule : (before from : List ℕ) (one other : UnwindRuleAarch64) → IsPrologueRule before from one → IsPrologueRule before from other → one ≡ other
one_prologue_rule before from one other (list, there, fits, is) (other_list, other_there, other_fits, other_is) =
    let same : other_list ≡ list = same_run before other_there.prefix there.prefix other_list list other_there.run there.run in
    one_rule (lowering_of_all list) None None one other fits other_fits is (subst (λ (l : List PrologueInstruction). IsRuleOfPrologue l other) same other_is)

pub one_prologue : (before from : List ℕ) (one other : List PrologueInstruction) → IsPrologue before from one → IsPrologue before from other → one ≡ other
one_prologue before from one other there other_there = same_run before there.prefix other_there.prefix one other there.run other_there.run

pub read_prologue : (before from : List ℕ) (result : Option UnwindRuleAarch64)
    → IfSome result (λ rule. (instructions : List PrologueInstruction) × IsPrologue before from instructions × FieldsFit rule × IsRuleOfPrologue instructions rule)
    → IfNone result ((instructions : List PrologueInstruction) (rule : UnwindRuleAarch64) → IsPrologue before from instructions → FieldsFit rule → IsRuleOfPrologue instructions rule → ⊥)
    → IsFound (IsPrologueRule before from) result
read_prologue before from (Some rule) is none = found (IsPrologueRule before from) (Some rule) (one_prologue_rule before from) is tt
read_prologue before from None is none =
    found (IsPrologueRule before from) None (one_prologue_rule before from) tt (λ rule there. let (list, stands, fits, rule_is) = there in none list rule stands fits rule_is)
