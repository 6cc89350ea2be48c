-- One list of instructions is recognised at an offset.
use Rattle.std.proofs.Common.{◌≡◌, ◌≢◌, ◌∙◌, ℕ, zero, suc, ◌+◌, ◌-◌, ◌*◌, ◌<◌, ◌^◌, ◌⊎◌, inl, inr, refl, sym, ap, subst, arith, List, [], ◌∷◌, ◌++◌, length, drop, append_assoc, Option, Some, None}
use Rattle.std.specs.Prelude.{◌/◌, ◌%◌}
use Rattle.std.specs.List.{AllByRecursion}
use Rattle.std.specs.Option.{IfNone, IfSome}
use Rattle.framehop_analysis.specs.Found.{IsFound}
use Rattle.framehop_analysis.specs.EpilogueInstructionsAarch64.{EpilogueInstruction, Load, Add, EpilogueFits, epilogue_word, epilogue_spelling}
use Rattle.framehop_analysis.specs.FunctionEndsAarch64.{bytes_of_words, IsBranch, IsRegisterBranch, IsMoveToX16, IsAuthBranch, IsTail, auth_tail_call, IsWordOfAuthTailCall, BeginsWithWordOfAuthTailCall}
use Rattle.framehop_analysis.specs.EpilogueAarch64.{FieldsFit, IsEnd, IsRuleFor, IsRuleOfEpilogue, raise_of_all, last_load_offset}
use Rattle.framehop_analysis.specs.EpilogueViewsAarch64.{Restores}
use Rattle.framehop_analysis.specs.declared.aarch64.instruction_analysis.epilogue.Restored.{Restored}
use Rattle.framehop_analysis.specs.LookBackAarch64.{IsInAuthTailCall, IsInEnd, IsEpilogue, Forward, Back, IsEpilogueRule}
use Rattle.std.specs.Int.{to_le_bytes, w32}
use Rattle.std.proofs.lemmas.List.{drop-drop}
use Rattle.framehop_rules.specs.declared.aarch64.unwind_rule.UnwindRuleAarch64.{UnwindRuleAarch64}
use Rattle.framehop_analysis.proofs.Words.{four}
use Rattle.framehop_analysis.proofs.DistinctWords.{mode_few, words_few}
use Rattle.framehop_analysis.proofs.EndWords.{word_fits}
use Rattle.framehop_analysis.proofs.EpilogueReadingAarch64.{same_end, rule_restores, restores_rule}
use Rattle.framehop_analysis.proofs.Found.{found}
use Rattle.framehop_analysis.proofs.OneRuleAarch64.{one_rule}

-- a word that is no load and no addition
record IsOther (word : ℕ) : Type 0 where
  pub fits : word < 2 ^ 32
  pub differs : (x : EpilogueInstruction) → EpilogueFits x → word ≢ epilogue_word x

-- the bits 26 to 29 of loads, and 26 to 31 of additions
top_of : (x : EpilogueInstruction) → EpilogueFits x → (epilogue_word x / 2 ^ 26 % 16 ≡ 10) ⊎ (epilogue_word x / 2 ^ 26 ≡ 36)
top_of (Load bit_30 pair) fits = inl (omega (arith, fits.0, fits.1.second, fits.1.first, mode_few pair.mode, words_few pair.offset_by_8 fits.1.low fits.1.high))
top_of (Add shift number) fits = inr (omega (arith, fits.0, fits.1))

by_top : (word top : ℕ) → word < 2 ^ 32 → word / 2 ^ 26 ≡ top → top % 16 ≢ 10 → top ≢ 36 → IsOther word
by_top word top fits is no_load no_add = record { fits = fits; differs = λ x x_fits same. other x (top_of x x_fits) same }
  where
    other : (x : EpilogueInstruction) → (epilogue_word x / 2 ^ 26 % 16 ≡ 10) ⊎ (epilogue_word x / 2 ^ 26 ≡ 36) → word ≡ epilogue_word x → ⊥
    other x (inl load) same = no_load (omega (arith, ap (λ w. w / 2 ^ 26 % 16) same, load, is))
    other x (inr add) same = no_add (omega (arith, ap (λ w. w / 2 ^ 26) same, add, is))

branch_other : (word : ℕ) → IsBranch word → IsOther word
branch_other word branch = by_top word 5 (omega (arith, branch.fits, branch.is)) (omega (arith, branch.fits, branch.is)) (λ e. omega (arith, e)) (λ e. omega (arith, e))

register_branch_other : (word : ℕ) → IsRegisterBranch word → IsOther word
register_branch_other word branch = by_top word 53 (omega (arith, branch.fits, branch.is)) (omega (arith, branch.fits, branch.is)) (λ e. omega (arith, e)) (λ e. omega (arith, e))

auth_branch_other : (word : ℕ) → IsAuthBranch word → IsOther word
auth_branch_other word branch = by_top word 53 (omega (arith, branch.fits, branch.is)) (omega (arith, branch.fits, branch.is)) (λ e. omega (arith, e)) (λ e. omega (arith, e))

move_other : (word : ℕ) → IsMoveToX16 word → IsOther word
move_other word move = record {
  fits = omega (arith, move.form_fits, move.number_fits, move.is);
  differs = λ x fits same. by x (top_of x fits) same;
}
  where
    by : (x : EpilogueInstruction) → (epilogue_word x / 2 ^ 26 % 16 ≡ 10) ⊎ (epilogue_word x / 2 ^ 26 ≡ 36) → word ≡ epilogue_word x → ⊥
    by x (inl load) same = omega (arith, ap (λ w. w / 2 ^ 26 % 16) same, load, move.form_fits, move.number_fits, move.is)
    by x (inr add) same = omega (arith, ap (λ w. w / 2 ^ 26) same, add, move.form_fits, move.number_fits, move.is)

-- each word of an authenticated tail call
all_other : (tail : List ℕ) → IsTail tail → AllByRecursion IsOther (auth_tail_call tail)
all_other tail is_tail = (
  by_top 0xd50323ff 53 (omega arith) (omega arith) (λ e. omega (arith, e)) (λ e. omega (arith, e)),
  (
    by_top 0xca1e07d0 50 (omega arith) (omega arith) (λ e. omega (arith, e)) (λ e. omega (arith, e)),
    (
      by_top 0xb6f00050 45 (omega arith) (omega arith) (λ e. omega (arith, e)) (λ e. omega (arith, e)),
      (by_top 0xd4388e20 53 (omega arith) (omega arith) (λ e. omega (arith, e)) (λ e. omega (arith, e)), rest tail is_tail),
    ),
  ),
)
  where
    rest : (tail : List ℕ) → IsTail tail → AllByRecursion IsOther tail
    rest [] is = absurd is
    rest (word ∷ []) is = (branch_other word is, tt)
    rest (word ∷ next ∷ []) is = (move_other word is.0, (auth_branch_other next is.1, tt))
    rest (word ∷ next ∷ third ∷ more) is = absurd is

-- the word after so many of a list, of which each is so
record HasWord (P : ℕ → Type 0) (bytes : List ℕ) : Type 0 where
  pub word : ℕ
  pub more : List ℕ
  pub other : P word
  pub spelled : bytes ≡ to_le_bytes w32 word ++ more

word_after : (P : ℕ → Type 0) (words suffix : List ℕ) (before : ℕ) → before < length words → AllByRecursion P words → HasWord P (drop (4 * before) (bytes_of_words words ++ suffix))
word_after P [] suffix before within all = absurd (omega (arith, within))
word_after P (word ∷ words) suffix zero within all = record { word = word; more = bytes_of_words words ++ suffix; other = all.0; spelled = append_assoc (to_le_bytes w32 word) (bytes_of_words words) suffix }
word_after P (word ∷ words) suffix (suc before) within all =
    let there = word_after P words suffix before (omega (arith, within)) all.1 in
    let four_more : 4 * suc before ≡ 4 + 4 * before = omega arith in
    record {
      word = there.word;
      more = there.more;
      other = there.other;
      spelled = ap (λ n. drop n (bytes_of_words (word ∷ words) ++ suffix)) four_more ∙ sym (drop-drop (4 * before) 4 (bytes_of_words (word ∷ words) ++ suffix)) ∙ there.spelled;
    }

-- the word at an offset in an authenticated tail call
word_in_call : (P : ℕ → Type 0) (text : List ℕ) (offset : ℕ) → ((tail : List ℕ) → IsTail tail → AllByRecursion P (auth_tail_call tail)) → IsInAuthTailCall text offset → HasWord P (drop offset text)
word_in_call P text offset all (before, there) =
    let begins = there.begins in
    let from : drop (4 * before) (drop (offset - 4 * before) text) ≡ drop offset text =
    drop-drop (4 * before) (offset - 4 * before) text ∙ ap (λ n. drop n text) (omega (arith, there.enough)) in
    let word = word_after P (auth_tail_call begins.tail) begins.suffix before (omega (arith, there.within, begins.counted)) (all begins.tail begins.is) in
    record { word = word.word; more = word.more; other = word.other; spelled = sym from ∙ ap (drop (4 * before)) begins.spelled ∙ word.spelled }

all_of_call : (tail : List ℕ) → IsTail tail → AllByRecursion IsWordOfAuthTailCall (auth_tail_call tail)
all_of_call tail is_tail = (inl refl, (inr (inl refl), (inr (inr (inl refl)), (inr (inr (inr (inl refl))), rest tail is_tail))))
  where
    rest : (tail : List ℕ) → IsTail tail → AllByRecursion IsWordOfAuthTailCall tail
    rest [] is = absurd is
    rest (word ∷ []) is = (inr (inr (inr (inr (inl is)))), tt)
    rest (word ∷ next ∷ []) is = (inr (inr (inr (inr (inr (inl is.0))))), (inr (inr (inr (inr (inr (inr is.1))))), tt))
    rest (word ∷ next ∷ third ∷ more) is = absurd is

pub begins_with_call_word : (text : List ℕ) (offset : ℕ) → IsInAuthTailCall text offset → BeginsWithWordOfAuthTailCall (drop offset text)
begins_with_call_word text offset there =
    let word = word_in_call IsWordOfAuthTailCall text offset all_of_call there in
    (word.word, word.more, word.other, word.spelled)

-- the word at an offset in an end
word_in_end : (text : List ℕ) (offset : ℕ) → IsInEnd text offset → HasWord IsOther (drop offset text)
word_in_end text offset (inr (raise, (word, suffix, inl branch, is))) = record { word = word; more = suffix; other = branch_other word branch; spelled = is }
word_in_end text offset (inr (raise, (word, suffix, inr branch, is))) = record { word = word; more = suffix; other = register_branch_other word branch; spelled = is }
word_in_end text offset (inl there) = word_in_call IsOther text offset all_other there

alone : (text : List ℕ) (offset : ℕ) (list : List EpilogueInstruction) → IsInEnd text offset → IsEnd (drop offset text) list → list ≡ []
alone text offset list there end = by list end.fit end.spelled
  where
    by : (list : List EpilogueInstruction) → AllByRecursion EpilogueFits list → drop offset text ≡ epilogue_spelling list ++ end.rest → list ≡ []
    by [] fit spelled = refl
    by (x ∷ more) fit spelled =
        let word = word_in_end text offset there in
        absurd (word.other.differs x fit.0 (four word.word (epilogue_word x) word.more (epilogue_spelling more ++ end.rest) word.other.fits (word_fits x fit.0)
        (sym word.spelled ∙ spelled ∙ append_assoc (to_le_bytes w32 (epilogue_word x)) (epilogue_spelling more) end.rest)).0)

pub one_epilogue : (text : List ℕ) (offset : ℕ) (one other : List EpilogueInstruction) → IsEpilogue text offset one → IsEpilogue text offset other → one ≡ other
one_epilogue text offset one other (Forward end) (Forward other_end) = same_end (drop offset text) one other end other_end
one_epilogue text offset one other (Forward end) (Back empty there) = alone text offset one there end ∙ sym empty
one_epilogue text offset one other (Back empty there) (Forward end) = empty ∙ sym (alone text offset other there end)
one_epilogue text offset one other (Back empty there) (Back other_empty other_there) = empty ∙ sym other_empty

pub one_epilogue_rule : (text : List ℕ) (offset : ℕ) (one other : UnwindRuleAarch64) → IsEpilogueRule text offset one → IsEpilogueRule text offset other → one ≡ other
one_epilogue_rule text offset one other (list, there, fits, is) (other_list, other_there, other_fits, other_is) =
    one_rule (raise_of_all list) (last_load_offset 29 list) (last_load_offset 30 list) one other fits other_fits is
    (subst (λ (l : List EpilogueInstruction). IsRuleOfEpilogue l other) (sym (one_epilogue text offset list other_list there other_there)) other_is)

-- the rule that was read is the one
pub read_epilogue : (text : List ℕ) (offset : ℕ) (result : Option UnwindRuleAarch64)
    → IfSome result (λ rule. (list : List EpilogueInstruction) × IsEpilogue text offset list × FieldsFit rule × IsRuleOfEpilogue list rule)
    → IfNone result ((list : List EpilogueInstruction) (rule : UnwindRuleAarch64) → IsEpilogue text offset list → FieldsFit rule → IsRuleOfEpilogue list rule → ⊥)
    → IsFound (IsEpilogueRule text offset) result
read_epilogue text offset (Some rule) is none = found (IsEpilogueRule text offset) (Some rule) (one_epilogue_rule text offset) is tt
read_epilogue text offset None is none =
    found (IsEpilogueRule text offset) None (one_epilogue_rule text offset) tt (λ rule there. let (list, stands, fits, rule_is) = there in none list rule stands fits rule_is)

-- the rule of the list that was read
pub read_forward : (text : List ℕ) (offset : ℕ) (list : List EpilogueInstruction) (restored : Restored) (result : Option UnwindRuleAarch64)
    → IsEnd (drop offset text) list → Restores list restored
    → IfSome result (λ rule. FieldsFit rule × IsRuleFor restored.raise restored.fp restored.lr rule)
    → IfNone result ((rule : UnwindRuleAarch64) → FieldsFit rule → IsRuleFor restored.raise restored.fp restored.lr rule → ⊥)
    → IsFound (IsEpilogueRule text offset) result
read_forward text offset list restored (Some rule) end restores is none =
    read_epilogue text offset (Some rule) (list, Forward end, is.0, restores_rule list restored rule restores is.1) tt
read_forward text offset list restored None end restores is none =
    read_epilogue text offset None tt (λ other rule there fits rule_is. none rule fits (rule_restores list restored rule restores
    (subst (λ (l : List EpilogueInstruction). IsRuleOfEpilogue l rule) (one_epilogue text offset other list there (Forward end)) rule_is)))
